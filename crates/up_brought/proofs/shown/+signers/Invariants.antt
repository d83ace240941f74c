use Rattle.std.proofs.Common.{length}
use Rattle.up_brought.proofs.shown.+signers.Given as goal

abbrev pub decreases-signers : goal.decreases-signers
decreases-signers g l = length l.keys.now
