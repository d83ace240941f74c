use Rattle.std.proofs.Common.{length}
use Rattle.up_brought.proofs.held_keys.+are_of.Given as goal

abbrev pub decreases-are_of : goal.decreases-are_of
decreases-are_of g l = length l.secrets.now
