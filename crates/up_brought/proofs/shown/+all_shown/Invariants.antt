use Rattle.std.proofs.Common.{length}
use Rattle.up_brought.proofs.shown.+all_shown.Given as goal

abbrev pub decreases-all_shown : goal.decreases-all_shown
decreases-all_shown g l = length l.keys.now
