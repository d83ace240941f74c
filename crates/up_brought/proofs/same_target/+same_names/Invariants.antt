use Rattle.std.proofs.Common.{length}
use Rattle.up_brought.proofs.same_target.+same_names.Given as goal

abbrev pub decreases-same_names : goal.decreases-same_names
decreases-same_names l = length l.a.now
