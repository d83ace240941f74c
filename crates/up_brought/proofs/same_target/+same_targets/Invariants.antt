use Rattle.std.proofs.Common.{length}
use Rattle.up_brought.proofs.same_target.+same_targets.Given as goal

abbrev pub decreases-same_targets : goal.decreases-same_targets
decreases-same_targets l = length l.a.now
