use Rattle.std.proofs.Common.{length}
use Rattle.up_verify.proofs.roots.+follow.Given as goal

abbrev pub decreases-follow : goal.decreases-follow
decreases-follow g l = length l.roots.now
