use Rattle.std.proofs.Common.{length}
use Rattle.up_machine.proofs.same_image.+same_needs.Given as goal

abbrev pub decreases-same_needs : goal.decreases-same_needs
decreases-same_needs l = length l.a.now
