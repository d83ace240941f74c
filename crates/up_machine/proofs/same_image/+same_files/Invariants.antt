use Rattle.std.proofs.Common.{length}
use Rattle.up_machine.proofs.same_image.+same_files.Given as goal

abbrev pub decreases-same_files : goal.decreases-same_files
decreases-same_files l = length l.a.now
