use Rattle.std.proofs.Common.{length}
use Rattle.up_machine.proofs.same_vehicle.+same_ecus.Given as goal

abbrev pub decreases-same_ecus : goal.decreases-same_ecus
decreases-same_ecus l = length l.new.now
