use Rattle.std.proofs.Common.{length}
use Rattle.up_machine.proofs.decide_vehicle.+first_taken.Given as goal

abbrev pub decreases-first_taken : goal.decreases-first_taken
decreases-first_taken l = length l.ecus.now
