use Rattle.up_machine.proofs.Commuting as commuting
use Rattle.up_machine.proofs.Installing as installing
use Rattle.up_machine.proofs.Separately as separately
use Rattle.up_machine.proofs.laws.vehicles_stand_apart.Goals as goal

pub returns : goal.returns
returns c = record { apart = separately.separately; exchanged = commuting.commute; installed = installing.of_the_vehicle }
