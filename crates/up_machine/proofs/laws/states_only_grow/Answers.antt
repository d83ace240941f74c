use Rattle.up_machine.proofs.Growing as growing
use Rattle.up_machine.proofs.laws.states_only_grow.Goals as goal

pub returns : goal.returns
returns c = record { reflexive = growing.itself; transitive = growing.onward; step = growing.grow; run = growing.grow_on }
