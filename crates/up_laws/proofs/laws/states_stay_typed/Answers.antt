use Rattle.up_laws.proofs.StayingTyped.{empty_typed, steps_typed, runs_typed}
use Rattle.up_laws.proofs.laws.states_stay_typed.Goals as goal

pub returns : goal.returns
returns c = record { empty = empty_typed; step = steps_typed; run = runs_typed }
