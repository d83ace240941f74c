use Rattle.up_laws.proofs.Delivered.{served, new_decided, repeat_decided, in_two_steps}
use Rattle.up_laws.proofs.laws.deliveries_are_decided.Goals as goal

pub returns : goal.returns
returns c = record { served = served; new = new_decided; repeats = repeat_decided; steps = in_two_steps }
