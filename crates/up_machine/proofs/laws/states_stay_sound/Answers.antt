use Rattle.up_machine.proofs.Soundness as soundness
use Rattle.up_machine.proofs.laws.states_stay_sound.Goals as goal

pub returns : goal.returns
returns c = record {
  empty = soundness.empty_sound;
  step = soundness.stay c.body_laws.ensures.read c.body_laws.ensures.signed;
  run = soundness.stay_on c.body_laws.ensures.read c.body_laws.ensures.signed;
}
