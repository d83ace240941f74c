use Rattle.up_machine.proofs.Repeating as repeating
use Rattle.up_machine.proofs.laws.repeats_change_nothing.Goals as goal

pub returns : goal.returns
returns c = record {
  thinned = repeating.without_repeats c.body_laws.ensures.read c.body_laws.ensures.signed;
  served = repeating.served_is_thinned;
  sound = repeating.served_sound c.body_laws.ensures.read c.body_laws.ensures.signed;
}
