use Rattle.up_uptane.proofs.Reported.{of_all_ecus}
use Rattle.up_uptane.proofs.laws.new_replies_are_of_all_ecus.Goals as goal

pub returns : goal.returns
returns c = of_all_ecus c.states_stay_sound.ensures.empty c.states_stay_sound.ensures.run
