use Rattle.up_laws.proofs.Plans.{plans_are_of}
use Rattle.up_laws.proofs.OwnPlans.{empty_has, steps_keep, runs_keep}
use Rattle.up_laws.proofs.laws.plans_name_ecus_once.Goals as goal

pub returns : goal.returns
returns c = record {
  plans = plans_are_of;
  empty = empty_has;
  step = steps_keep;
  run = runs_keep c.states_stay_sound.ensures.step;
}
