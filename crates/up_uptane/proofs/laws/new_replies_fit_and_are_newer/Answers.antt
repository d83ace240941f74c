use Rattle.up_uptane.proofs.Fitting.{new_fit}
use Rattle.up_uptane.proofs.Reaching.{Reaching}
use Rattle.up_uptane.proofs.laws.new_replies_fit_and_are_newer.Goals as goal

pub returns : goal.returns
returns c =
    let keeping : Reaching = record {
      sound = c.states_stay_sound.ensures.run;
      none_sound = c.states_stay_sound.ensures.empty;
      made = c.runs_make_files.ensures.run;
      none_made = c.runs_make_files.ensures.empty;
      typed = c.states_stay_typed.ensures.run;
      none_typed = c.states_stay_typed.ensures.empty;
      own = c.plans_name_ecus_once.ensures.run;
      none_own = c.plans_name_ecus_once.ensures.empty;
    } in
    new_fit keeping c.assigned_is_due.ensures c.assigned_images_fit.ensures c.replies_are_read_again.ensures
