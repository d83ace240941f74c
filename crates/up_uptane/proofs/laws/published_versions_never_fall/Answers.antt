use Rattle.up_uptane.proofs.Reaching.{Reaching}
use Rattle.up_uptane.proofs.Versions.{images_never_fall, roots_never_fall}
use Rattle.up_uptane.proofs.laws.published_versions_never_fall.Goals as goal

pub returns : goal.returns
returns c =
    let keeping : Reaching = record {
      sound = c.states_stay_sound.ensures.run;
      none_sound = c.states_stay_sound.ensures.empty;
      made = c.runs_make_files.ensures.run;
      none_made = c.runs_make_files.ensures.empty;
      typed = c.states_stay_typed.ensures.run;
      none_typed = c.states_stay_typed.ensures.empty;
      own = c.plans_name_ecus_once.ensures.run;
      none_own = c.plans_name_ecus_once.ensures.empty;
    } in
    record {
      images = images_never_fall keeping c.files_are_read_again.ensures.images;
      roots = roots_never_fall c.states_stay_sound.ensures.empty c.states_stay_sound.ensures.run c.roots_are_fetched.ensures.each;
    }
