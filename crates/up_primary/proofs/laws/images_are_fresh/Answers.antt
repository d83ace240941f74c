use Rattle.up_primary.proofs.FreshImages.{images_fresh}
use Rattle.up_primary.proofs.Runs.{Keeping}
use Rattle.up_primary.proofs.SignedTexts.{Formats}
use Rattle.up_primary.proofs.laws.images_are_fresh.Goals as goal

pub returns : goal.returns
returns c =
    let formats : Formats = record {
      injective = c.canonical_laws.ensures.injective;
      meaning = c.meaning_laws.ensures;
      seals = c.envelope_laws.ensures.limits;
      replies = c.replies_are_read_again.ensures;
      images = c.files_are_read_again.ensures.images;
    } in
    let keeping : Keeping = record {
      sound = c.states_stay_sound.ensures.run;
      none_sound = c.states_stay_sound.ensures.empty;
      made = c.runs_make_files.ensures.run;
      none_made = c.runs_make_files.ensures.empty;
      typed = c.states_stay_typed.ensures.run;
      none_typed = c.states_stay_typed.ensures.empty;
      own = c.plans_name_ecus_once.ensures.run;
      none_own = c.plans_name_ecus_once.ensures.empty;
    } in
    images_fresh formats keeping
