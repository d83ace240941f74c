use Rattle.up_primary.proofs.Behind.{Reading}
use Rattle.up_primary.proofs.Bringing.{rounds_bring}
use Rattle.up_primary.proofs.Fleets.{Given, fleets_follow}
use Rattle.up_primary.proofs.Runs.{Keeping}
use Rattle.up_primary.proofs.laws.fleets_are_served.Goals as goal

pub returns : goal.returns
returns c =
    let keeping : Keeping = record {
      sound = c.states_stay_sound.ensures.run;
      none_sound = c.states_stay_sound.ensures.empty;
      made = c.runs_make_files.ensures.run;
      none_made = c.runs_make_files.ensures.empty;
      typed = c.states_stay_typed.ensures.run;
      none_typed = c.states_stay_typed.ensures.empty;
      own = c.plans_name_ecus_once.ensures.run;
      none_own = c.plans_name_ecus_once.ensures.empty;
    } in
    let reading : Reading = record {
      seals = c.envelope_laws.ensures.limits;
      accepts = c.envelope_laws.ensures.accepted;
      roots_read = c.role_laws.ensures.root;
      images_read = c.files_are_read_again.ensures.images;
      small = c.files_are_read_again.ensures.roots;
    } in
    let given : Given = record { keeping = keeping; reading = reading; lasts = c.following_lasts.ensures.follow } in
    record { follow = fleets_follow given; brings = rounds_bring c.replies_are_taken.ensures c.new_plans_suit.ensures c.repeats_are_found.ensures.found given }
