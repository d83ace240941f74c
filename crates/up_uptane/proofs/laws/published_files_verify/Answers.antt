use Rattle.up_uptane.proofs.Reaching.{Reaching}
use Rattle.up_uptane.proofs.Verifying.{Formats, roots_verify, files_verify, replies_verify}
use Rattle.up_uptane.proofs.laws.published_files_verify.Goals as goal

pub returns : goal.returns
returns c =
    let keeping : Reaching = record {
      sound = c.states_stay_sound.ensures.run;
      none_sound = c.states_stay_sound.ensures.empty;
      made = c.runs_make_files.ensures.run;
      none_made = c.runs_make_files.ensures.empty;
      typed = c.states_stay_typed.ensures.run;
      none_typed = c.states_stay_typed.ensures.empty;
      own = c.plans_name_ecus_once.ensures.run;
      none_own = c.plans_name_ecus_once.ensures.empty;
    } in
    let formats : Formats = record {
      seals = c.envelope_laws.ensures.limits;
      accepts = c.envelope_laws.ensures.accepted;
      roots_read = c.role_laws.ensures.root;
      plain = c.moment_laws.ensures.plain;
      fetched = c.roots_are_fetched.ensures.each;
    } in
    record {
      roots = roots_verify formats keeping;
      files = files_verify formats keeping c.files_are_signed.ensures.known c.files_are_read_again.ensures.images;
      replies = replies_verify formats keeping c.replies_are_read_again.ensures;
    }
