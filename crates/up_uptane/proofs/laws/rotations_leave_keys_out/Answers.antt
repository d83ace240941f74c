use Rattle.up_uptane.proofs.Rotations.{left_out, new_of_last}
use Rattle.up_uptane.proofs.laws.rotations_leave_keys_out.Goals as goal

pub returns : goal.returns
returns c = record {
  published = left_out c.states_stay_sound.ensures.empty c.runs_make_files.ensures.empty c.states_stay_sound.ensures.run c.runs_make_files.ensures.run c.files_are_signed.ensures.known c.roots_are_fetched.ensures.each;
  replies = new_of_last;
}
