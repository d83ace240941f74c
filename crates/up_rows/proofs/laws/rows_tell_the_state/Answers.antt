use Rattle.up_rows.proofs.Told as told
use Rattle.up_rows.proofs.laws.rows_tell_the_state.Goals as goal

pub returns : goal.returns
returns c = record { told = told.told; empty = told.empty }
