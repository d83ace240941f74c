use Rattle.up_rows.proofs.Found as found
use Rattle.up_rows.proofs.Told as told
use Rattle.up_rows.proofs.Files as files
use Rattle.up_rows.proofs.laws.rows_are_found.Goals as goal

pub returns : goal.returns
returns c = record { founded = told.founded; vehicles = found.vehicles_found; kept = found.kept_found; taken = found.taken_found; files = files.files_found }
