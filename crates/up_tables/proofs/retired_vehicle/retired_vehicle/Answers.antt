use Rattle.up_tables.proofs.ShutOutLemmas.{shut_out_found}
use Rattle.up_tables.proofs.StoredLemmas.{found_value}
use Rattle.up_tables.proofs.retired_vehicle.retired_vehicle.Goals as goal

pub returns : goal.returns
returns g c =
    found_value g.S.Store _ _ _ 1 (λ rows_of. rows_of c.args.vehicle.now) _ _ 1 _ _ g.R.RowReading.says g.R.RowReading.fits g.R.RowReading.line _ _ c.find_value.result (shut_out_found c.args.vehicle.now)
    (rw c.words.ensures at c.find_value.ensures)
