use Rattle.std.proofs.Common.{pos, filter}
use Rattle.up_tables.specs.Rows.{has_number}
use Rattle.up_tables.proofs.KeptLemmas.{kept_found}
use Rattle.up_tables.proofs.StoredLemmas.{found_value}
use Rattle.up_tables.proofs.kept.kept.Goals as goal

pub returns : goal.returns
returns g c =
    found_value g.S.Store _ _ _ 1 (λ rows_of. filter (has_number 1 (pos c.args.counter)) (rows_of c.args.vehicle.now)) _ _ 8 _ _ g.R.RowReading.says g.R.RowReading.fits g.R.RowReading.line _ _ c.find_value.result
    (kept_found c.args.vehicle.now c.args.counter) (rw (c.words.ensures, c.number.ensures) at c.find_value.ensures)
