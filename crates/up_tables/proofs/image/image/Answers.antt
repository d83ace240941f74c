use Rattle.up_tables.proofs.ImageLemmas.{image_found}
use Rattle.up_tables.proofs.StoredLemmas.{found_value}
use Rattle.up_tables.proofs.image.image.Goals as goal

pub returns : goal.returns
returns g c =
    found_value g.S.Store _ _ _ 1 (λ rows_of. rows_of c.args.file.now) _ _ 7 _ _ g.R.RowReading.says g.R.RowReading.fits g.R.RowReading.line _ _ c.find_value.result (image_found c.args.file.now)
    (rw c.words.ensures at c.find_value.ensures)
