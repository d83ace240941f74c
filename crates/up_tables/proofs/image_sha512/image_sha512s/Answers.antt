use Rattle.up_tables.specs.Stored.{IsLine, Tells}
use Rattle.up_tables.proofs.Sha512Lemmas.{sha512s_listed}
use Rattle.up_tables.proofs.StoredLemmas.{listed_values}
use Rattle.up_tables.proofs.image_sha512.image_sha512s.Goals as goal

pub returns : goal.returns
returns g c =
    let R = g.R.RowReading in
    listed_values g.S.Store _ _ (λ rows. rows) _ _ 2 _ _ (Tells R.says R.fits R.line) (IsLine R.fits R.line) (λ found. found.items) _ _ c.list_values.result sha512s_listed c.list_values.ensures
