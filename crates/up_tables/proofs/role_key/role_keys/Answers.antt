use Rattle.up_tables.specs.Forms.{keys_shown}
use Rattle.up_tables.specs.Stands.{ListsAll}
use Rattle.up_tables.specs.Stored.{IsLine, Tells}
use Rattle.up_tables.proofs.RoleKeyLemmas.{keys_listed}
use Rattle.up_tables.proofs.StoredLemmas.{queried_values}
use Rattle.up_tables.proofs.role_key.role_keys.Goals as goal

pub returns : goal.returns
returns g c =
    let R = g.R.RowReading in
    queried_values g.S.Store ListsAll _ _ _ keys_shown _ _ _ (Tells R.says R.fits R.line) (IsLine R.fits R.line) (λ found. found.items) _ _ c.list_values.result keys_listed c.list_values.ensures
