use Rattle.up_tables.specs.Stored.{IsLine, Tells}
use Rattle.up_tables.proofs.EcuReads.{ecus_queried}
use Rattle.up_tables.proofs.ecu.ecus.Goals as goal

pub returns : goal.returns
returns g c =
    let it = g.R.RowReading in
    ecus_queried g.S.Store c.args.vehicle.now (Tells it.says it.fits it.line) (IsLine it.fits it.line) (λ v. v.items) _ _ c.list_values.result (rw c.words.ensures at c.list_values.ensures)
