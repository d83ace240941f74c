use Rattle.std.proofs.Common.{refl}
use Rattle.up_machine.specs.Rows.{vehicle_rows}
use Rattle.up_records.proofs.Viewing.{read_over}
use Rattle.up_records.proofs.records.Records.vehicle.Goals as goal

pub returns : goal.returns
returns g c =
    read_over g.D.Store (λ k s. vehicle_rows s c.args.vehicle.now) (record { held = c.self.inside.store; catalog = c.self.inside.catalog }) _ (record { held = c.rows_of.new.store; catalog = c.self.inside.catalog })
    c.rows_of.result c.self.view_is refl c.rows_of.ensures
