use Rattle.std.proofs.Common.{refl}
use Rattle.up_machine.specs.Reads.{assigned_to}
use Rattle.up_records.proofs.Viewing.{read_over}
use Rattle.up_records.proofs.records.Records.assigned.Goals as goal

pub returns : goal.returns
returns g c =
    read_over g.D.Store (λ k s. assigned_to s c.args.vehicle.now) (record { held = c.self.inside.store; catalog = c.self.inside.catalog }) _ (record { held = c.assigned_of.new.store; catalog = c.self.inside.catalog })
    c.assigned_of.result c.self.view_is refl c.assigned_of.ensures
