use Rattle.std.proofs.Common.{refl}
use Rattle.up_machine.specs.Reads.{version_of}
use Rattle.up_records.proofs.Viewing.{read_over}
use Rattle.up_records.proofs.records.Records.version.Goals as goal

pub returns : goal.returns
returns g c =
    read_over g.D.Store (λ k s. version_of s c.args.vehicle.now) (record { held = c.self.inside.store; catalog = c.self.inside.catalog }) _ (record { held = c.version_of.new.store; catalog = c.self.inside.catalog })
    c.version_of.result c.self.view_is refl c.version_of.ensures
