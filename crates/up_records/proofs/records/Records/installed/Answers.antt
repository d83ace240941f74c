use Rattle.std.proofs.Common.{refl}
use Rattle.up_machine.specs.Reads.{installed}
use Rattle.up_records.proofs.Viewing.{read_over}
use Rattle.up_records.proofs.records.Records.installed.Goals as goal

pub returns : goal.returns
returns g c =
    read_over g.D.Store (λ k s. installed s c.args.ecu.now) (record { held = c.self.inside.store; catalog = c.self.inside.catalog }) _ (record { held = c.installed_on.new.store; catalog = c.self.inside.catalog })
    c.installed_on.result c.self.view_is refl c.installed_on.ensures
