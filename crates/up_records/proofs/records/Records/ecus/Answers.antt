use Rattle.std.proofs.Common.{refl}
use Rattle.up_machine.specs.Reads.{ecus_of}
use Rattle.up_records.proofs.Viewing.{read_over}
use Rattle.up_records.proofs.records.Records.ecus.Goals as goal

pub returns : goal.returns
returns g c =
    read_over g.D.Store (λ k s. ecus_of s c.args.vehicle.now) (record { held = c.self.inside.store; catalog = c.self.inside.catalog }) _ (record { held = c.ecus_of.new.store; catalog = c.self.inside.catalog })
    c.ecus_of.result c.self.view_is refl c.ecus_of.ensures
