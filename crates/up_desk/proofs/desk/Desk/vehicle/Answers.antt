use Rattle.std.proofs.Common.{ap, subst}
use Rattle.up_machine.specs.Rows.{vehicle_rows}
use Rattle.up_records.specs.Reads.{Finds}
use Rattle.up_desk.proofs.desk.Desk.vehicle.Goals as goal

pub returns : goal.returns
returns g c = record {
  found = subst (λ d. Finds g.D.Store (λ k s. vehicle_rows s c.args.vehicle.now) d.store c.vehicle.new.self c.vehicle.result) c.self.view_is c.vehicle.ensures;
  scheme = ap (λ d. d.scheme) c.self.view_is;
}

pub invariant_of-self : goal.invariant_of-self
invariant_of-self g c = (c.vehicle.ensures (g.K.Scheme.rules c.self.inside.scheme)).reads.can c.self.invariant
