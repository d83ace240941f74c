use Rattle.std.proofs.Common.{ap, subst}
use Rattle.up_machine.specs.Reads.{assigned_to}
use Rattle.up_records.specs.Reads.{Finds}
use Rattle.up_desk.proofs.desk.Desk.assigned.Goals as goal

pub returns : goal.returns
returns g c = record {
  found = subst (λ d. Finds g.D.Store (λ k s. assigned_to s c.args.vehicle.now) d.store c.assigned.new.self c.assigned.result) c.self.view_is c.assigned.ensures;
  scheme = ap (λ d. d.scheme) c.self.view_is;
}

pub invariant_of-self : goal.invariant_of-self
invariant_of-self g c = (c.assigned.ensures (g.K.Scheme.rules c.self.inside.scheme)).reads.can c.self.invariant
