use Rattle.std.proofs.Common.{ap, subst}
use Rattle.up_machine.specs.Reads.{installed}
use Rattle.up_records.specs.Reads.{Finds}
use Rattle.up_desk.proofs.desk.Desk.installed.Goals as goal

pub returns : goal.returns
returns g c = record {
  found = subst (λ d. Finds g.D.Store (λ k s. installed s c.args.ecu.now) d.store c.installed.new.self c.installed.result) c.self.view_is c.installed.ensures;
  scheme = ap (λ d. d.scheme) c.self.view_is;
}

pub invariant_of-self : goal.invariant_of-self
invariant_of-self g c = (c.installed.ensures (g.K.Scheme.rules c.self.inside.scheme)).reads.can c.self.invariant
