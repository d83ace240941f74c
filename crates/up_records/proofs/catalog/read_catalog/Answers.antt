use Rattle.std.proofs.Common.{Err, refl, sym, subst, ◌∙◌}
use Rattle.std.specs.Prelude.{IfSome, IsTrue}
use Rattle.up_machine.specs.RowsFit.{founding_fits}
use Rattle.up_records.proofs.Sessions.{all_on, behind_on, lost_on, none_on, then_on}
use Rattle.up_records.proofs.catalog.read_catalog.Goals as goal

pub read_registers-requires : goal.read_registers-requires
read_registers-requires g c = subst (λ o. IfSome o (λ f. IsTrue (founding_fits (g.K.Scheme.rules c.args.scheme.now) f))) c.in-Ok-Some.field-0-is c.in-Ok-Some.ensures.fits

pub returns-in-Ok-Some-clause-found : goal.returns-in-Ok-Some-clause-found
returns-in-Ok-Some-clause-found g c inside =
    let G = g.D.Store in
    behind_on G (then_on G (none_on G inside) c.in-Ok-Some.ensures.found) _ c.read_registers.ensures.found (λ k of s read found loads. loads (sym (sym c.in-Ok-Some.field-0-is ∙ found.1)))

pub returns-in-Ok-None-clause-found : goal.returns-in-Ok-None-clause-found
returns-in-Ok-None-clause-found g c inside =
    let G = g.D.Store in
    all_on G (then_on G (none_on G inside) c.in-Ok-None.ensures.found) _ _ (λ k of s found. sym (sym c.in-Ok-None.field-0-is ∙ found.1))

pub returns-in-Ok-None-clause-fresh : goal.returns-in-Ok-None-clause-fresh
returns-in-Ok-None-clause-fresh g c = record { can = tt; none = refl }

pub returns-in-Err-clause-found : goal.returns-in-Err-clause-found
returns-in-Err-clause-found g c inside = let G = g.D.Store in lost_on G (none_on G inside) _ (Err c.in-Err.fault) refl c.in-Err.ensures.found
