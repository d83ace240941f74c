use Rattle.std.proofs.Common.{Err, refl, sym, subst}
use Rattle.up_tables.specs.declared.values.StoreFault.TheVariants as fault
use Rattle.up_records.specs.Catalogs.{AreFew, ArePrimaries}
use Rattle.up_records.proofs.Cataloged.{are_none, few_none}
use Rattle.up_records.proofs.Sessions.{all_on, lost_on, none_on, refused_on, rows_on, then_on, under}
use Rattle.up_records.proofs.catalog.read_registers.Goals as goal

pub returns-in-Ok-find_images-clause-found : goal.returns-in-Ok-find_images-clause-found
returns-in-Ok-find_images-clause-found g c inside =
    let G = g.D.Store in
    all_on G (then_on G (then_on G (none_on G inside) (under G c.in-Ok-read_running.ensures)) (rows_on G _ (λ k s x is. is) c.in-Ok-find_images.ensures)) _ _
    (λ k of s found founding. record { founding = founding; campaigns = found.0.1; images = found.1; primaries = subst (ArePrimaries s) (sym c.new.ensures) (are_none s) })

pub returns-in-Ok-find_images-clause-fresh : goal.returns-in-Ok-find_images-clause-fresh
returns-in-Ok-find_images-clause-fresh g c = record { can = record { keys = c.requires; hashed = c.in-Ok.ensures; few = subst AreFew (sym c.new.ensures) few_none }; none = c.new.ensures }

pub returns-in-Err-find_images-clause-found : goal.returns-in-Err-find_images-clause-found
returns-in-Err-find_images-clause-found g c inside =
    let G = g.D.Store in
    lost_on G (then_on G (none_on G inside) (under G c.in-Ok-read_running.ensures)) _ (Err c.in-Err-find_images.fault) refl (rows_on G _ (λ k s x is. is) c.in-Err-find_images.ensures)

pub returns-in-Err-read_running-clause-found : goal.returns-in-Err-read_running-clause-found
returns-in-Err-read_running-clause-found g c inside = let G = g.D.Store in lost_on G (none_on G inside) _ (Err c.in-Err-read_running.fault) refl (under G c.in-Err-read_running.ensures)

pub returns-in-Err-clause-found : goal.returns-in-Err-clause-found
returns-in-Err-clause-found g c inside = let G = g.D.Store in refused_on G (none_on G inside) _ (Err fault.Memory) refl
