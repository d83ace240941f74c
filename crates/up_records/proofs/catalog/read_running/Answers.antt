use Rattle.std.proofs.Common.{Err, refl, ◌∙◌}
use Rattle.up_tables.specs.declared.values.StoreFault.TheVariants as fault
use Rattle.up_records.proofs.Sessions.{all_on, lost_on, none_on, refused_on, rows_on, then_on}
use Rattle.up_records.proofs.catalog.read_running.Goals as goal

pub returns-in-Ok-new : goal.returns-in-Ok-new
returns-in-Ok-new g c inside =
    let G = g.D.Store in
    all_on G (then_on G (none_on G inside) (rows_on G _ (λ k s x is. is) c.in-Ok.ensures)) _ _ (λ k of s found. c.in-Ok-new.ensures.value ∙ found.1)

pub returns-in-Err-new : goal.returns-in-Err-new
returns-in-Err-new g c inside =
    let G = g.D.Store in
    refused_on G (then_on G (none_on G inside) (rows_on G _ (λ k s x is. is) c.in-Ok.ensures)) _ (Err fault.Memory) refl

pub returns-in-Err : goal.returns-in-Err
returns-in-Err g c inside = let G = g.D.Store in lost_on G (none_on G inside) _ (Err c.in-Err.fault) refl (rows_on G _ (λ k s x is. is) c.in-Err.ensures)
