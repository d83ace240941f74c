use Rattle.std.proofs.Common.{Err, refl, sym, ◌∙◌}
use Rattle.up_records.proofs.Sessions.{all_on, lost_on, none_on, rows_on, then_on}
use Rattle.up_records.proofs.Told.{no_vehicle, vehicle_whole}
use Rattle.up_records.proofs.session.read_vehicle.Goals as goal

pub returns-in-Ok-None : goal.returns-in-Ok-None
returns-in-Ok-None g c inside =
    let G = g.D.Store in
    all_on G (then_on G (none_on G inside) (rows_on G _ (λ k s x is. is) c.in-Ok-None.ensures)) _ _
    (λ k of s found. no_vehicle s c.args.name.now c.rows_are_found.ensures.vehicles (sym c.in-Ok-None.field-0-is ∙ found.1))

pub returns-in-Ok : goal.returns-in-Ok
returns-in-Ok g c inside =
    let G = g.D.Store in
    all_on G (then_on G (then_on G (none_on G inside) (rows_on G _ (λ k s x is. is) c.in-Ok-Some.ensures)) (rows_on G _ (λ k s x is. is) c.in-Ok.ensures)) _ _
    (λ k of s found. vehicle_whole s c.args.name.now _ _ c.rows_are_found.ensures.vehicles (sym c.in-Ok-Some.field-0-is ∙ found.0.1) found.1)

pub returns-in-Err : goal.returns-in-Err
returns-in-Err g c inside = let G = g.D.Store in lost_on G (none_on G inside) _ (Err c.in-Err.fault) refl (rows_on G _ (λ k s x is. is) c.in-Err.ensures)

pub returns-in-Err-find_ecus : goal.returns-in-Err-find_ecus
returns-in-Err-find_ecus g c inside =
    let G = g.D.Store in
    lost_on G (then_on G (none_on G inside) (rows_on G _ (λ k s x is. is) c.in-Ok-Some.ensures)) _ (Err c.in-Err-find_ecus.fault) refl (rows_on G _ (λ k s x is. is) c.in-Err-find_ecus.ensures)
