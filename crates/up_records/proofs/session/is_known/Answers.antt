use Rattle.std.proofs.Common.{Err, ap, refl, ◌∙◌}
use Rattle.std.specs.Prelude.{is_some}
use Rattle.up_records.proofs.Sessions.{all_on, lost_on, none_on, rows_on, then_on}
use Rattle.up_records.proofs.Told.{vehicle_known}
use Rattle.up_records.proofs.session.is_known.Goals as goal

pub returns-in-Ok : goal.returns-in-Ok
returns-in-Ok g c inside =
    let G = g.D.Store in
    all_on G (then_on G (none_on G inside) (rows_on G _ (λ k s x is. is) c.in-Ok.ensures)) _ _
    (λ k of s found. c.is_some.ensures ∙ ap is_some found.1 ∙ vehicle_known s c.args.name.now c.rows_are_found.ensures.vehicles)

pub returns-in-Err : goal.returns-in-Err
returns-in-Err g c inside = let G = g.D.Store in lost_on G (none_on G inside) _ (Err c.in-Err.fault) refl (rows_on G _ (λ k s x is. is) c.in-Err.ensures)
