use Rattle.std.proofs.Common.{Err, refl, sym, ◌∙◌}
use Rattle.up_records.proofs.Sessions.{all_on, lost_on, none_on, refused_on, rows_on, then_on}
use Rattle.up_desk.proofs.register.make_register_rows.Goals as goal

pub returns-in_ok-register_rows-in-Ok : goal.returns-in_ok-register_rows-in-Ok
returns-in_ok-register_rows-in-Ok g c inside =
    let G = g.D.Store in
    all_on G (then_on G (none_on G inside) (rows_on G _ (λ k s x is. is) c.in-Ok.ensures)) _ _
    (λ k of s found next has new same. c.in_ok-register_rows-in-Ok.ensures next has new (found.1 ∙ sym same))

pub returns-in_err-register_rows-in-Ok : goal.returns-in_err-register_rows-in-Ok
returns-in_err-register_rows-in-Ok g c inside =
    let G = g.D.Store in
    refused_on G (then_on G (none_on G inside) (rows_on G _ (λ k s x is. is) c.in-Ok.ensures)) _ c.from_residual.result c.from_residual.ensures.1

pub returns-in-Err : goal.returns-in-Err
returns-in-Err g c inside = let G = g.D.Store in lost_on G (none_on G inside) _ (Err c.in-Err.fault) refl (rows_on G _ (λ k s x is. is) c.in-Err.ensures)
