use Rattle.std.proofs.Common.{Err, refl, subst}
use Rattle.up_machine.specs.Rows.{founding_row}
use Rattle.up_machine.specs.RowsFit.{founding_fits}
use Rattle.up_records.proofs.Sessions.{fitting_on, lost_on, none_on, rows_on, then_on}
use Rattle.up_records.proofs.session.read_founding.Goals as goal

pub returns-in-Ok-clause-found : goal.returns-in-Ok-clause-found
returns-in-Ok-clause-found g c inside =
    let G = g.D.Store in
    let k = g.K.Scheme.rules c.args.scheme.now in
    fitting_on G (then_on G (none_on G inside) (rows_on G _ (λ j s x is. is) c.in-Ok.ensures)) founding_row (founding_fits k) c.fitting_founding.result (λ j of s found. found.1)
    (λ j of s f sound is. subst (λ r. Rattle.std.specs.Prelude.IsTrue (founding_fits r f)) of (c.rows_are_sound.ensures.founding j s f sound is)) c.fitting_founding.ensures.went c.fitting_founding.ensures.fault

pub returns-in-Err-clause-found : goal.returns-in-Err-clause-found
returns-in-Err-clause-found g c inside = let G = g.D.Store in lost_on G (none_on G inside) _ (Err c.in-Err.fault) refl (rows_on G _ (λ k s x is. is) c.in-Err.ensures)
