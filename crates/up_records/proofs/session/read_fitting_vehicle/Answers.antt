use Rattle.std.proofs.Common.{Err, refl}
use Rattle.up_machine.specs.Rows.{vehicle_rows}
use Rattle.up_machine.specs.RowsFit.{rows_fit}
use Rattle.up_records.proofs.Sessions.{fitting_on, lost_on, none_on, then_on}
use Rattle.up_records.proofs.session.read_fitting_vehicle.Goals as goal

pub returns-in-Ok-clause-found : goal.returns-in-Ok-clause-found
returns-in-Ok-clause-found g c inside =
    let G = g.D.Store in
    fitting_on G (then_on G (none_on G inside) c.in-Ok.ensures) (λ s. vehicle_rows s c.args.name.now) rows_fit c.fitting_vehicle.result (λ k of s found. found.1)
    (λ k of s v sound is. c.rows_are_sound.ensures.vehicles k s c.args.name.now v sound is) c.fitting_vehicle.ensures.went c.fitting_vehicle.ensures.fault

pub returns-in-Err-clause-found : goal.returns-in-Err-clause-found
returns-in-Err-clause-found g c inside = let G = g.D.Store in lost_on G (none_on G inside) _ (Err c.in-Err.fault) refl c.in-Err.ensures
