use Rattle.std.proofs.Common.{◌≡◌, refl}
use Rattle.up_machine.specs.declared.answer.Answer.TheVariants.{Already, Done}
use Rattle.up_machine.specs.declared.rows.VehicleRows.{VehicleRows}
use Rattle.up_machine.specs.Inventory.{decide_vehicle, with_vehicle}
use Rattle.up_machine.specs.Rows.{rows_of}
use Rattle.up_machine.specs.State.{added}
use Rattle.up_rows.specs.Changes.{with_vehicle_rows}
use Rattle.up_store.specs.Fitting.{IsNewVehicle}
use Rattle.up_store.specs.Writes.{FitsVehicle, vehicle_writes}
use Rattle.up_store.proofs.Ended.{of_made}
use Rattle.up_records.proofs.Fitting.{vehicle_fits}
use Rattle.up_desk.proofs.Carrying.{put_on, refused_on, unchanged_on}
use Rattle.up_desk.proofs.Decided.{when_already, when_new}
use Rattle.up_desk.proofs.inventory.add_vehicle.Goals as goal

pub returns-in-Ok-Already : goal.returns-in-Ok-Already
returns-in-Ok-Already g c inside =
    let new = c.args.new.now in
    unchanged_on g.D.Store (g.K.Scheme.rules c.args.scheme.now) c.args.catalog.now Already (c.in-Ok-Already.ensures inside) refl (λ s commit. commit)
    (λ s gives. when_already (λ (r : VehicleRows). r ≡ rows_of new.vehicle (added new)) s (with_vehicle s new) c.in-Ok-Already.field-0 _ c.in-Ok-Already.field-0-is gives)

pub returns-in-Ok-New : goal.returns-in-Ok-New
returns-in-Ok-New g c inside =
    let k = g.K.Scheme.rules c.args.scheme.now in
    let new = c.args.new.now in
    let rows = c.in-Ok-New.rows in
    put_on g.D.Store k c.args.catalog.now (vehicle_writes rows) (λ _. FitsVehicle rows) (IsNewVehicle rows) (λ all. with_vehicle_rows all rows) Done (c.in-Ok-New.ensures inside) refl c.forget.ensures
    (λ s sound gives.
    let it = when_new (λ (r : VehicleRows). r ≡ rows_of new.vehicle (added new)) s (with_vehicle s new) c.in-Ok-New.field-0 rows (decide_vehicle k s c.args.at new) c.in-Ok-New.field-0-is gives in
    record {
      next = with_vehicle s new;
      computed_is = it.0;
      commit = tt;
      write = vehicle_fits k s c.args.at new rows c.rows_are_found.ensures.vehicles c.vehicles_are_added.ensures.vehicles c.vehicles_are_added.ensures.new c.ecus_tell_their_hash.ensures it;
    })
    c.put_vehicle.result c.put_of.ensures inside (λ within. of_made g.D.Store (c.put_vehicle.ensures within)) (λ all lists fits. fits)

pub returns-in-Err : goal.returns-in-Err
returns-in-Err g c inside = refused_on g.D.Store (g.K.Scheme.rules c.args.scheme.now) c.args.catalog.now (c.in-Err.ensures inside)
