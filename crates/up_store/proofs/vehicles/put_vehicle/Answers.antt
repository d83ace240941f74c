use Rattle.std.proofs.Common.{◌≤◌, ◌^◌, Ok, Err, Some, List, length, subst, ap}
use Rattle.up_store.proofs.Common.{⊤, state, EcuRow, ecu_row, insert_ecu_text, insert_vehicle_text, ecu_lines, ecus_lines, vehicle_lines, FitsVehicle, each_with, vehicle_writes}
use Rattle.up_store.proofs.PutBlames.{each_is, places_fit, vehicle_row_is, version_fits}
use Rattle.up_store.proofs.VehiclePuts.{puts_vehicle}
use Rattle.up_store.proofs.WithinLemmas.{makes_none, makes_puts, puts_first, puts_many, puts_one, then_puts}
use Rattle.up_store.proofs.Written.{clean_step}
use Rattle.up_store.proofs.vehicles.put_vehicle.Goals as goal

pub returns : goal.returns
returns g c inside =
    let new = c.args.new.now in
    let name = new.vehicle.vehicle in
    let G = g.D.Store in
    let s0 = state G c.args.tx.now.conn.now in
    let s1 = state G c.insert_vehicle.new.tx.conn.now in
    let s2 = state G c.add_ecus.new.tx.conn.now in
    let row = c.row_of.result in
    let same = c.row_of.ensures.same in
    let r = c.add_ecus.result in
    let first = each_with insert_vehicle_text (vehicle_lines (Some new)) in
    let rest = each_with insert_ecu_text (ecus_lines name (Some new)) in
    let put = c.in_ok-insert_vehicle.ensures inside in
    let ecus = rw c.as_slice-2.ensures at (c.add_ecus.ensures.added put.step.is_open put.step.inside) in
    makes_puts G _ (λ _. FitsVehicle new) _ _ r _ (λ _. ⊤) (λ fits. tt)
    (then_puts G _ first rest (λ _. ⊤) tt _ _ (λ _. ⊤) (λ _. ⊤) _ _ _ r (λ _ _ _ _. tt)
    (λ clean.
    let cleanly = clean_step ecus.step.steps clean in
    puts_vehicle r new row s0 s1 s2 same c.row_of.ensures.typed (rw c.as_slice-2.ensures at c.add_ecus.ensures.typed) (put.altered cleanly) (ecus.altered clean) ((put.step.steps.kept cleanly).was_open (put.step.is_open cleanly)))
    (puts_one {A = ⊤} G first (λ _. ⊤) _ _ (Ok tt) _ _ _ (λ _ _ _. ⊤) (ap (each_with insert_vehicle_text) (vehicle_row_is new row same)) (λ altered step. tt) put)
    (puts_many G rest (λ _. ⊤) _ _ r _ _ (λ _ _ _. ⊤) (each_is insert_ecu_text ecu_row (ecu_lines name 0 new.ecus)) (λ altered step. tt) ecus))

pub returns-in_err-check_version : goal.returns-in_err-check_version
returns-in_err-check_version g c inside =
    makes_none g.D.Store _ (vehicle_writes c.args.new.now) (λ _. FitsVehicle c.args.new.now) _ c.from_residual.result _ c.from_residual.ensures.1 (λ e clean. tt) (λ store fits. version_fits c.args.new.now fits c.in_err-check_version.ensures.fault.1)

pub returns-in_err-check_places : goal.returns-in_err-check_places
returns-in_err-check_places g c inside =
    let new = c.args.new.now in
    let many : 2 ^ 63 ≤ length new.ecus = subst (λ (rows : List EcuRow). 2 ^ 63 ≤ length rows) c.as_slice.ensures c.in_err-check_places.ensures.fault.1 in
    makes_none g.D.Store _ (vehicle_writes new) (λ _. FitsVehicle new) _ c.from_residual-in_err-check_places.result _ c.from_residual-in_err-check_places.ensures.1 (λ e clean. tt) (λ store fits. places_fit new fits many)

pub returns-in_err-insert_vehicle : goal.returns-in_err-insert_vehicle
returns-in_err-insert_vehicle g c inside =
    let new = c.args.new.now in
    let G = g.D.Store in
    let r = c.from_residual-in_err-insert_vehicle in
    let f = c.in_err-insert_vehicle.field-0.0 in
    let first = each_with insert_vehicle_text (vehicle_lines (Some new)) in
    makes_puts G _ (λ _. FitsVehicle new) _ _ r.result _ (λ _. ⊤) (λ fits. tt)
    (puts_first G _ first (each_with insert_ecu_text (ecus_lines new.vehicle.vehicle (Some new))) (λ _. ⊤) (λ _ _ _. ⊤) (λ _. ⊤) _ _ r.result f r.ensures.1 (λ any. tt) (λ e clean. tt)
    (puts_one {A = ⊤} G first (λ _. ⊤) _ _ (Err f) _ _ _ (λ _ _ _. ⊤) (ap (each_with insert_vehicle_text) (vehicle_row_is new c.row_of.result c.row_of.ensures.same)) (λ altered step. tt) (c.in_err-insert_vehicle.ensures inside)))
