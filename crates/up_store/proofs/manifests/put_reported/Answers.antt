use Rattle.std.proofs.Common.{Some, Ok, Err, ap, refl}
use Rattle.up_store.proofs.Common.{⊤, state, ecu_row, HasVehicle, update_ecu_text, upsert_vehicle_text, ecu_lines, ecus_lines, vehicle_lines, MayReport, each_with}
use Rattle.up_store.proofs.AcceptBlames.{has_vehicle}
use Rattle.up_store.proofs.AcceptPuts.{puts_reported}
use Rattle.up_store.proofs.PutBlames.{each_is, vehicle_row_is}
use Rattle.up_store.proofs.WithinLemmas.{puts_first, puts_many, then_puts}
use Rattle.up_store.proofs.Written.{clean_step, on_ok, was_open_before}
use Rattle.up_store.proofs.manifests.put_reported.Goals as goal

pub returns-clause-put : goal.returns-clause-put
returns-clause-put g c inside =
    let new = c.args.new.now in
    let name = new.vehicle.vehicle in
    let G = g.D.Store in
    let s0 = state G c.args.tx.now.conn.now in
    let s1 = state G c.upsert_vehicle.new.tx.conn.now in
    let s2 = state G c.set_ecus.new.tx.conn.now in
    let row = c.row_of.result in
    let same = c.row_of.ensures.same in
    let r = c.set_ecus.result in
    let first = each_with upsert_vehicle_text (vehicle_lines (Some new)) in
    let rest = each_with update_ecu_text (ecus_lines name (Some new)) in
    let set = c.in_ok-upsert_vehicle.ensures inside in
    let ecus = rw c.as_slice.ensures at (c.set_ecus.ensures.set set.step.is_open set.step.inside) in
    then_puts G _ first rest (MayReport new) tt _ _ (HasVehicle row) (λ _. ⊤) _ _ _ r (λ _ _ _ _. tt)
    (λ clean.
    let cleanly = clean_step ecus.step.steps clean in
    puts_reported r new row s0 s1 s2 same (set.altered cleanly) (ecus.altered clean) (was_open_before r s0 ((set.step.steps.kept cleanly).was_open (set.step.is_open cleanly))))
    (puts_many {A = ⊤} G first (HasVehicle row) _ _ (Ok tt) _ _ (λ _ _ _. ⊤) (ap (each_with upsert_vehicle_text) (vehicle_row_is new row same)) (λ altered step. tt) set)
    (puts_many G rest (λ _. ⊤) _ _ r _ _ (λ _ _ _. ⊤) (each_is update_ecu_text ecu_row (ecu_lines name 0 new.ecus)) (λ altered step. tt) ecus)

pub returns-clause-typed : goal.returns-clause-typed
returns-clause-typed g c =
    on_ok c.set_ecus.result (rw c.as_slice.ensures at c.set_ecus.ensures.typed) (λ typed tell. record { named = refl; row = c.row_of.ensures.typed; ecus = typed; tell = tell })

pub returns-in_err-upsert_vehicle-clause-put : goal.returns-in_err-upsert_vehicle-clause-put
returns-in_err-upsert_vehicle-clause-put g c inside =
    let new = c.args.new.now in
    let row = c.row_of.result in
    let same = c.row_of.ensures.same in
    let f = c.in_err-upsert_vehicle.field-0.0 in
    let first = each_with upsert_vehicle_text (vehicle_lines (Some new)) in
    puts_first g.D.Store _ first (each_with update_ecu_text (ecus_lines new.vehicle.vehicle (Some new))) (MayReport new) (λ _ _ _. ⊤) (HasVehicle row) _ _ c.from_residual.result f c.from_residual.ensures.1
    (has_vehicle new row (state g.D.Store c.args.tx.now.conn.now) same) (λ e clean. tt)
    (puts_many {A = ⊤} g.D.Store first (HasVehicle row) _ _ (Err f) _ _ (λ _ _ _. ⊤) (ap (each_with upsert_vehicle_text) (vehicle_row_is new row same)) (λ altered step. tt) (c.in_err-upsert_vehicle.ensures inside))
