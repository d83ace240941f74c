use Rattle.std.proofs.Common.{◌≡◌, Some, None, arith, refl, sym, ap, ◌∙◌, rules}
use Rattle.up_store.proofs.Common.{⊤, option_map, state, Database, HasCleanDisk, VehicleRow, latest_kept, StateRows, IsWithin, Lists, kept_table, up_schema, ok_then, ListsRows}
use Rattle.up_store.proofs.Blamed.{then_blames}
use Rattle.up_store.proofs.ColumnFound.{last_told, latest_is, latest_unknown, within_read}
use Rattle.up_store.proofs.ReadRows.{now_stays, tables_stay, reads_behind}
use Rattle.up_store.proofs.VehicleReads.{holds_vehicle, vehicle_in}
use Rattle.up_store.proofs.WithinLemmas.{finds_fault}
use Rattle.up_store.proofs.manifests.find_latest.Goals as goal

pub returns-in-Ok-Some : goal.returns-in-Ok-Some
returns-in-Ok-Some g c inside =
    let before = state g.D.Store c.args.tx.now.conn.now in
    let mid = state g.D.Store c.vehicle.new.tx.conn.now in
    let name = c.args.vehicle.now in
    let told = rw c.text.ensures.value at (c.in-Ok-Some.ensures inside).found in
    let two = c.find_kept.ensures (c.in-Ok-Some.ensures inside).step.inside in
    let then : HasCleanDisk (state g.D.Store c.find_kept.new.tx.conn.now) → HasCleanDisk mid = λ clean. omega (arith, clean, two.step.steps.survives.clean) in
    record {
      found = λ clean. ok_then _ (λ found. (rows : StateRows) → IsWithin up_schema (ListsRows rows) before → found ≡ latest_kept name rows) c.find_kept.result
          (λ read is rows within. is rows (within_read rows before mid ((c.in-Ok-Some.ensures inside).reads (then clean)) within)
          ∙ latest_is rows name c.in-Ok-Some.row.last (ap (option_map (λ (r : VehicleRow). r.last)) (sym c.in-Ok-Some.field-0-is ∙ vehicle_in rows name before mid c.in-Ok-Some.field-0 ((c.in-Ok-Some.ensures inside).reads (then clean)) (told (then clean)) within) ∙ last_told rows name))
          (two.found clean);
      shown = λ clean. ok_then _ _ c.find_kept.result
          (λ read is rows_of kept_of has lists kept. (
            Some c.in-Ok-Some.row,
            ((rw c.in-Ok-Some.field-0-is at told (then clean)) rows_of has lists).said,
            is kept_of (tables_stay before mid ((c.in-Ok-Some.ensures inside).reads (then clean)) has) (now_stays (λ (db : Database). Lists 1 kept_of (db.trees kept_table.tree)) before mid ((c.in-Ok-Some.ensures inside).reads (then clean)) kept),
          ))
          (two.shown clean);
      reads = λ clean. reads_behind _ c.find_kept.result ((c.in-Ok-Some.ensures inside).reads (then clean)) (two.reads clean);
      «open» = search rules;
      blame = then_blames (λ _. ⊤) (λ _. ⊤) before mid (state g.D.Store c.find_kept.new.tx.conn.now) c.find_kept.result (c.vehicle.ensures inside).step.steps two.step.steps (c.in-Ok-Some.ensures inside).reads (λ clean rows within fits. tt) two.blame;
      step = search rules;
    }

pub returns-in-Ok-None : goal.returns-in-Ok-None
returns-in-Ok-None g c inside =
    let before = state g.D.Store c.args.tx.now.conn.now in
    let mid = state g.D.Store c.vehicle.new.tx.conn.now in
    let name = c.args.vehicle.now in
    let told = rw c.text.ensures.value at (c.in-Ok-None.ensures inside).found in
    record {
      found = λ clean rows within. latest_unknown rows name (ap (option_map (λ (r : VehicleRow). r.last)) (sym c.in-Ok-None.field-0-is ∙ vehicle_in rows name before mid c.in-Ok-None.field-0 ((c.in-Ok-None.ensures inside).reads clean) (told clean) within) ∙ last_told rows name);
      shown = λ clean rows_of kept_of has lists kept. (None, ((rw c.in-Ok-None.field-0-is at told clean) rows_of has lists).said, refl);
      reads = λ clean. (c.in-Ok-None.ensures inside).reads clean;
      «open» = search rules;
      blame = λ clean. tt;
      step = search rules;
    }

pub returns-in-Err : goal.returns-in-Err
returns-in-Err g c inside =
    finds_fault g.D.Store _ _ (λ _. ⊤) _ _ c.vehicle.result c.in-Err.fault _ (λ clean. tt) (λ rows lists fits. holds_vehicle c.args.vehicle.now (state g.D.Store c.args.tx.now.conn.now) rows lists) (rw c.text.ensures.value at (c.in-Err.ensures inside).blame) (c.vehicle.ensures inside).step
