use Rattle.std.proofs.Common.{◌≡◌, Option, Some, None, arith, sym, ap, ◌∙◌, string_bytes, rules}
use Rattle.up_store.proofs.Common.{⊤, option_map, option_or, state, Database, HasCleanDisk, Name, last_owner, owner_found, StateRows, IsWithin, Lists, retired_table, up_schema, ok_then, ListsRows}
use Rattle.up_store.proofs.ReadRows.{now_stays, tables_stay, reads_behind}
use Rattle.up_store.proofs.ColumnFound.{within_read}
use Rattle.up_store.proofs.EcuReads.{owner_in}
use Rattle.up_store.proofs.Blamed.{then_blames, memory_blames}
use Rattle.up_store.proofs.KindsOfVehicles.{holds_owner, owner_is_named, reads_owner}
use Rattle.up_store.proofs.WithinLemmas.{finds_fault}
use Rattle.up_store.proofs.Written.{surely}
use Rattle.up_store.proofs.vehicles.find_owner.Goals as goal

pub returns-in-Ok-Some : goal.returns-in-Ok-Some
returns-in-Ok-Some g c inside =
    let before = state g.D.Store c.args.tx.now.conn.now in
    let after = state g.D.Store c.ecu_owner.new.tx.conn.now in
    let ecu = c.args.ecu.now in
    let told = rw c.text.ensures.value at (c.in-Ok-Some.ensures inside).found in
    record {
      found = λ clean. ok_then (λ read. read ≡ Some (string_bytes c.in-Ok-Some.shown)) (λ found. (rows : StateRows) → IsWithin up_schema (ListsRows rows) before → found ≡ owner_found ecu rows) c.name_of.result
          (λ read is rows within. is ∙ ap (λ (o : Option Name). option_or o (last_owner ecu rows)) (ap (option_map string_bytes) (sym c.in-Ok-Some.field-0-is)
          ∙ owner_in rows ecu before after (option_map string_bytes c.in-Ok-Some.field-0) ((c.in-Ok-Some.ensures inside).reads clean) (told clean) within))
          c.name_of.ensures.ok;
      shown = λ clean. ok_then _ _ c.name_of.result
          (λ read is rows_of retired_of has lists more. (Some (string_bytes c.in-Ok-Some.shown), (rw c.in-Ok-Some.field-0-is at told clean) rows_of has lists, is))
          c.name_of.ensures.ok;
      reads = λ clean. surely c.name_of.result ((c.in-Ok-Some.ensures inside).reads clean);
      «open» = search rules;
      blame = memory_blames (λ _. ⊤) before after c.name_of.result
          (λ clean rows within fits. reads_owner c.name_of.result c.in-Ok-Some.shown (owner_is_named rows ecu before after c.in-Ok-Some.field-0 c.in-Ok-Some.shown c.in-Ok-Some.field-0-is ((c.in-Ok-Some.ensures inside).reads clean) (told clean) within) c.name_of.ensures.fault);
      step = search rules;
    }

pub returns-in-Ok-None : goal.returns-in-Ok-None
returns-in-Ok-None g c inside =
    let before = state g.D.Store c.args.tx.now.conn.now in
    let mid = state g.D.Store c.ecu_owner.new.tx.conn.now in
    let ecu = c.args.ecu.now in
    let two = c.find_retired.ensures (c.in-Ok-None.ensures inside).step.inside in
    let told = rw c.text.ensures.value at (c.in-Ok-None.ensures inside).found in
    let then : HasCleanDisk (state g.D.Store c.find_retired.new.tx.conn.now) → HasCleanDisk mid = λ clean. omega (arith, clean, two.step.steps.survives.clean) in
    record {
      found = λ clean. ok_then _ (λ found. (rows : StateRows) → IsWithin up_schema (ListsRows rows) before → found ≡ owner_found ecu rows) c.find_retired.result
          (λ read is rows within. is rows (within_read rows before mid ((c.in-Ok-None.ensures inside).reads (then clean)) within) ∙ ap (λ (o : Option Name). option_or o (last_owner ecu rows)) (ap (option_map string_bytes) (sym c.in-Ok-None.field-0-is)
          ∙ owner_in rows ecu before mid (option_map string_bytes c.in-Ok-None.field-0) ((c.in-Ok-None.ensures inside).reads (then clean)) (told (then clean)) within))
          (two.found clean);
      shown = λ clean. ok_then _ _ c.find_retired.result
          (λ read is rows_of retired_of has lists more. (
            None,
            (rw c.in-Ok-None.field-0-is at told (then clean)) rows_of has lists,
            is retired_of (tables_stay before mid ((c.in-Ok-None.ensures inside).reads (then clean)) has) (now_stays (λ (db : Database). Lists 2 retired_of (db.trees retired_table.tree)) before mid ((c.in-Ok-None.ensures inside).reads (then clean)) more),
          ))
          (two.shown clean);
      reads = λ clean. reads_behind _ c.find_retired.result ((c.in-Ok-None.ensures inside).reads (then clean)) (two.reads clean);
      «open» = search rules;
      blame = then_blames (λ _. ⊤) (λ _. ⊤) before mid (state g.D.Store c.find_retired.new.tx.conn.now) c.find_retired.result (c.ecu_owner.ensures inside).step.steps two.step.steps (c.in-Ok-None.ensures inside).reads (λ clean rows within fits. tt) two.blame;
      step = search rules;
    }

pub returns-in-Err : goal.returns-in-Err
returns-in-Err g c inside =
    finds_fault g.D.Store _ _ (λ _. ⊤) _ _ c.ecu_owner.result c.in-Err.fault _ (λ clean. tt) (λ rows lists fits. holds_owner c.args.ecu.now (state g.D.Store c.args.tx.now.conn.now) rows lists) (rw c.text.ensures.value at (c.in-Err.ensures inside).blame) (c.ecu_owner.ensures inside).step
