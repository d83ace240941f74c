use Rattle.std.proofs.Common.{◌≡◌, Option, Some, sym, ap, ◌∙◌, string_bytes, rules}
use Rattle.up_store.proofs.Common.{⊤, option_map, state, Name, last_owner, StateRows, owns, IsWithin, up_schema, ok_then, ListsRows}
use Rattle.up_store.proofs.EcuReads.{last_in}
use Rattle.up_store.proofs.Blamed.{memory_blames}
use Rattle.up_store.proofs.KindsOfVehicles.{holds_retired, last_is_named, reads_owner}
use Rattle.up_store.proofs.WithinLemmas.{finds_fault}
use Rattle.up_store.proofs.Written.{surely}
use Rattle.up_store.proofs.vehicles.find_retired.Goals as goal

pub returns-in-Ok-Some : goal.returns-in-Ok-Some
returns-in-Ok-Some g c inside =
    let before = state g.D.Store c.args.tx.now.conn.now in
    let after = state g.D.Store c.retired_owner.new.tx.conn.now in
    let ecu = c.args.ecu.now in
    let told = rw c.text.ensures.value at (c.in-Ok-Some.ensures inside).found in
    record {
      found = λ clean. ok_then (λ read. read ≡ Some (string_bytes c.in-Ok-Some.last)) (λ found. (rows : StateRows) → IsWithin up_schema (ListsRows rows) before → found ≡ last_owner ecu rows) c.name_of.result
          (λ read is rows within. is ∙ ap (option_map string_bytes) (sym c.in-Ok-Some.field-0-is) ∙ last_in rows ecu before after (option_map string_bytes c.in-Ok-Some.field-0) ((c.in-Ok-Some.ensures inside).reads clean) (told clean) within)
          c.name_of.ensures.ok;
      shown = λ clean. ok_then _ _ c.name_of.result
          (λ read is rows_of has lists vehicle. (rw c.in-Ok-Some.field-0-is at told clean) rows_of has lists vehicle ∙ ap (λ (o : Option Name). owns o vehicle) (sym is))
          c.name_of.ensures.ok;
      reads = λ clean. surely c.name_of.result ((c.in-Ok-Some.ensures inside).reads clean);
      «open» = search rules;
      blame = memory_blames (λ _. ⊤) before after c.name_of.result
          (λ clean rows within fits. reads_owner c.name_of.result c.in-Ok-Some.last (last_is_named rows ecu before after c.in-Ok-Some.field-0 c.in-Ok-Some.last c.in-Ok-Some.field-0-is ((c.in-Ok-Some.ensures inside).reads clean) (told clean) within) c.name_of.ensures.fault);
      step = search rules;
    }

pub returns-in-Ok-None : goal.returns-in-Ok-None
returns-in-Ok-None g c inside =
    let before = state g.D.Store c.args.tx.now.conn.now in
    let after = state g.D.Store c.retired_owner.new.tx.conn.now in
    let told = rw c.text.ensures.value at (c.in-Ok-None.ensures inside).found in
    record {
      found = λ clean rows within. ap (option_map string_bytes) (sym c.in-Ok-None.field-0-is) ∙ last_in rows c.args.ecu.now before after (option_map string_bytes c.in-Ok-None.field-0) ((c.in-Ok-None.ensures inside).reads clean) (told clean) within;
      shown = λ clean rows_of has lists vehicle. (rw c.in-Ok-None.field-0-is at told clean) rows_of has lists vehicle;
      reads = λ clean. (c.in-Ok-None.ensures inside).reads clean;
      «open» = search rules;
      blame = λ clean. tt;
      step = search rules;
    }

pub returns-in-Err : goal.returns-in-Err
returns-in-Err g c inside =
    finds_fault g.D.Store _ _ (λ _. ⊤) _ _ c.retired_owner.result c.in-Err.fault _ (λ clean. tt) (λ rows lists fits. holds_retired c.args.ecu.now (state g.D.Store c.args.tx.now.conn.now) rows lists) (rw c.text.ensures.value at (c.in-Err.ensures inside).blame) (c.retired_owner.ensures inside).step
