use Rattle.std.proofs.Common.{◌≡◌, ◌∙◌, Err, arith, rules}
use Rattle.up_store.proofs.Common.{⊤, Database, state, HasCleanDisk, StateRows, IsWithin, ListsAll, role_key_table, up_schema, ok_then, ListsRows, meta_told, own_told}
use Rattle.up_store.proofs.Blamed.{fits_blames, then_blames}
use Rattle.up_store.proofs.ColumnFound.{within_read}
use Rattle.up_store.proofs.FoundingReads.{read_beside}
use Rattle.up_store.proofs.ReadRows.{now_stays, tables_stay, reads_behind}
use Rattle.up_store.proofs.roots.find_founded.Goals as goal

pub returns-in-Ok : goal.returns-in-Ok
returns-in-Ok g c opened inside =
    let before = state g.D.Store c.args.tx.now.conn.now in
    let mid = state g.D.Store c.find_own_numbers.new.tx.conn.now in
    let row = c.args.row in
    let own = c.in-Ok.own in
    let first = c.in-Ok.ensures inside in
    let reads = first.reads in
    let second = c.find_keyed.ensures (λ clean. (reads clean).is_open) (λ clean. let then : HasCleanDisk before = omega (arith, clean, first.step.steps.survives.clean) in (reads clean).mode ∙ inside then) in
    record {
      found = λ clean.
          let then : HasCleanDisk mid = omega (arith, second.step.steps.survives.clean) in
          ok_then (λ found. (rows : StateRows) → IsWithin up_schema (ListsRows rows) mid → row ≡ meta_told rows.founding → own ≡ own_told rows.founding → found ≡ rows.founding)
          (λ found. (rows : StateRows) → IsWithin up_schema (ListsRows rows) before → row ≡ meta_told rows.founding → found ≡ rows.founding) c.find_keyed.result
          (λ found told rows within numbers. told rows (within_read rows before mid (reads then) within) numbers (first.found then rows within)) (second.found clean);
      shown = λ clean.
          let then : HasCleanDisk mid = omega (arith, second.step.steps.survives.clean) in
          let reads = reads then in
          ok_then _ _ c.find_keyed.result
          (λ read told all has lists.
          read_beside row own _ all read (λ e. omega (arith, e, c.if-row-eq0.false)) (first.shown then has) (told all (tables_stay before mid reads has) (now_stays (λ (db : Database). ListsAll all (db.trees role_key_table.tree)) before mid reads lists)))
          (second.shown clean);
      reads = λ clean.
          let then : HasCleanDisk mid = omega (arith, second.step.steps.survives.clean) in
          reads_behind _ c.find_keyed.result (reads then) (second.reads clean);
      «open» = search rules;
      blame = then_blames (λ rows. row ≡ meta_told rows.founding) (λ rows. (row ≡ meta_told rows.founding) × (own ≡ own_told rows.founding)) before mid (state g.D.Store c.find_keyed.new.tx.conn.now) c.find_keyed.result first.step.steps second.step.steps
          reads (λ clean rows within fits. (fits, first.found clean rows within)) second.blame;
      step = search rules;
    }

pub returns-in-Err : goal.returns-in-Err
returns-in-Err g c opened inside =
    let it = c.in-Err.ensures inside in
    record {
      found = λ clean. tt;
      shown = λ clean. tt;
      reads = λ clean. tt;
      «open» = λ clean. tt;
      blame = fits_blames (λ rows. c.args.row ≡ meta_told rows.founding) (λ _. ⊤) (state g.D.Store c.args.tx.now.conn.now) (state g.D.Store c.find_own_numbers.new.tx.conn.now) (Err c.in-Err.fault) (λ rows lists fits. tt) it.blame;
      step = search rules;
    }
