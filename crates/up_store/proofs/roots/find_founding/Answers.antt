use Rattle.std.proofs.Common.{◌∙◌, ◌≡◌, ◌∷◌, [], arith, rules, subst, sym}
use Rattle.up_store.proofs.Common.{⊤, Database, state, ReadsFounding, image_repository_shown, image_repository_table, HasCleanDisk, StateRows, IsWithin, ListsAll, meta_shown, EachSays, meta_table, role_key_table, up_schema, MetaRow, ok_then, ListsRows, SaysNumbers, meta_told}
use Rattle.up_store.proofs.Blamed.{then_blames}
use Rattle.up_store.proofs.ColumnFound.{within_read}
use Rattle.up_store.proofs.ReadRows.{now_stays, tables_stay, reads_behind}
use Rattle.up_store.proofs.roots.find_founding.Goals as goal

pub returns-in-Ok : goal.returns-in-Ok
returns-in-Ok g c inside =
    let before = state g.D.Store c.args.tx.now.conn.now in
    let mid = state g.D.Store c.find_numbers.new.tx.conn.now in
    let numbers = c.in-Ok.ensures inside in
    let reads = numbers.reads in
    let founded = c.find_founded.ensures (λ clean. (reads clean).is_open) (λ clean. let then : HasCleanDisk before = omega (arith, clean, numbers.step.steps.survives.clean) in (reads clean).mode ∙ inside then) in
    record {
      found = λ clean.
          let then : HasCleanDisk mid = omega (arith, founded.step.steps.survives.clean) in
          ok_then (λ found. (rows : StateRows) → IsWithin up_schema (ListsRows rows) mid → c.in-Ok.row ≡ meta_told rows.founding → found ≡ rows.founding)
          (λ found. (rows : StateRows) → IsWithin up_schema (ListsRows rows) before → found ≡ rows.founding) c.find_founded.result
          (λ found told rows within. told rows (within_read rows before mid (reads then) within) (numbers.found then rows within)) (founded.found clean);
      shown = λ clean.
          let then : HasCleanDisk mid = omega (arith, founded.step.steps.survives.clean) in
          let reads = reads then in
          ok_then _ _ c.find_founded.result
          (λ read told has.
          let row = numbers.shown then has in (
            c.in-Ok.row,
            subst (λ (m : MetaRow). EachSays SaysNumbers (meta_shown (before.now.trees meta_table.tree)) (m ∷ [])) (sym row.2) row.1,
            λ all lists. subst (λ (db : Database). ReadsFounding c.in-Ok.row (image_repository_shown (db.trees image_repository_table.tree)) all read) reads.now_is
                (told all (tables_stay before mid reads has) (now_stays (λ (db : Database). ListsAll all (db.trees role_key_table.tree)) before mid reads lists)),
          ))
          (founded.shown clean);
      reads = λ clean.
          let then : HasCleanDisk mid = omega (arith, founded.step.steps.survives.clean) in
          reads_behind _ c.find_founded.result (reads then) (founded.reads clean);
      «open» = search rules;
      blame = then_blames (λ _. ⊤) (λ rows. c.in-Ok.row ≡ meta_told rows.founding) before mid (state g.D.Store c.find_founded.new.tx.conn.now) c.find_founded.result numbers.step.steps founded.step.steps
          reads (λ clean rows within fits. numbers.found clean rows within) founded.blame;
      step = search rules;
    }
