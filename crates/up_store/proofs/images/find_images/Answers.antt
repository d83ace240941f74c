use Rattle.std.proofs.Common.{ℕ, List, arith, refl, rules}
use Rattle.up_store.proofs.Common.{⊤, Database, state, Row, HasCleanDisk, HasTables, Lists, image_sha512_table, image_table, ok_then, AreImages}
use Rattle.up_store.proofs.ReadRows.{tables_stay, now_stays, reads_behind}
use Rattle.up_store.proofs.Blamed.{then_blames}
use Rattle.up_store.proofs.ColumnFound.{within_read, are_images}
use Rattle.up_store.proofs.KindsOfImages.{holds_images, image_lines_said, images_by_name}
use Rattle.up_store.proofs.WithinLemmas.{finds_fault}
use Rattle.up_store.proofs.images.find_images.Goals as goal

pub returns-in-Ok : goal.returns-in-Ok
returns-in-Ok g c inside =
    let before = state g.D.Store c.args.tx.now.conn.now in
    let mid = state g.D.Store c.images.new.tx.conn.now in
    let found = c.in-Ok.shown.items in
    let said = λ (clean : HasCleanDisk mid) (rows_of : List ℕ → List Row) (has : HasTables before) (lists : Lists 1 rows_of (before.now.trees image_table.tree)). images_by_name _ rows_of found lists ((c.in-Ok.ensures inside).found clean _ has (record { shaped = lists.shaped; every = refl })) in
    let next = c.find_with_sha512s.ensures (c.in-Ok.ensures inside).step.inside in
    record {
      found = λ clean.
          let then : HasCleanDisk mid = omega (arith, next.step.steps.survives.clean) in
          ok_then _ _ c.find_with_sha512s.result
          (λ read is rows within. is rows (within_read rows before mid ((c.in-Ok.ensures inside).reads then) within)
          (are_images rows before mid found ((c.in-Ok.ensures inside).reads then) (λ rows_of has lists name. image_lines_said _ _ (said then rows_of has lists name)) within)) (next.found clean);
      shown = λ clean.
          let then : HasCleanDisk mid = omega (arith, next.step.steps.survives.clean) in
          let reads = (c.in-Ok.ensures inside).reads then in
          ok_then _ _ c.find_with_sha512s.result
          (λ read beside rows_of hashes_of has lists hashes. (
            found,
            said then rows_of has lists,
            beside hashes_of (tables_stay before mid reads has) (now_stays (λ (db : Database). Lists 1 hashes_of (db.trees image_sha512_table.tree)) before mid reads hashes),
          ))
          (next.shown clean);
      reads = λ clean.
          let then : HasCleanDisk mid = omega (arith, next.step.steps.survives.clean) in
          reads_behind _ c.find_with_sha512s.result ((c.in-Ok.ensures inside).reads then) (next.reads clean);
      «open» = search rules;
      blame = then_blames (λ _. ⊤) (λ rows. AreImages found rows.images) before mid (state g.D.Store c.find_with_sha512s.new.tx.conn.now) c.find_with_sha512s.result (c.images.ensures inside).step.steps next.step.steps (c.in-Ok.ensures inside).reads
          (λ clean rows within fits. are_images rows before mid found ((c.in-Ok.ensures inside).reads clean) (λ rows_of has lists name. image_lines_said _ _ (said clean rows_of has lists name)) within) next.blame;
      step = search rules;
    }

pub returns-in-Err : goal.returns-in-Err
returns-in-Err g c inside =
    finds_fault g.D.Store _ _ (λ _. ⊤) _ _ c.images.result c.in-Err.fault _ (λ clean. tt) (λ rows lists fits. holds_images (state g.D.Store c.args.tx.now.conn.now) rows lists) (c.in-Err.ensures inside).blame (c.images.ensures inside).step
