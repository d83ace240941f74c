use Rattle.std.proofs.Common.{◌≡◌, ℕ, List, Some, None, map, rules, arith, refl}
use Rattle.std.specs.FinMap as table
use Rattle.up_store.proofs.Common.{⊤, option_to_list, Database, state, Row, HasCleanDisk, ImageData, image_places, columns_at, HasTables, Lists, image_sha512_table, image_table, IsImage, image_shown_line, ok_then}
use Rattle.up_store.proofs.Blamed.{then_blames}
use Rattle.up_store.proofs.ReadRows.{tables_stay, now_stays, reads_behind}
use Rattle.up_store.proofs.ColumnFound.{images, found_in, none_found, joined_found}
use Rattle.up_store.proofs.KindsOfImages.{holds_image, image_lines_said}
use Rattle.up_store.proofs.WithinLemmas.{finds_fault}
use Rattle.up_store.proofs.images.find_image.Goals as goal

pub returns-in-Ok-Some : goal.returns-in-Ok-Some
returns-in-Ok-Some g c inside =
    let before = state g.D.Store c.args.tx.now.conn.now in
    let mid = state g.D.Store c.image.new.tx.conn.now in
    let told = rw c.in-Ok-Some.field-0-is at (rw c.text.ensures.value at (c.in-Ok-Some.ensures inside).found) in
    let lines : HasCleanDisk mid → (rows_of : List ℕ → List Row) → HasTables before → Lists 1 rows_of (before.now.trees image_table.tree)
    → map (columns_at image_places) (rows_of c.args.file.now) ≡ map image_shown_line (option_to_list (Some c.in-Ok-Some.shown)) = λ clean rows_of has lists. image_lines_said _ _ (told clean rows_of has lists).said in
    let next = c.find_with_sha512.ensures (c.in-Ok-Some.ensures inside).step.inside in
    record {
      found = λ clean.
          let then : HasCleanDisk mid = omega (arith, next.step.steps.survives.clean) in
          joined_found images c.find_with_sha512.result c.args.file.now before mid (Some c.in-Ok-Some.shown) c.in-Ok-Some.shown refl (next.found clean) ((c.in-Ok-Some.ensures inside).reads then) (lines then);
      shown = λ clean.
          let then : HasCleanDisk mid = omega (arith, next.step.steps.survives.clean) in
          let reads = (c.in-Ok-Some.ensures inside).reads then in
          ok_then _ _ c.find_with_sha512.result
          (λ read hash rows_of hashes_of has lists beside.
          let there = hash hashes_of (tables_stay before mid reads has) (now_stays (λ (db : Database). Lists 1 hashes_of (db.trees image_sha512_table.tree)) before mid reads beside) in
          (Some c.in-Ok-Some.shown, (told then rows_of has lists).said, there))
          (next.shown clean);
      reads = λ clean.
          let then : HasCleanDisk mid = omega (arith, next.step.steps.survives.clean) in
          reads_behind _ c.find_with_sha512.result ((c.in-Ok-Some.ensures inside).reads then) (next.reads clean);
      «open» = search rules;
      blame = then_blames (λ _. ⊤) (λ rows. (image : ImageData) × (table.get rows.images c.args.file.now ≡ Some image) × IsImage c.in-Ok-Some.shown image) before mid (state g.D.Store c.find_with_sha512.new.tx.conn.now)
          c.find_with_sha512.result (c.image.ensures inside).step.steps next.step.steps (c.in-Ok-Some.ensures inside).reads
          (λ clean rows within fits.
          let f = found_in images rows c.args.file.now before mid (Some c.in-Ok-Some.shown) c.in-Ok-Some.shown refl ((c.in-Ok-Some.ensures inside).reads clean) (lines clean) within in
          (f.value, f.there, f.same))
          next.blame;
      step = search rules;
    }

pub returns-in-Ok-None : goal.returns-in-Ok-None
returns-in-Ok-None g c inside =
    let before = state g.D.Store c.args.tx.now.conn.now in
    let after = state g.D.Store c.image.new.tx.conn.now in
    let told = rw c.in-Ok-None.field-0-is at (rw c.text.ensures.value at (c.in-Ok-None.ensures inside).found) in
    record {
      found = λ clean rows within. none_found images rows c.args.file.now before after None refl ((c.in-Ok-None.ensures inside).reads clean) (λ rows_of has lists. image_lines_said _ _ (told clean rows_of has lists).said) within;
      shown = λ clean rows_of hashes_of has lists hashes. (None, (told clean rows_of has lists).said, refl);
      reads = λ clean. (c.in-Ok-None.ensures inside).reads clean;
      «open» = search rules;
      blame = λ clean. tt;
      step = search rules;
    }

pub returns-in-Err : goal.returns-in-Err
returns-in-Err g c inside =
    finds_fault g.D.Store _ _ (λ _. ⊤) _ _ c.image.result c.in-Err.fault _ (λ clean. tt) (λ rows lists fits. holds_image c.args.file.now (state g.D.Store c.args.tx.now.conn.now) rows lists) (rw c.text.ensures.value at (c.in-Err.ensures inside).blame) (c.image.ensures inside).step
