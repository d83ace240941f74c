use Rattle.std.proofs.Common.{◌∷◌, [], Ok, Some, ap}
use Rattle.up_store.proofs.Common.{⊤, state, Row, insert_image_text, insert_sha512_text, image_lines, sha512_lines, each_with}
use Rattle.up_store.proofs.ColumnPuts.{puts_image, puts_image_rows}
use Rattle.up_store.proofs.WithinLemmas.{puts_first, puts_one, then_puts}
use Rattle.up_store.proofs.Written.{clean_step}
use Rattle.up_store.proofs.images.put_image_rows.Goals as goal

pub returns : goal.returns
returns g c inside =
    let image = c.args.image.now in
    let G = g.D.Store in
    let s0 = state G c.args.tx.now.conn.now in
    let s1 = state G c.insert_image.new.tx.conn.now in
    let s2 = state G c.put_sha512.new.tx.conn.now in
    let r = c.put_sha512.result in
    let row = c.row_of.result in
    let first = puts_one {A = ⊤} G (each_with insert_image_text (image_lines (Some image))) (λ _. ⊤) _ _ (Ok tt) _ _ _ (λ _ _ _. ⊤) (ap (λ (r : Row). (insert_image_text, r) ∷ []) c.row_of.ensures.is) (λ altered step. tt) (c.in_ok-insert_image.ensures inside) in
    let second = c.put_sha512.ensures.put first.step.is_open first.step.inside in
    then_puts G _ (each_with insert_image_text (image_lines (Some image))) (each_with insert_sha512_text (sha512_lines image.file image.sha512)) (λ _. ⊤) tt _ _ (λ _. ⊤) (λ _. ⊤) _ _ _ r (λ clean is_open has any. tt)
    (λ clean.
    let cleanly = clean_step second.step.steps clean in
    let was_open = (first.step.steps.kept cleanly).was_open (first.step.is_open cleanly) in
    puts_image_rows r image s0 s1 s2 (puts_image {A = ⊤} (Ok tt) image row s0 s1 c.row_of.ensures.is ((c.in_ok-insert_image.ensures inside).altered cleanly) was_open) (second.put clean) c.row_of.ensures.typed c.put_sha512.ensures.typed was_open)
    first second

pub returns-in_err-insert_image : goal.returns-in_err-insert_image
returns-in_err-insert_image g c inside =
    let image = c.args.image.now in
    let G = g.D.Store in
    puts_first G _ (each_with insert_image_text (image_lines (Some image))) (each_with insert_sha512_text (sha512_lines image.file image.sha512)) (λ _. ⊤) (λ _ _ _. ⊤) (λ _. ⊤) _ _ c.from_residual.result c.in_err-insert_image.field-0.0 c.from_residual.ensures.1 (λ any. tt) (λ e clean. tt)
    (puts_one {A = ⊤} G (each_with insert_image_text (image_lines (Some image))) (λ _. ⊤) _ _ _ _ _ _ (λ _ _ _. ⊤) (ap (λ (r : Row). (insert_image_text, r) ∷ []) c.row_of.ensures.is) (λ altered step. tt) (c.in_err-insert_image.ensures inside))
