use Rattle.up_store.proofs.Common.{⊤, state, FitsFounding, image_row_writes, register_writes}
use Rattle.up_store.proofs.ColumnPuts.{puts_both}
use Rattle.up_store.proofs.WithinLemmas.{puts_first, then_puts}
use Rattle.up_store.proofs.Written.{clean_step}
use Rattle.up_store.proofs.images.put_image_made.Goals as goal

pub returns : goal.returns
returns g c inside =
    let image = c.args.image.now in
    let new = c.args.new.now in
    let G = g.D.Store in
    let one = c.in_ok-put_image_rows.ensures inside in
    let two = c.put_register.ensures one.step.inside in
    then_puts G _ (image_row_writes image) (register_writes new) (λ _. FitsFounding new.founding) tt _ _ (λ _. ⊤) (λ _. FitsFounding new.founding) _ _ _ c.put_register.result (λ clean is_open has fits. fits)
    (λ clean. puts_both c.put_register.result image new (state G c.args.tx.now.conn.now) (state G c.put_image_rows.new.tx.conn.now) (state G c.put_register.new.tx.conn.now) (one.put (clean_step two.step.steps clean)) (two.put clean)) one two

pub returns-in_err-put_image_rows : goal.returns-in_err-put_image_rows
returns-in_err-put_image_rows g c inside =
    puts_first g.D.Store _ (image_row_writes c.args.image.now) (register_writes c.args.new.now) (λ _. FitsFounding c.args.new.now.founding) _ (λ _. ⊤) _ _ c.from_residual.result c.in_err-put_image_rows.field-0.0 c.from_residual.ensures.1 (λ any. tt) (λ e clean. tt)
    (c.in_err-put_image_rows.ensures inside)
