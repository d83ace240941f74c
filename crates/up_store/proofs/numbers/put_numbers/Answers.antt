use Rattle.std.proofs.Common.{◌∷◌, [], refl, Ok, Err, ℕ, List}
use Rattle.up_tables.specs.Texts.{update_image_repository_text, update_meta_text}
use Rattle.up_store.proofs.Common.{⊤, HasCleanDisk, Numbers, Row, image_repository_values, meta_values, state}
use Rattle.up_store.proofs.RootPuts.{puts_numbers}
use Rattle.up_store.proofs.WithinLemmas.{puts_first, puts_one, then_puts}
use Rattle.up_store.proofs.Written.{clean_step, was_open_before}
use Rattle.up_store.proofs.numbers.put_numbers.Goals as goal

-- what is written of each table
abbrev of_meta : Numbers → List (List ℕ × Row)
of_meta n = (update_meta_text, meta_values n.meta) ∷ []

abbrev of_own : Numbers → List (List ℕ × Row)
of_own n = (update_image_repository_text, image_repository_values n.own) ∷ []

pub returns : goal.returns
returns g c inside =
    let n = c.args.numbers.now in
    let s0 = state g.D.Store c.args.tx.now.conn.now in
    let s1 = state g.D.Store c.update_meta.new.tx.conn.now in
    let s2 = state g.D.Store c.update_image_repository.new.tx.conn.now in
    let r = c.update_image_repository.result in
    let one = c.in_ok-update_meta.ensures inside in
    let two = c.update_image_repository.ensures one.step.inside in
    then_puts g.D.Store _ (of_meta n) (of_own n) (λ _. ⊤) tt _ _ (λ _. ⊤) (λ _. ⊤) _ _ _ r (λ clean is_open has any. tt)
    (λ clean.
    let clean1 : HasCleanDisk s1 = clean_step two.step.steps clean in
    puts_numbers r n s0 s1 s2 (one.altered clean1) (two.altered clean) (was_open_before r s0 ((one.step.steps.kept clean1).was_open (one.step.is_open clean1))))
    (puts_one g.D.Store (of_meta n) (λ _. ⊤) _ _ (Ok tt) _ _ _ (λ _ _ _. ⊤) refl (λ a s. tt) one) (puts_one g.D.Store (of_own n) (λ _. ⊤) _ _ r _ _ _ (λ _ _ _. ⊤) refl (λ a s. tt) two)

pub returns-in_err-update_meta : goal.returns-in_err-update_meta
returns-in_err-update_meta g c inside =
    let n = c.args.numbers.now in
    let f = c.in_err-update_meta.field-0.0 in
    puts_first g.D.Store _ (of_meta n) (of_own n) (λ _. ⊤) (λ _ _ _. ⊤) (λ _. ⊤) _ _ c.from_residual.result f c.from_residual.ensures.1 (λ any. tt) (λ e clean. tt)
    (puts_one {A = ⊤} g.D.Store (of_meta n) (λ _. ⊤) _ _ (Err f) _ _ _ (λ _ _ _. ⊤) refl (λ a s. tt) (c.in_err-update_meta.ensures inside))
