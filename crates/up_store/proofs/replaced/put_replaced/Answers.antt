use Rattle.std.proofs.Common.{[], ◌∷◌, Ok, Err, arith, refl}
use Rattle.up_store.proofs.Common.{⊤, state, Text, Blob, retired_line, replace_ecu_text, insert_retired_text, each_with}
use Rattle.up_store.proofs.ReplacePuts.{puts_replaced}
use Rattle.up_store.proofs.WithinLemmas.{puts_first, puts_one, then_puts}
use Rattle.up_store.proofs.Written.{clean_step, was_open_before}
use Rattle.up_store.proofs.replaced.put_replaced.Goals as goal

pub returns : goal.returns
returns g c inside =
    let new = c.args.new.now in
    let G = g.D.Store in
    let s0 = state G c.args.tx.now.conn.now in
    let s1 = state G c.replace_ecu.new.tx.conn.now in
    let s2 = state G c.insert_retired.new.tx.conn.now in
    let r = c.insert_retired.result in
    let first = each_with replace_ecu_text ((Text new.ecu.ecu ∷ Text new.ecu.hardware ∷ Blob new.ecu.public ∷ Text new.old ∷ []) ∷ []) in
    let rest = each_with insert_retired_text (retired_line new.old new.vehicle ∷ []) in
    let one = rw (c.text.ensures.value, c.text-2.ensures.value, c.text-3.ensures.value, c.as_slice.ensures) at (c.in_ok-replace_ecu.ensures inside) in
    let two = rw (c.text-4.ensures.value, c.text-5.ensures.value) at (c.insert_retired.ensures one.step.inside) in
    then_puts G _ first rest (λ _. ⊤) tt _ _ (λ _. ⊤) (λ _. ⊤) _ _ _ r (λ _ _ _ _. tt)
    (λ clean.
    let cleanly = clean_step two.step.steps clean in
    puts_replaced r new s0 s1 s2 (one.altered cleanly) (two.altered clean) (record { ecu = c.text-2.ensures.fits; hardware = c.text-3.ensures.fits; installed = tt; counter = omega arith; report = tt })
    (was_open_before r s0 ((one.step.steps.kept cleanly).was_open (one.step.is_open cleanly))))
    (puts_one {A = ⊤} G first (λ _. ⊤) _ _ (Ok tt) _ _ _ (λ _ _ _. ⊤) refl (λ altered step. tt) one)
    (puts_one G rest (λ _. ⊤) _ _ r _ _ _ (λ _ _ _. ⊤) refl (λ altered step. tt) two)

pub returns-in_err-replace_ecu : goal.returns-in_err-replace_ecu
returns-in_err-replace_ecu g c inside =
    let new = c.args.new.now in
    let f = c.in_err-replace_ecu.field-0.0 in
    let first = each_with replace_ecu_text ((Text new.ecu.ecu ∷ Text new.ecu.hardware ∷ Blob new.ecu.public ∷ Text new.old ∷ []) ∷ []) in
    let one = rw (c.text.ensures.value, c.text-2.ensures.value, c.text-3.ensures.value, c.as_slice.ensures) at (c.in_err-replace_ecu.ensures inside) in
    puts_first g.D.Store _ first (each_with insert_retired_text (retired_line new.old new.vehicle ∷ [])) (λ _. ⊤) (λ _ _ _. ⊤) (λ _. ⊤) _ _ c.from_residual.result f c.from_residual.ensures.1 (λ any. tt) (λ e clean. tt)
    (puts_one {A = ⊤} g.D.Store first (λ _. ⊤) _ _ (Err f) _ _ _ (λ _ _ _. ⊤) refl (λ altered step. tt) one)
