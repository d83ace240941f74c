use Rattle.std.proofs.Common.{◌∷◌, [], ap}
use Rattle.up_store.proofs.Common.{⊤, state, insert_kept_text, kept_line, MayAccept, MayReport, each_with, reported_writes}
use Rattle.up_store.proofs.AcceptBlames.{may_report}
use Rattle.up_store.proofs.AcceptPuts.{puts_accepted}
use Rattle.up_store.proofs.ColumnPuts.{puts_kept}
use Rattle.up_store.proofs.WithinLemmas.{puts_first, puts_one, then_puts}
use Rattle.up_store.proofs.Written.{clean_step, open_before, surely, was_open_before}
use Rattle.up_store.proofs.manifests.put_planned.Goals as goal

pub returns : goal.returns
returns g c inside =
    let new = c.args.new.now in
    let G = g.D.Store in
    let s0 = state G c.args.tx.now.conn.now in
    let s1 = state G c.put_reported.new.tx.conn.now in
    let s2 = state G c.insert_kept.new.tx.conn.now in
    let r = c.insert_kept.result in
    let last = each_with insert_kept_text (kept_line new.kept ∷ []) in
    let one = c.in_ok-put_reported.ensures.put inside in
    let kept = c.insert_kept.ensures one.step.inside in
    then_puts G _ (reported_writes new.vehicle) last (MayAccept new) tt _ _ (MayReport new.vehicle) (λ _. ⊤) _ _ _ r (λ _ _ _ _. tt)
    (λ clean.
    let cleanly = clean_step kept.step.steps clean in
    puts_accepted r new s0 s1 s2 (one.put cleanly) (puts_kept r new.kept c.row_of.result s1 s2 c.row_of.ensures.is (kept.altered clean) (open_before r kept.step.steps clean kept.step.is_open))
    (surely r c.row_of.ensures.typed) c.in_ok-put_reported.ensures.typed (was_open_before r s0 ((one.step.steps.kept cleanly).was_open (one.step.is_open cleanly))))
    one (puts_one G last (λ _. ⊤) _ _ r _ _ _ (λ _ _ _. ⊤) (ap (λ row. (insert_kept_text, row) ∷ []) c.row_of.ensures.is) (λ altered step. tt) kept)

pub returns-in_err-put_reported : goal.returns-in_err-put_reported
returns-in_err-put_reported g c inside =
    let new = c.args.new.now in
    puts_first g.D.Store _ (reported_writes new.vehicle) (each_with insert_kept_text (kept_line new.kept ∷ [])) (MayAccept new) _ (MayReport new.vehicle) _ _ c.from_residual.result c.in_err-put_reported.field-0.0 c.from_residual.ensures.1
    (may_report new (state g.D.Store c.args.tx.now.conn.now)) (λ e clean. tt) (c.in_err-put_reported.ensures.put inside)
