use Rattle.std.proofs.Common.{◌≡◌, ap, sym, ◌∙◌}
use Rattle.std.specs.Prelude.{Some, None, find, not, option_copied}
use Rattle.up_plan.specs.Planning.{is_met, is_apart}
use Rattle.up_plan.proofs.Causes.{unmet_by_need, unmet_by_conflict, unmet_by_none}
use Rattle.up_plan.proofs.Nothing.{no_first}
use Rattle.up_plan.proofs.unmet.unmet_by.Goals as goal

pub returns-in-Some-clause-value : goal.returns-in-Some-clause-value
returns-in-Some-clause-value c =
    let needs = c.as_slice.ensures ∙ ap (λ i. i.needs) c.image.view_is in
    let found : find (λ n. not (is_met c.args.set.now n)) c.args.image.now.needs ≡ Some c.in-Some.need.now =
    ap (find (λ n. not (is_met c.args.set.now n))) (sym needs) ∙ sym c.first_need.ensures ∙ ap option_copied c.in-Some.is in
    rw (c.in_ok-copy.ensures, c.in_ok-copy-2.ensures) (sym (unmet_by_need c.args.set.now c.args.ecu.now c.args.image.now c.in-Some.need.now found))

pub returns-in_ok-copy-in-Some-first_conflict-2-clause-value : goal.returns-in_ok-copy-in-Some-first_conflict-2-clause-value
returns-in_ok-copy-in-Some-first_conflict-2-clause-value c =
    let needs = c.as_slice.ensures ∙ ap (λ i. i.needs) c.image.view_is in
    let none : find (λ n. not (is_met c.args.set.now n)) c.args.image.now.needs ≡ None =
    ap (find (λ n. not (is_met c.args.set.now n))) (sym needs) ∙ sym c.first_need.ensures ∙ ap option_copied c.in_default.is in
    let conflicts = c.as_slice-2.ensures ∙ ap (λ i. i.conflicts) c.image.view_is in
    let found : find (λ f. not (is_apart c.args.set.now f)) c.args.image.now.conflicts ≡ Some c.in-Some-first_conflict.file.now =
    ap (find (λ f. not (is_apart c.args.set.now f))) (sym conflicts) ∙ sym c.first_conflict.ensures ∙ ap option_copied c.in-Some-first_conflict.is in
    rw (c.in_ok-copy-in-Some-first_conflict.ensures, c.in_ok-copy-in-Some-first_conflict-2.ensures)
    (sym (unmet_by_conflict c.args.set.now c.args.ecu.now c.args.image.now c.in-Some-first_conflict.file.now none found))

pub returns-in-None-clause-value : goal.returns-in-None-clause-value
returns-in-None-clause-value c =
    let needs = c.as_slice.ensures ∙ ap (λ i. i.needs) c.image.view_is in
    let none : find (λ n. not (is_met c.args.set.now n)) c.args.image.now.needs ≡ None =
    ap (find (λ n. not (is_met c.args.set.now n))) (sym needs) ∙ sym c.first_need.ensures ∙ ap option_copied c.in_default.is in
    let conflicts = c.as_slice-2.ensures ∙ ap (λ i. i.conflicts) c.image.view_is in
    let free : find (λ f. not (is_apart c.args.set.now f)) c.args.image.now.conflicts ≡ None =
    ap (find (λ f. not (is_apart c.args.set.now f))) (sym conflicts) ∙ sym c.first_conflict.ensures ∙ ap option_copied c.in-None.is in
    sym (unmet_by_none c.args.set.now c.args.ecu.now c.args.image.now none free)

pub returns-in_err-copy-clause-none : goal.returns-in_err-copy-clause-none
returns-in_err-copy-clause-none c =
    let needs = c.as_slice.ensures ∙ ap (λ i. i.needs) c.image.view_is in
    let found : find (λ n. not (is_met c.args.set.now n)) c.args.image.now.needs ≡ Some c.in-Some.need.now =
    ap (find (λ n. not (is_met c.args.set.now n))) (sym needs) ∙ sym c.first_need.ensures ∙ ap option_copied c.in-Some.is in
    λ unmet. absurd (no_first _ _ (unmet_by_need c.args.set.now c.args.ecu.now c.args.image.now c.in-Some.need.now found) unmet)

pub returns-in_err-copy-2-clause-none : goal.returns-in_err-copy-2-clause-none
returns-in_err-copy-2-clause-none c =
    let needs = c.as_slice.ensures ∙ ap (λ i. i.needs) c.image.view_is in
    let found : find (λ n. not (is_met c.args.set.now n)) c.args.image.now.needs ≡ Some c.in-Some.need.now =
    ap (find (λ n. not (is_met c.args.set.now n))) (sym needs) ∙ sym c.first_need.ensures ∙ ap option_copied c.in-Some.is in
    λ unmet. absurd (no_first _ _ (unmet_by_need c.args.set.now c.args.ecu.now c.args.image.now c.in-Some.need.now found) unmet)

pub returns-in_err-copy-in-Some-first_conflict-clause-none : goal.returns-in_err-copy-in-Some-first_conflict-clause-none
returns-in_err-copy-in-Some-first_conflict-clause-none c =
    let needs = c.as_slice.ensures ∙ ap (λ i. i.needs) c.image.view_is in
    let none : find (λ n. not (is_met c.args.set.now n)) c.args.image.now.needs ≡ None =
    ap (find (λ n. not (is_met c.args.set.now n))) (sym needs) ∙ sym c.first_need.ensures ∙ ap option_copied c.in_default.is in
    let conflicts = c.as_slice-2.ensures ∙ ap (λ i. i.conflicts) c.image.view_is in
    let found : find (λ f. not (is_apart c.args.set.now f)) c.args.image.now.conflicts ≡ Some c.in-Some-first_conflict.file.now =
    ap (find (λ f. not (is_apart c.args.set.now f))) (sym conflicts) ∙ sym c.first_conflict.ensures ∙ ap option_copied c.in-Some-first_conflict.is in
    λ unmet. absurd (no_first _ _ (unmet_by_conflict c.args.set.now c.args.ecu.now c.args.image.now c.in-Some-first_conflict.file.now none found) unmet)

pub returns-in_err-copy-in-Some-first_conflict-2-clause-none : goal.returns-in_err-copy-in-Some-first_conflict-2-clause-none
returns-in_err-copy-in-Some-first_conflict-2-clause-none c =
    let needs = c.as_slice.ensures ∙ ap (λ i. i.needs) c.image.view_is in
    let none : find (λ n. not (is_met c.args.set.now n)) c.args.image.now.needs ≡ None =
    ap (find (λ n. not (is_met c.args.set.now n))) (sym needs) ∙ sym c.first_need.ensures ∙ ap option_copied c.in_default.is in
    let conflicts = c.as_slice-2.ensures ∙ ap (λ i. i.conflicts) c.image.view_is in
    let found : find (λ f. not (is_apart c.args.set.now f)) c.args.image.now.conflicts ≡ Some c.in-Some-first_conflict.file.now =
    ap (find (λ f. not (is_apart c.args.set.now f))) (sym conflicts) ∙ sym c.first_conflict.ensures ∙ ap option_copied c.in-Some-first_conflict.is in
    λ unmet. absurd (no_first _ _ (unmet_by_conflict c.args.set.now c.args.ecu.now c.args.image.now c.in-Some-first_conflict.file.now none found) unmet)
