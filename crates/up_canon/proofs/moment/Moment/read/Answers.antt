use Rattle.std.proofs.Common.{◌≡◌, ◌∙◌, ◌*◌, ◌+◌, sym, ap, ap₂, true, true≢false, arith}
use Rattle.up_canon.specs.Moments.{has_form, two_digits}
use Rattle.up_canon.proofs.MomentForm.{unread, no_date, no_time, all_read, IsRead, exact_of}
use Rattle.up_canon.proofs.moment.Moment.read.Goals as goal

pub returns-then-not-has_form : goal.returns-then-not-has_form
returns-then-not-has_form c =
    let same = c.as_bytes-bytes.ensures.value in
    let is = sym (unread c.args.text.now λ p. true≢false (sym p.form ∙ ap has_form (sym same) ∙ sym c.has_form.ensures.form ∙ c.if-not-has_form.true)) in
    record { value = is; exact = exact_of c.args.text.now _ is }

pub returns-in_err-midnight : goal.returns-in_err-midnight
returns-in_err-midnight c =
    let same = c.as_bytes-bytes.ensures.value in
    let is = c.from_residual.ensures ∙ sym (no_date c.args.text.now c.two_digits.result c.two_digits-2.result c.two_digits-3.result c.two_digits-4.result _ c.midnight_of.result
    (c.two_digits.ensures.value ∙ ap (λ t. two_digits t 0) same)
    (c.two_digits-2.ensures.value ∙ ap (λ t. two_digits t 2) same)
    (c.two_digits-3.ensures.value ∙ ap (λ t. two_digits t 5) same)
    (c.two_digits-4.ensures.value ∙ ap (λ t. two_digits t 8) same)
    c.midnight_of.ensures c.in_err-midnight.was) in
    record { value = is; exact = exact_of c.args.text.now _ is }

pub returns-in_err-passed : goal.returns-in_err-passed
returns-in_err-passed c =
    let same = c.as_bytes-bytes.ensures.value in
    let is = c.from_residual-in_err-passed.ensures ∙ sym (no_time c.args.text.now c.two_digits-5.result c.two_digits-6.result c.two_digits-7.result _ c.seconds_of.result
    (c.two_digits-5.ensures.value ∙ ap (λ t. two_digits t 11) same)
    (c.two_digits-6.ensures.value ∙ ap (λ t. two_digits t 14) same)
    (c.two_digits-7.ensures.value ∙ ap (λ t. two_digits t 17) same)
    c.seconds_of.ensures c.in_err-passed.was) in
    record { value = is; exact = exact_of c.args.text.now _ is }

read : (c : goal.In_ok-passed) → IsRead c.args.text.now (c.in_ok-midnight.midnight + c.in_ok-passed.passed)
read c =
    let same = c.as_bytes-bytes.ensures.value in
    let form : has_form c.as_bytes-bytes.result.now ≡ true = sym c.has_form.ensures.form ∙ c.if-not-has_form.false in
    all_read c.args.text.now (c.two_digits.result * 100 + c.two_digits-2.result) c.two_digits-3.result c.two_digits-4.result c.two_digits-5.result c.two_digits-6.result c.two_digits-7.result c.in_ok-midnight.midnight c.in_ok-passed.passed c.midnight_of.result c.seconds_of.result
    (ap has_form (sym same) ∙ form)
    (ap₂ (λ a b. a * 100 + b) (c.two_digits.ensures.value ∙ ap (λ t. two_digits t 0) same) (c.two_digits-2.ensures.value ∙ ap (λ t. two_digits t 2) same))
    (c.two_digits-3.ensures.value ∙ ap (λ t. two_digits t 5) same)
    (c.two_digits-4.ensures.value ∙ ap (λ t. two_digits t 8) same)
    (c.two_digits-5.ensures.value ∙ ap (λ t. two_digits t 11) same)
    (c.two_digits-6.ensures.value ∙ ap (λ t. two_digits t 14) same)
    (c.two_digits-7.ensures.value ∙ ap (λ t. two_digits t 17) same)
    c.midnight_of.ensures c.in_ok-midnight.was c.seconds_of.ensures c.in_ok-passed.was

pub overflow_add-result : goal.overflow_add-result
overflow_add-result c = omega (arith, (read c).bound)

pub invariant_of-result : goal.invariant_of-result
invariant_of-result c = (read c).bound

pub returns : goal.returns
returns c =
    let is = sym (read c).value in
    record { value = is; exact = exact_of c.args.text.now _ is }
