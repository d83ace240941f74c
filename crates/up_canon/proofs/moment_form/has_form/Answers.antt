use Rattle.std.proofs.Common.{◌≡◌, ◌<◌, ◌+◌, ℕ, List, [], length, drop, get_or, true, false, Bool, refl, ap, sym, ◌∙◌, arith, drop-cons, add-one}
use Rattle.std.proofs.Math.ListN.{drop_of_length-le}
use Rattle.std.specs.Prelude.{codes, ◌&&◌}
use Rattle.std.specs.Cmp.Lexicographic.{pointwise}
use Rattle.up_canon.specs.Moments.{fits_sign}
use Rattle.up_canon.proofs.moment_form.has_form.Goals as goal

abbrev signs : List ℕ
signs = codes "0000-00-00T00:00:00Z"

step : (f : ℕ → ℕ → Bool) (form t : List ℕ) (i : ℕ) → i < length form → i < length t → pointwise f (drop i form) (drop i t) ≡ f (get_or form i 0) (get_or t i 0) && pointwise f (drop (i + 1) form) (drop (i + 1) t)
step f form t i a b = rw (drop-cons form i 0 a, drop-cons t i 0 b, add-one i) refl

pub loop-i-preserved : goal.loop-i-preserved
loop-i-preserved c =
    let bytes = c.args.bytes.now in
    let i = c.loop-i.i in
    let here = step fits_sign signs bytes i (omega arith) (omega (arith, c.loop-i.invariant.long)) in
    let fits : fits_sign (get_or signs i 0) (get_or bytes i 0) ≡ true = sym c.fits_sign.ensures ∙ c.if-not-fits_sign.false in
    record {
      signs = refl;
      long = c.loop-i.invariant.long;
      left = c.loop-i.invariant.left ∙ here ∙ ap (λ b. b && pointwise fits_sign (drop (i + 1) signs) (drop (i + 1) bytes)) fits;
    }

pub returns-then-not-fits_sign-clause-form : goal.returns-then-not-fits_sign-clause-form
returns-then-not-fits_sign-clause-form c =
    let bytes = c.args.bytes.now in
    let i = c.loop-i.i in
    let here = step fits_sign signs bytes i (omega arith) (omega (arith, c.loop-i.invariant.long)) in
    let fits : fits_sign (get_or signs i 0) (get_or bytes i 0) ≡ false = sym c.fits_sign.ensures ∙ c.if-not-fits_sign.true in
    sym (c.loop-i.invariant.left ∙ here ∙ ap (λ b. b && pointwise fits_sign (drop (i + 1) signs) (drop (i + 1) bytes)) fits)

pub returns-clause-form : goal.returns-clause-form
returns-clause-form c =
    let end : c.loop-i.i ≡ 20 = omega arith in
    let left = rw end at c.loop-i.invariant.left in
    let none : drop 20 c.args.bytes.now ≡ [] = drop_of_length-le c.args.bytes.now {i = 20} (omega (arith, c.loop-i.invariant.long)) in
    sym (left ∙ ap (pointwise fits_sign []) none)
