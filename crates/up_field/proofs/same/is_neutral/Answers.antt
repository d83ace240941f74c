use Rattle.std.proofs.Common.{◌≡◌, ◌≢◌, ℕ, ◌*◌, ◌%◌, ◌<◌, refl, sym, ◌∙◌, ap, ap₂, eqb, ◌&&◌, lit<, arith}
use Rattle.up_curve.specs.Field.{p}
use Rattle.up_field.specs.Points.{number}
use Rattle.up_field.proofs.Tests.{same_tests}
use Rattle.up_field.proofs.Steps.{cross_same, same_cross}
use Rattle.up_field.proofs.same.is_neutral.Goals as goal

once : (a : ℕ) → a % p ≡ (a * 1) % p
once a = ap (λ z. z % p) (let z : a ≡ a * 1 = omega arith in z)

one_time : (a : ℕ) → a % p ≡ (1 * a) % p
one_time a = ap (λ z. z % p) (let z : a ≡ 1 * a = omega arith in z)

no_time : (a : ℕ) → 0 % p ≡ (0 * a) % p
no_time a = ap (λ z. z % p) (let z : 0 ≡ 0 * a = omega arith in z)

not_zero : 1 % p ≢ 0
not_zero e = absurd (omega (arith, e))

first_is : (x z mx : ℕ) → mx < p → z % p ≢ 0 → x % p ≡ (mx * z) % p → eqb (x % p) 0 ≡ eqb mx 0
first_is x z mx h w e =
    same_tests _ _ _ _
    (cross_same x z 0 1 mx 0 x 0 h (lit< tt) w not_zero e refl (once x) (no_time z))
    (same_cross x z 0 1 mx 0 x 0 e refl (once x) (no_time z))

second_is : (y z my : ℕ) → my < p → z % p ≢ 0 → y % p ≡ (my * z) % p → eqb (y % p) (z % p) ≡ eqb my 1
second_is y z my h w e =
    same_tests _ _ _ _
    (cross_same y z 1 1 my 1 y z h (lit< tt) w not_zero e refl (once y) (one_time z))
    (same_cross y z 1 1 my 1 y z e refl (once y) (one_time z))

pub returns-then-first : goal.returns-then-first
returns-then-first c = λ m h.
    let first = c.is_zero-first.ensures ∙ first_is (number c.args.a.x) (number c.args.a.z) m.x h.point.x_below h.whole h.x_is in
    let second = c.are_same-second.ensures ∙ second_is (number c.args.a.y) (number c.args.a.z) m.y h.point.y_below h.whole h.y_is in
    ap (λ t. t && c.are_same-second.result) (sym c.if-first.true) ∙ ap₂ (λ s t. s && t) first second

pub returns-else-first : goal.returns-else-first
returns-else-first c = λ m h.
    let first = c.is_zero-first.ensures ∙ first_is (number c.args.a.x) (number c.args.a.z) m.x h.point.x_below h.whole h.x_is in
    let second = c.are_same-second.ensures ∙ second_is (number c.args.a.y) (number c.args.a.z) m.y h.point.y_below h.whole h.y_is in
    c.if-first.false ∙ ap (λ t. t && c.are_same-second.result) (sym c.if-first.false) ∙ ap₂ (λ s t. s && t) first second
