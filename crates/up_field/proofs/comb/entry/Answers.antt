use Rattle.std.proofs.Common.{◌≡◌, ℕ, zero, suc, ◌+◌, ◌*◌, ◌-◌, ◌/◌, ◌^◌, ◌%◌, ◌<◌, refl, sym, ap, subst, ◌∙◌, arith}
use Rattle.up_curve.specs.Curve.{Point, base, multiple}
use Rattle.up_curve.specs.Laws.{negated}
use Rattle.up_curve.proofs.Curve.{multiple_point, multiple-add, base_point}
use Rattle.up_field.specs.Affine.{Keeps}
use Rattle.up_field.specs.Comb.{IsOdd}
use Rattle.up_field.specs.declared.affine.Affine.{Affine}
use Rattle.up_field.proofs.Balances.{IsShare, spread, teeth, mirrored, other}
use Rattle.up_field.proofs.comb.entry.Goals as goal

weighed : (u a b t n : ℕ) → a + b ≡ t → n + u * t ≡ 2 * (u * a) → n + 2 * (u * b) ≡ u * t
weighed u a b t n e h = let k : u * (a + b) ≡ u * t = ap (λ z. u * z) e in omega (arith, k, h)

-- the entry or its negative, by the digit's sign
shared : (sign r d place : ℕ) (e q : Affine) → sign < 2 → d ≡ 16 * sign + d % 16 → (sign ≡ 1 → place ≡ d % 16) → (sign ≡ 0 → place ≡ 15 - d % 16)
    → IsOdd e r place
    → ((m : Point) → Keeps e m → sign ≡ 1 → Keeps q m) → ((m : Point) → Keeps e m → sign ≡ 0 → Keeps q (negated m))
    → IsShare q (8 ^ r * teeth) (2 * (8 ^ r * spread d))
shared (suc zero) r d place e q l h one none odd same turned =
    let p : place + 16 ≡ d = omega (arith, one refl, h) in
    record {
      point = multiple odd.n base;
      keeps = same (multiple odd.n base) odd.keeps refl;
      is = sym (multiple-add odd.n (8 ^ r * teeth) base base_point) ∙ ap (λ z. multiple z base) (odd.is ∙ ap (λ z. 2 * (8 ^ r * spread z)) p);
    }
shared zero r d place e q l h one none odd same turned =
    let p : place + 16 ≡ 15 - d + 16 = omega (arith, none refl, h) in
    let k : odd.n + 2 * (8 ^ r * spread d) ≡ 8 ^ r * teeth =
    weighed (8 ^ r) (spread (15 - d + 16)) (spread d) teeth odd.n (mirrored d (omega (arith, h))) (odd.is ∙ ap (λ z. 2 * (8 ^ r * spread z)) p) in
    record {
      point = negated (multiple odd.n base);
      keeps = turned (multiple odd.n base) odd.keeps refl;
      is = other (multiple odd.n base) (multiple (2 * (8 ^ r * spread d)) base) (multiple (8 ^ r * teeth) base) (multiple_point odd.n base base_point) (multiple_point (2 * (8 ^ r * spread d)) base base_point)
          (sym (multiple-add odd.n (2 * (8 ^ r * spread d)) base base_point) ∙ ap (λ z. multiple z base) k);
    }
shared (suc (suc s)) r d place e q l h one none odd same turned = absurd (omega (arith, l))

low_place : (sign d place : ℕ) → sign < 2 → (sign ≡ 1 → place ≡ d % 16) → (sign ≡ 0 → place ≡ 15 - d % 16) → place < 16
low_place zero d place l one none = omega (arith, none refl)
low_place (suc zero) d place l one none = omega (arith, one refl)
low_place (suc (suc s)) d place l one none = absurd (omega (arith, l))

pub returns : goal.returns
returns c =
    let d : ℕ = c.args.d in
    let place : ℕ = c.choice-place.result in
    let j : ℕ = 16 * c.args.row + place in
    let low : place < 16 = low_place (d / 16) d place (omega arith) c.choice-place.ensures.one c.choice-place.ensures.zero in
    let row : j / 16 ≡ c.args.row = omega (arith, low) in
    let col : j % 16 ≡ place = omega (arith, low) in
    let odd : IsOdd c.pick-e.result (j / 16) (j % 16) =
    subst (λ q. IsOdd q (j / 16) (j % 16)) (sym (c.pick-e.ensures c.pick-e.result)) (c.comb_table.ensures.each j (omega (arith, low)) c.pick-e.result) in
    shared (d / 16) c.args.row d place c.pick-e.result c.turned.result (omega arith) (omega arith) c.choice-place.ensures.one c.choice-place.ensures.zero
    (subst (λ z. IsOdd c.pick-e.result c.args.row z) col (subst (λ z. IsOdd c.pick-e.result z (j % 16)) row odd))
    c.turned.ensures.same c.turned.ensures.other
