-- Each point has another with which its sum is neutral.
use Rattle.std.proofs.Common.{◌≡◌, ℕ, ◌+◌, ◌*◌, ◌-◌, ◌%◌, refl, ◌∙◌, ap₂, arith, mod-lt, lit<, [], ◌∷◌}
use Rattle.up_curve.proofs.Ring.{num, plus, times, same_by, mod_times}
use Rattle.up_curve.proofs.Assoc.{minus, v0, v1, v2, v3}
use Rattle.up_curve.proofs.Group as Group
use Rattle.up_curve.proofs.Prime.{prime_p}
use Rattle.up_curve.proofs.Curve.{inverts, nonsquare, add}
use Rattle.up_curve.specs.Field.{p, inverse}
use Rattle.up_curve.specs.Curve.{d, Point, neutral}
use Rattle.up_curve.specs.Points.{IsPoint}
use Rattle.up_curve.specs.Laws.{negated}

opposite : (a : Point) → IsPoint a → ((p - a.x) % p + a.x) % p ≡ 0 % p
opposite a h = omega (arith, h.x_below)

pub negated_point : (a : Point) → IsPoint a → IsPoint (negated a)
negated_point a h = record {
  curve =
      same_by p (times v1 v1) (plus (num 1) (plus (times v2 v2) (times (num d) (times (times v2 v2) (times v1 v1))))) (a.x ∷ a.y ∷ (p - a.x) % p ∷ [])
      ((num 1, times v1 v1, plus (num 1) (plus (times v0 v0) (times (num d) (times (times v0 v0) (times v1 v1)))))
      ∷ (times (plus v0 (minus v2)) (plus (num 1) (times (num d) (times v1 v1))), plus v2 v0, num 0)
      ∷ [])
      (h.curve, (opposite a h, tt)) refl;
  x_below = mod-lt (p - a.x) {m = p} (lit< tt);
  y_below = h.y_below;
}

-- the numerator and the denominator of the sum's second coordinate
quotient_of : (a : Point) → IsPoint a
    → (a.y * a.y + a.x * ((p - a.x) % p)) % p ≡ (1 + (p - 1) * (d * (a.x * ((p - a.x) % p) * (a.y * a.y)))) % p
quotient_of a h =
    same_by p (plus (times v1 v1) (times v0 v2)) (plus (num 1) (minus (times (num d) (times (times v0 v2) (times v1 v1))))) (a.x ∷ a.y ∷ (p - a.x) % p ∷ [])
    ((num 1, times v1 v1, plus (num 1) (plus (times v0 v0) (times (num d) (times (times v0 v0) (times v1 v1)))))
    ∷ (times v0 (plus (num 1) (times (num d) (times v1 v1))), plus v2 v0, num 0)
    ∷ [])
    (h.curve, (opposite a h, tt)) refl

same_point : (a b : Point) → a.x ≡ b.x → a.y ≡ b.y → a ≡ b
same_point a b e k = ap₂ (λ (u v : ℕ). let q : Point = record { x = u; y = v } in q) e k

pub add_negated : (a : Point) → IsPoint a → add a (negated a) ≡ neutral
unfolding add
add_negated a h =
    let b : Point = negated a in
    let f : ℕ = 1 + (p - 1) * (d * (a.x * b.x * (a.y * b.y))) in
    let g : ℕ = 1 + d * (a.x * b.x * (a.y * b.y)) in
    same_point (add a b) neutral
    (same_by p (times (plus (times v0 v1) (times v2 v1)) v3) (num 0) (a.x ∷ a.y ∷ b.x ∷ inverse g ∷ []) ((times v1 v3, plus v2 v0, num 0) ∷ []) (opposite a h, tt) refl)
    (mod_times p (a.y * b.y + a.x * b.x) f (inverse f) (inverse f) (quotient_of a h) refl
    ∙ inverts f (Group.f_nonzero inverse prime_p inverts nonsquare a.x a.y b.x b.y h.curve (negated_point a h).curve))
