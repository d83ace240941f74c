use Rattle.std.proofs.Common.{◌≡◌, ℕ, ◌+◌, ◌*◌, ◌-◌, ◌%◌, ◌<◌, refl, ap, ◌∙◌, arith, [], ◌∷◌}
use Rattle.up_curve.specs.Field.{p}
use Rattle.up_curve.specs.Curve.{d}
use Rattle.up_curve.proofs.Ring.{num, var, plus, times, same_by}
use Rattle.up_curve.proofs.Negated.{negated_point}
use Rattle.up_field.specs.Points.{number}
use Rattle.up_field.proofs.affine.turned.Goals as goal

exact : {a b : ℕ} → a ≡ b → a % p ≡ b % p
exact e = ap (λ n. n % p) e

opposite : (x : ℕ) → x < p → ((p - x) % p + x) % p ≡ 0 % p
opposite x h = omega (arith, h)

-- the negative point's numbers
turned_plus : (x y q : ℕ) → x < p → q % p ≡ (y + (p - 1) * x) % p → q % p ≡ (y + (p - x) % p) % p
turned_plus x y q h e =
    e ∙ same_by p (plus (var 0) (times (num (p - 1)) (var 1))) (plus (var 0) (var 2)) (y ∷ x ∷ (p - x) % p ∷ [])
    ((num (p - 1), plus (var 2) (var 1), num 0) ∷ []) (opposite x h, tt) refl

turned_minus : (x y q : ℕ) → x < p → q % p ≡ (y + x) % p → q % p ≡ (y + (p - 1) * ((p - x) % p)) % p
turned_minus x y q h e =
    e ∙ same_by p (plus (var 0) (var 1)) (plus (var 0) (times (num (p - 1)) (var 2))) (y ∷ x ∷ (p - x) % p ∷ [])
    ((num 1, plus (var 2) (var 1), num 0) ∷ []) (opposite x h, tt) refl

turned_t : (x y q r w : ℕ) → x < p → q % p ≡ (2 * d * (x * y)) % p → (w + q) % p ≡ 0 % p → r % p ≡ w % p
    → r % p ≡ (2 * d * ((p - x) % p * y)) % p
turned_t x y q r w h e k l =
    l ∙ same_by p (var 3) (times (num (2 * d)) (times (var 2) (var 0))) (y ∷ x ∷ (p - x) % p ∷ w ∷ q ∷ [])
    ((num 1, plus (var 3) (var 4), num 0)
    ∷ (num (p - 1), var 4, times (num (2 * d)) (times (var 1) (var 0)))
    ∷ (times (num (p - 1)) (times (num (2 * d)) (var 0)), plus (var 2) (var 1), num 0)
    ∷ [])
    (k, (e, (opposite x h, tt))) refl

pub returns-clause-same : goal.returns-clause-same
returns-clause-same c = λ m h e. record {
  point = h.point;
  holds = record {
    plus_is = ap (λ z. number z % p) (c.chosen.ensures.one e) ∙ h.holds.plus_is;
    minus_is = ap (λ z. number z % p) (c.chosen-2.ensures.one e) ∙ h.holds.minus_is;
    t_is = ap (λ z. number z % p) (c.chosen-3.ensures.one e) ∙ h.holds.t_is;
  };
}

pub returns-clause-other : goal.returns-clause-other
returns-clause-other c = λ m h e. record {
  point = negated_point m h.point;
  holds = record {
    plus_is = ap (λ z. number z % p) (c.chosen.ensures.zero e) ∙ turned_plus m.x m.y (number c.args.e.minus) h.point.x_below h.holds.minus_is;
    minus_is = ap (λ z. number z % p) (c.chosen-2.ensures.zero e) ∙ turned_minus m.x m.y (number c.args.e.plus) h.point.x_below h.holds.plus_is;
    t_is = ap (λ z. number z % p) (c.chosen-3.ensures.zero e)
        ∙ turned_t m.x m.y (number c.args.e.t) (number c.sub-n.result) (number c.sub-n.result) h.point.x_below h.holds.t_is
        (c.sub-n.ensures ∙ exact c.zero.ensures) refl;
  };
}
