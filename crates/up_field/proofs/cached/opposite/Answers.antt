use Rattle.std.proofs.Common.{◌≡◌, ℕ, ◌+◌, ◌*◌, ◌-◌, ◌%◌, ◌<◌, refl, ap, ◌∙◌, arith, [], ◌∷◌}
use Rattle.up_curve.specs.Field.{p}
use Rattle.up_curve.specs.Curve.{d}
use Rattle.up_curve.proofs.Ring.{num, var, plus, times, same_by}
use Rattle.up_curve.proofs.Negated.{negated_point}
use Rattle.up_field.specs.Points.{number}
use Rattle.up_field.proofs.cached.opposite.Goals as goal

exact : {a b : ℕ} → a ≡ b → a % p ≡ b % p
exact e = ap (λ n. n % p) e

opposite : (x : ℕ) → x < p → ((p - x) % p + x) % p ≡ 0 % p
opposite x h = omega (arith, h)

-- what is p - 1 times as much is the negative's
turned : (u x y z : ℕ) → x < p → u % p ≡ (x * y * z) % p → ((p - 1) * u) % p ≡ ((p - x) % p * y * z) % p
turned u x y z h e =
    same_by p (times (num (p - 1)) (var 0)) (times (times (var 2) (var 3)) (var 4)) (u ∷ x ∷ (p - x) % p ∷ y ∷ z ∷ [])
    ((num (p - 1), var 0, times (times (var 1) (var 3)) (var 4)) ∷ (times (num (p - 1)) (times (var 3) (var 4)), plus (var 2) (var 1), num 0) ∷ [])
    (e, (opposite x h, tt)) refl

turned_x : (u x z : ℕ) → x < p → u % p ≡ (x * z) % p → ((p - 1) * u) % p ≡ ((p - x) % p * z) % p
turned_x u x z h e =
    same_by p (times (num (p - 1)) (var 0)) (times (var 2) (var 3)) (u ∷ x ∷ (p - x) % p ∷ z ∷ [])
    ((num (p - 1), var 0, times (var 1) (var 3)) ∷ (times (num (p - 1)) (var 3), plus (var 2) (var 1), num 0) ∷ [])
    (e, (opposite x h, tt)) refl

twice_turned : (x y : ℕ) → (y + x) % p ≡ (y + (p - 1) * ((p - 1) * x)) % p
twice_turned x y =
    same_by p (plus (var 0) (var 1)) (plus (var 0) (times (num (p - 1)) (times (num (p - 1)) (var 1)))) (y ∷ x ∷ []) [] tt refl

turned_t : (w q t : ℕ) → q % p ≡ (2 * d * t) % p → (w + q) % p ≡ 0 % p → w % p ≡ (2 * d * ((p - 1) * t)) % p
turned_t w q t e k =
    same_by p (var 0) (times (num (2 * d)) (times (num (p - 1)) (var 2))) (w ∷ q ∷ t ∷ [])
    ((num 1, plus (var 0) (var 1), num 0) ∷ (num (p - 1), var 1, times (num (2 * d)) (var 2)) ∷ [])
    (k, (e, tt)) refl

pub returns : goal.returns
returns c = λ m h. record {
  x = (p - 1) * h.x;
  y = h.y;
  z = h.z;
  t = (p - 1) * h.t;
  writes = record {
    point = negated_point m h.writes.point;
    whole = h.writes.whole;
    x_is = turned_x h.x m.x h.z h.writes.point.x_below h.writes.x_is;
    y_is = h.writes.y_is;
    t_is = turned h.t m.x m.y h.z h.writes.point.x_below h.writes.t_is;
  };
  plus_is = h.minus_is;
  minus_is = h.plus_is ∙ twice_turned h.x h.y;
  z_is = h.z_is;
  t_is = turned_t (number c.sub.result) (number c.args.e.t) h.t h.t_is (c.sub.ensures ∙ exact c.zero.ensures);
}
