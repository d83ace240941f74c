use Rattle.std.proofs.Common.{◌≡◌, ◌≢◌, ℕ, ◌*◌, ◌-◌, ◌%◌, refl, sym, ◌∙◌, [], ◌∷◌}
use Rattle.up_curve.specs.Field.{p, inverse}
use Rattle.up_curve.proofs.Ring.{num, var, times, same_by}
use Rattle.up_curve.proofs.Group as Group
use Rattle.up_curve.proofs.Prime.{prime_p}
use Rattle.up_curve.proofs.Curve.{inverts, nonsquare}
use Rattle.up_field.specs.Points.{number}
use Rattle.up_field.proofs.sides.extended.Goals as goal

nonzero : (a b : ℕ) → a % p ≢ 0 → b % p ≢ 0 → (a * b) % p ≢ 0
nonzero = Group.nonzero_times inverse prime_p inverts nonsquare

scaled : (r w x z a : ℕ) → r % p ≡ (x * z) % p → w % p ≡ (z * z) % p → x % p ≡ (a * z) % p → r % p ≡ (a * w) % p
scaled r w x z a hr hw hx =
    same_by p (var 0) (times (var 4) (var 1)) (r ∷ w ∷ x ∷ z ∷ a ∷ [])
    ((num 1, var 0, times (var 2) (var 3)) ∷ (var 3, var 2, times (var 4) (var 3)) ∷ (times (num (p - 1)) (var 4), var 1, times (var 3) (var 3)) ∷ [])
    (hr, (hx, (hw, tt))) refl

product : (t w x y z a b : ℕ) → t % p ≡ (x * y) % p → w % p ≡ (z * z) % p → x % p ≡ (a * z) % p → y % p ≡ (b * z) % p → t % p ≡ (a * b * w) % p
product t w x y z a b ht hw hx hy =
    same_by p (var 0) (times (times (var 5) (var 6)) (var 1)) (t ∷ w ∷ x ∷ y ∷ z ∷ a ∷ b ∷ [])
    ((num 1, var 0, times (var 2) (var 3))
    ∷ (var 3, var 2, times (var 5) (var 4))
    ∷ (times (var 5) (var 4), var 3, times (var 6) (var 4))
    ∷ (times (num (p - 1)) (times (var 5) (var 6)), var 1, times (var 4) (var 4))
    ∷ [])
    (ht, (hx, (hy, (hw, tt)))) refl

pub returns : goal.returns
returns c = λ m h.
    let x : ℕ = number c.args.a.x in
    let y : ℕ = number c.args.a.y in
    let z : ℕ = number c.args.a.z in
    record {
      point = h.point;
      whole = λ e. nonzero z z h.whole h.whole (sym c.square.ensures ∙ e);
      x_is = scaled (number c.mul.result) (number c.square.result) x z m.x c.mul.ensures c.square.ensures h.x_is;
      y_is = scaled (number c.mul-2.result) (number c.square.result) y z m.y c.mul-2.ensures c.square.ensures h.y_is;
      t_is = product (number c.mul-3.result) (number c.square.result) x y z m.x m.y c.mul-3.ensures c.square.ensures h.x_is h.y_is;
    }
