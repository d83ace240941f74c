-- Points by four numbers (RFC 8032, section 5.1.4): the code's formulas are those of the sum.
use Rattle.std.proofs.Common.{◌≡◌, ◌≢◌, ℕ, ◌+◌, ◌*◌, ◌-◌, ◌%◌, refl, sym, ◌∙◌, arith, List, [], ◌∷◌}
use Rattle.up_curve.proofs.Ring.{Term, num, var, plus, times, same_by, mod_times}
use Rattle.up_curve.proofs.Assoc.{minus, v0, v1, v2, v3, v4, v5, v6, te, th, tf, tg}
use Rattle.up_curve.proofs.Group as Group
use Rattle.up_curve.proofs.Prime.{prime_p}
use Rattle.up_curve.proofs.Curve.{add_point, sum_of, inverts, nonsquare}
use Rattle.up_curve.specs.Field.{p, inverse}
use Rattle.up_curve.specs.Coordinates.{Represents, e_of, f_of, g_of, h_of}
use Rattle.up_curve.specs.Curve.{d, Point, add}

v7 : Term
v7 = var 7

v8 : Term
v8 = var 8

v9 : Term
v9 = var 9

nonzero : (a b : ℕ) → a % p ≢ 0 → b % p ≢ 0 → (a * b) % p ≢ 0
nonzero = Group.nonzero_times inverse prime_p inverts nonsquare

module _ (x1 y1 z1 t1 x2 y2 z2 t2 : ℕ) (a b : Point) (m : Represents x1 y1 z1 t1 a) (n : Represents x2 y2 z2 t2 b) where
  xs : List ℕ
  xs = a.x ∷ a.y ∷ b.x ∷ b.y ∷ z1 ∷ z2 ∷ d ∷ x1 ∷ y1 ∷ t1 ∷ x2 ∷ y2 ∷ t2 ∷ []

  tz : Term
  tz = times (num 2) (times v4 v5)

  e_is : e_of x1 y1 x2 y2 % p ≡ (2 * (z1 * z2) * (a.x * b.y + b.x * a.y)) % p
  unfolding v7 v8 v9 xs tz
  e_is =
      same_by p (times (num 2) (plus (times v7 (var 11)) (times (var 10) v8))) (times tz (te v0 v1 v2 v3)) xs
      ((times (num 2) (var 11), v7, times v0 v4)
      ∷ (times (num 2) (times v0 v4), var 11, times v3 v5)
      ∷ (times (num 2) v8, var 10, times v2 v5)
      ∷ (times (num 2) (times v2 v5), v8, times v1 v4)
      ∷ [])
      (m.x_is, (n.y_is, (n.x_is, (m.y_is, tt)))) refl

  h_is : h_of x1 y1 x2 y2 % p ≡ (2 * (z1 * z2) * (a.y * b.y + a.x * b.x)) % p
  unfolding v7 v8 v9 xs tz
  h_is =
      same_by p (times (num 2) (plus (times v8 (var 11)) (times v7 (var 10)))) (times tz (th v0 v1 v2 v3)) xs
      ((times (num 2) (var 11), v8, times v1 v4)
      ∷ (times (num 2) (times v1 v4), var 11, times v3 v5)
      ∷ (times (num 2) (var 10), v7, times v0 v4)
      ∷ (times (num 2) (times v0 v4), var 10, times v2 v5)
      ∷ [])
      (m.y_is, (n.y_is, (m.x_is, (n.x_is, tt)))) refl

  f_is : f_of z1 t1 z2 t2 % p ≡ (2 * (z1 * z2) * (1 + (p - 1) * (d * (a.x * b.x * (a.y * b.y))))) % p
  unfolding v7 v8 v9 xs tz
  f_is =
      same_by p (times (num 2) (plus (times v4 v5) (minus (times v6 (times v9 (var 12)))))) (times tz (tf v0 v1 v2 v3)) xs
      ((minus (times (num 2) (times v6 (var 12))), v9, times (times v0 v1) v4)
      ∷ (minus (times (num 2) (times v6 (times (times v0 v1) v4))), var 12, times (times v2 v3) v5)
      ∷ [])
      (m.t_is, (n.t_is, tt)) refl

  g_is : g_of z1 t1 z2 t2 % p ≡ (2 * (z1 * z2) * (1 + d * (a.x * b.x * (a.y * b.y)))) % p
  unfolding v7 v8 v9 xs tz
  g_is =
      same_by p (times (num 2) (plus (times v4 v5) (times v6 (times v9 (var 12))))) (times tz (tg v0 v1 v2 v3)) xs
      ((times (num 2) (times v6 (var 12)), v9, times (times v0 v1) v4)
      ∷ (times (num 2) (times v6 (times (times v0 v1) v4)), var 12, times (times v2 v3) v5)
      ∷ [])
      (m.t_is, (n.t_is, tt)) refl

  -- the four numbers of the code write the sum
  pub sum_represents : (x y z t : ℕ)
      → x % p ≡ (e_of x1 y1 x2 y2 * f_of z1 t1 z2 t2) % p
      → y % p ≡ (g_of z1 t1 z2 t2 * h_of x1 y1 x2 y2) % p
      → z % p ≡ (f_of z1 t1 z2 t2 * g_of z1 t1 z2 t2) % p
      → t % p ≡ (e_of x1 y1 x2 y2 * h_of x1 y1 x2 y2) % p
      → Represents x y z t (add a b)
  sum_represents x y z t hx hy hz ht = record {
    point = add_point a b m.point n.point;
    whole = λ w. nonzero (2 * (z1 * z2) * f) (2 * (z1 * z2) * g)
        (nonzero (2 * (z1 * z2)) f (nonzero 2 (z1 * z2) two (nonzero z1 z2 m.whole n.whole)) (Group.f_nonzero inverse prime_p inverts nonsquare a.x a.y b.x b.y m.point.curve n.point.curve))
        (nonzero (2 * (z1 * z2)) g (nonzero 2 (z1 * z2) two (nonzero z1 z2 m.whole n.whole)) (Group.g_nonzero inverse prime_p inverts nonsquare a.x a.y b.x b.y m.point.curve n.point.curve))
        (sym (mod_times p _ (2 * (z1 * z2) * f) _ (2 * (z1 * z2) * g) f_is g_is) ∙ sym hz ∙ w);
    x_is =
        same_by p (var 9) (times (var 1) (var 11)) all
        ((num 1, var 9, times (var 3) (var 5))
        ∷ (var 5, var 3, times (var 0) (var 7))
        ∷ (minus (var 1), var 11, times (var 5) (var 6))
        ∷ (minus (times (var 1) (var 5)), var 6, times (var 0) (var 13))
        ∷ (minus (times (var 0) (var 5)), times (var 1) (var 13), var 7)
        ∷ [])
        (hx, (e_is, (hz, (g_is, (s.x, tt))))) refl;
    y_is =
        same_by p (var 10) (times (var 2) (var 11)) all
        ((num 1, var 10, times (var 6) (var 4))
        ∷ (var 6, var 4, times (var 0) (var 8))
        ∷ (minus (var 2), var 11, times (var 5) (var 6))
        ∷ (minus (times (var 2) (var 6)), var 5, times (var 0) (var 14))
        ∷ (minus (times (var 0) (var 6)), times (var 2) (var 14), var 8)
        ∷ [])
        (hy, (h_is, (hz, (f_is, (s.y, tt))))) refl;
    t_is =
        same_by p (var 12) (times (times (var 1) (var 2)) (var 11)) all
        ((num 1, var 12, times (var 3) (var 4))
        ∷ (var 4, var 3, times (var 0) (var 7))
        ∷ (times (var 0) (var 7), var 4, times (var 0) (var 8))
        ∷ (minus (times (var 1) (var 2)), var 11, times (var 5) (var 6))
        ∷ (minus (times (times (var 1) (var 2)) (var 6)), var 5, times (var 0) (var 14))
        ∷ (minus (times (times (var 1) (var 2)) (times (var 0) (var 14))), var 6, times (var 0) (var 13))
        ∷ (minus (times (times (var 0) (var 0)) (times (var 2) (var 14))), times (var 1) (var 13), var 7)
        ∷ (minus (times (times (var 0) (var 0)) (var 7)), times (var 2) (var 14), var 8)
        ∷ [])
        (ht, (e_is, (h_is, (hz, (f_is, (g_is, (s.x, (s.y, tt)))))))) refl;
  }
    where
      f : ℕ
      f = 1 + (p - 1) * (d * (a.x * b.x * (a.y * b.y)))

      g : ℕ
      g = 1 + d * (a.x * b.x * (a.y * b.y))

      two : 2 % p ≢ 0
      two w = omega (arith, w)

      s : Group.IsSum inverse prime_p inverts nonsquare a.x a.y b.x b.y (add a b).x (add a b).y
      s = sum_of a b m.point n.point

      all : List ℕ
      all =
          (2 * (z1 * z2)) ∷ (add a b).x ∷ (add a b).y ∷ e_of x1 y1 x2 y2 ∷ h_of x1 y1 x2 y2 ∷ f_of z1 t1 z2 t2 ∷ g_of z1 t1 z2 t2
          ∷ (a.x * b.y + b.x * a.y) ∷ (a.y * b.y + a.x * b.x) ∷ x ∷ y ∷ z ∷ t ∷ g ∷ f ∷ []
