-- Twice a point by four numbers (RFC 8032, section 5.1.4).
use Rattle.std.proofs.Common.{◌≡◌, ◌≢◌, ℕ, ◌+◌, ◌*◌, ◌-◌, ◌%◌, refl, sym, ◌∙◌, ap, arith, List, [], ◌∷◌}
use Rattle.std.proofs.Math.Nat.{zero-mod}
use Rattle.up_curve.proofs.Ring.{Term, num, var, plus, times, same_by, mod_times}
use Rattle.up_curve.proofs.Group as Group
use Rattle.up_curve.proofs.Prime.{prime_p}
use Rattle.up_curve.proofs.Curve.{inverts, nonsquare}
use Rattle.up_curve.specs.Coordinates.{Represents, e_of, f_of, g_of, h_of}
use Rattle.up_curve.proofs.Extended.{sum_represents}
use Rattle.up_curve.specs.Field.{p, inverse}
use Rattle.up_curve.specs.Curve.{d, Point, add}

abbrev minus : Term → Term
minus t = times (num (p - 1)) t

abbrev sq : Term → Term
sq t = times t t

cancels : (a b c : ℕ) → c % p ≢ 0 → (a * c) % p ≡ (b * c) % p → a % p ≡ b % p
cancels = Group.cancel inverse prime_p inverts nonsquare

-- a common factor is left out
unscaled : (c x y z t : ℕ) (a : Point) → c % p ≢ 0 → Represents (c * x) (c * y) (c * z) (c * t) a → Represents x y z t a
unscaled c x y z t a h r = record {
  point = r.point;
  whole = λ e. r.whole (mod_times p c c z 0 refl (e ∙ sym (zero-mod p)) ∙ ap (λ n. n % p) (let s : c * 0 ≡ 0 = omega arith in s) ∙ zero-mod p);
  x_is = by x a.x r.x_is;
  y_is = by y a.y r.y_is;
  t_is = by t (a.x * a.y) r.t_is;
}
  where
    by : (x b : ℕ) → (c * x) % p ≡ (b * (c * z)) % p → x % p ≡ (b * z) % p
    by x b e =
        cancels x (b * z) c h
        (ap (λ n. n % p) (let s : x * c ≡ c * x = omega arith in s) ∙ e ∙ ap (λ n. n % p) (let s : b * (c * z) ≡ b * z * c = omega arith in s))

module _ (x y z t : ℕ) (a : Point) (m : Represents x y z t a) (s u v c h n q e g f rx ry rz rt : ℕ)
    (hs : s % p ≡ (x * x) % p) (hu : u % p ≡ (y * y) % p) (hv : v % p ≡ (z * z) % p) (hc : c % p ≡ (v + v) % p) (hh : h % p ≡ (s + u) % p)
    (hn : n % p ≡ (x + y) % p) (hq : q % p ≡ (n * n) % p) (he : (e + q) % p ≡ h % p)
    (hg : (g + u) % p ≡ s % p) (hf : f % p ≡ (c + g) % p)
    (hx : rx % p ≡ (e * f) % p) (hy : ry % p ≡ (g * h) % p) (hz : rz % p ≡ (f * g) % p) (ht : rt % p ≡ (e * h) % p) where
  -- a term for each number
  xs : List ℕ
  xs = x ∷ y ∷ z ∷ t ∷ a.x ∷ a.y ∷ d ∷ s ∷ u ∷ v ∷ c ∷ h ∷ n ∷ q ∷ e ∷ g ∷ f ∷ []

  X : Term
  X = var 0

  Y : Term
  Y = var 1

  -- y^2 = x^2 + z^2 + d * t^2
  curve : (y * y) % p ≡ (x * x + (z * z + d * (t * t))) % p
  unfolding xs X Y
  curve =
      same_by p (sq Y) (plus (sq X) (plus (sq (var 2)) (times (var 6) (sq (var 3))))) xs
      ((plus Y (times (var 5) (var 2)), Y, times (var 5) (var 2))
      ∷ (sq (var 2), sq (var 5), plus (num 1) (plus (sq (var 4)) (times (var 6) (times (sq (var 4)) (sq (var 5))))))
      ∷ (minus (plus X (times (var 4) (var 2))), X, times (var 4) (var 2))
      ∷ (minus (times (var 6) (plus (var 3) (times (times (var 4) (var 5)) (var 2)))), var 3, times (times (var 4) (var 5)) (var 2))
      ∷ [])
      (m.y_is, (m.point.curve, (m.x_is, (m.t_is, tt)))) refl

  e_is : e_of x y x y % p ≡ ((p - 2) * e) % p
  unfolding xs X Y
  e_is =
      same_by p (times (num 2) (plus (times X Y) (times X Y))) (times (num (p - 2)) (var 14)) xs
      ((num 2, plus (var 14) (var 13), var 11)
      ∷ (minus (num 2), var 13, sq (var 12))
      ∷ (num 2, var 11, plus (var 7) (var 8))
      ∷ (num 2, var 7, sq X)
      ∷ (num 2, var 8, sq Y)
      ∷ (minus (times (num 2) (plus (var 12) (plus X Y))), var 12, plus X Y)
      ∷ [])
      (he, (hq, (hh, (hs, (hu, (hn, tt)))))) refl

  h_is : h_of x y x y % p ≡ (2 * h) % p
  unfolding xs X Y
  h_is =
      same_by p (times (num 2) (plus (sq Y) (sq X))) (times (num 2) (var 11)) xs
      ((minus (num 2), var 11, plus (var 7) (var 8)) ∷ (minus (num 2), var 7, sq X) ∷ (minus (num 2), var 8, sq Y) ∷ [])
      (hh, (hs, (hu, tt))) refl

  g_is : g_of z t z t % p ≡ ((p - 2) * g) % p
  unfolding xs X Y
  g_is =
      same_by p (times (num 2) (plus (sq (var 2)) (times (var 6) (sq (var 3))))) (times (num (p - 2)) (var 15)) xs
      ((num 2, plus (var 15) (var 8), var 7)
      ∷ (num 2, var 7, sq X)
      ∷ (minus (num 2), var 8, sq Y)
      ∷ (minus (num 2), sq Y, plus (sq X) (plus (sq (var 2)) (times (var 6) (sq (var 3)))))
      ∷ [])
      (hg, (hs, (hu, (curve, tt)))) refl

  f_is : f_of z t z t % p ≡ (2 * f) % p
  unfolding xs X Y
  f_is =
      same_by p (times (num 2) (plus (sq (var 2)) (minus (times (var 6) (sq (var 3)))))) (times (num 2) (var 16)) xs
      ((minus (num 2), var 16, plus (var 10) (var 15))
      ∷ (minus (num 2), var 10, plus (var 9) (var 9))
      ∷ (minus (num 4), var 9, sq (var 2))
      ∷ (minus (num 1), times (num 2) (plus (sq (var 2)) (times (var 6) (sq (var 3)))), times (num (p - 2)) (var 15))
      ∷ [])
      (hf, (hc, (hv, (g_is, tt)))) refl

  -- -4 times a product, of one number that is doubled and one whose double is negated
  four : (r i j k l : ℕ) → r % p ≡ (i * j) % p → k % p ≡ ((p - 2) * i) % p → l % p ≡ (2 * j) % p → ((p - 4) * r) % p ≡ (k * l) % p
  four r i j k l hr hk hl =
      same_by p (times (num (p - 4)) (var 0)) (times (var 3) (var 4)) (r ∷ i ∷ j ∷ k ∷ l ∷ [])
      ((num (p - 4), var 0, times (var 1) (var 2))
      ∷ (minus (times (num 2) (var 2)), var 3, times (num (p - 2)) (var 1))
      ∷ (minus (var 3), var 4, times (num 2) (var 2))
      ∷ [])
      (hr, (hk, (hl, tt))) refl

  swapped : (i j : ℕ) → (i * j) % p ≡ (j * i) % p
  swapped i j = ap (λ n. n % p) (omega arith)

  pub twice_represents : Represents rx ry rz rt (add a a)
  twice_represents =
      unscaled (p - 4) rx ry rz rt (add a a) (λ k. omega (arith, k))
      (sum_represents x y z t x y z t a a m m ((p - 4) * rx) ((p - 4) * ry) ((p - 4) * rz) ((p - 4) * rt)
      (four rx e f (e_of x y x y) (f_of z t z t) hx e_is f_is)
      (four ry g h (g_of z t z t) (h_of x y x y) hy g_is h_is)
      (four rz g f (g_of z t z t) (f_of z t z t) (hz ∙ swapped f g) g_is f_is ∙ swapped (g_of z t z t) (f_of z t z t))
      (four rt e h (e_of x y x y) (h_of x y x y) ht e_is h_is))
