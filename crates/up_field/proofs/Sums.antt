-- Sums with a point made ready.
use Rattle.std.proofs.Common.{◌≡◌, ℕ, ◌+◌, ◌*◌, ◌-◌, ◌%◌, refl, ◌∙◌, List, [], ◌∷◌}
use Rattle.up_curve.proofs.Ring.{Term, num, var, plus, times, same_by, mod_times}
use Rattle.up_curve.specs.Coordinates.{Represents, e_of, f_of, g_of, h_of}
use Rattle.up_curve.proofs.Extended.{sum_represents}
use Rattle.up_curve.specs.Field.{p}
use Rattle.up_curve.specs.Curve.{d, Point, add}

abbrev minus : Term → Term
minus t = times (num (p - 1)) t

-- y - x, modulo p
pub difference : (r x y w : ℕ) → (w + x) % p ≡ y % p → r % p ≡ w % p → r % p ≡ (y + (p - 1) * x) % p
difference r x y w h k =
    k ∙ same_by p (var 2) (plus (var 1) (minus (var 0))) (x ∷ y ∷ w ∷ [])
    ((num 1, plus (var 2) (var 0), var 1) ∷ []) (h, tt) refl

module _ (x1 y1 z1 t1 x2 y2 z2 t2 bp bm bz bt i j s u c z e f g h rx ry rz rt : ℕ) (a b : Point) (m : Represents x1 y1 z1 t1 a) (n : Represents x2 y2 z2 t2 b)
    (kp : bp % p ≡ (y2 + x2) % p) (km : bm % p ≡ (y2 + (p - 1) * x2) % p) (kz : bz % p ≡ (2 * z2) % p) (kt : bt % p ≡ (2 * d * t2) % p)
    (hi : (i + x1) % p ≡ y1 % p) (hj : j % p ≡ (y1 + x1) % p) (hs : s % p ≡ (i * bm) % p) (hu : u % p ≡ (j * bp) % p)
    (hc : c % p ≡ (t1 * bt) % p) (hz : z % p ≡ (z1 * bz) % p) (he : (e + s) % p ≡ u % p) (hf : (f + c) % p ≡ z % p)
    (hg : g % p ≡ (z + c) % p) (hh : h % p ≡ (u + s) % p)
    (hx : rx % p ≡ (e * f) % p) (hy : ry % p ≡ (g * h) % p) (hw : rz % p ≡ (f * g) % p) (ht : rt % p ≡ (e * h) % p) where
  xs : List ℕ
  xs = x1 ∷ y1 ∷ x2 ∷ y2 ∷ bp ∷ bm ∷ i ∷ j ∷ s ∷ u ∷ e ∷ h ∷ []

  ys : List ℕ
  ys = z1 ∷ z2 ∷ t1 ∷ t2 ∷ d ∷ bz ∷ bt ∷ c ∷ z ∷ f ∷ g ∷ []

  s_is : s % p ≡ ((y1 + (p - 1) * x1) * (y2 + (p - 1) * x2)) % p
  s_is = hs ∙ mod_times p i (y1 + (p - 1) * x1) bm (y2 + (p - 1) * x2) (difference i x1 y1 i hi refl) km

  u_is : u % p ≡ ((y1 + x1) * (y2 + x2)) % p
  u_is = hu ∙ mod_times p j (y1 + x1) bp (y2 + x2) hj kp

  e_is : e % p ≡ e_of x1 y1 x2 y2 % p
  unfolding xs
  e_is =
      same_by p (var 10) (times (num 2) (plus (times (var 0) (var 3)) (times (var 2) (var 1)))) xs
      ((num 1, plus (var 10) (var 8), var 9)
      ∷ (num 1, var 9, times (plus (var 1) (var 0)) (plus (var 3) (var 2)))
      ∷ (minus (num 1), var 8, times (plus (var 1) (minus (var 0))) (plus (var 3) (minus (var 2))))
      ∷ [])
      (he, (u_is, (s_is, tt))) refl

  h_is : h % p ≡ h_of x1 y1 x2 y2 % p
  unfolding xs
  h_is =
      same_by p (var 11) (times (num 2) (plus (times (var 1) (var 3)) (times (var 0) (var 2)))) xs
      ((num 1, var 11, plus (var 9) (var 8))
      ∷ (num 1, var 9, times (plus (var 1) (var 0)) (plus (var 3) (var 2)))
      ∷ (num 1, var 8, times (plus (var 1) (minus (var 0))) (plus (var 3) (minus (var 2))))
      ∷ [])
      (hh, (u_is, (s_is, tt))) refl

  f_is : f % p ≡ f_of z1 t1 z2 t2 % p
  unfolding ys
  f_is =
      same_by p (var 9) (times (num 2) (plus (times (var 0) (var 1)) (minus (times (var 4) (times (var 2) (var 3)))))) ys
      ((num 1, plus (var 9) (var 7), var 8)
      ∷ (num 1, var 8, times (var 0) (var 5))
      ∷ (var 0, var 5, times (num 2) (var 1))
      ∷ (minus (num 1), var 7, times (var 2) (var 6))
      ∷ (minus (var 2), var 6, times (times (num 2) (var 4)) (var 3))
      ∷ [])
      (hf, (hz, (kz, (hc, (kt, tt))))) refl

  g_is : g % p ≡ g_of z1 t1 z2 t2 % p
  unfolding ys
  g_is =
      same_by p (var 10) (times (num 2) (plus (times (var 0) (var 1)) (times (var 4) (times (var 2) (var 3))))) ys
      ((num 1, var 10, plus (var 8) (var 7))
      ∷ (num 1, var 8, times (var 0) (var 5))
      ∷ (var 0, var 5, times (num 2) (var 1))
      ∷ (num 1, var 7, times (var 2) (var 6))
      ∷ (var 2, var 6, times (times (num 2) (var 4)) (var 3))
      ∷ [])
      (hg, (hz, (kz, (hc, (kt, tt))))) refl

  pub cached_represents : Represents rx ry rz rt (add a b)
  cached_represents =
      sum_represents x1 y1 z1 t1 x2 y2 z2 t2 a b m n rx ry rz rt
      (hx ∙ mod_times p e (e_of x1 y1 x2 y2) f (f_of z1 t1 z2 t2) e_is f_is)
      (hy ∙ mod_times p g (g_of z1 t1 z2 t2) h (h_of x1 y1 x2 y2) g_is h_is)
      (hw ∙ mod_times p f (f_of z1 t1 z2 t2) g (g_of z1 t1 z2 t2) f_is g_is)
      (ht ∙ mod_times p e (e_of x1 y1 x2 y2) h (h_of x1 y1 x2 y2) e_is h_is)
