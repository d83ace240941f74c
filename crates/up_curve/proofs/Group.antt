-- Points of the curve -x^2 + y^2 = 1 + d x^2 y^2 modulo 2^255 - 19 (RFC 8032, section 5.1): their sum is a point, and is associative.
pub use Rattle.up_curve.specs.Curve.{d}
pub use Rattle.up_curve.specs.Field.{sqrt_minus_one}
use Rattle.std.proofs.Common.{◌≡◌, ◌≢◌, ℕ, ◌+◌, ◌*◌, ◌/◌, ◌-◌, ◌%◌, ◌⊎◌, inl, inr, refl, sym, ◌∙◌, ap, arith, List, [], ◌∷◌}
use Rattle.std.proofs.Math.Nat.{mod-mod}
use Rattle.up_curve.proofs.Ring.{Term, num, var, plus, times, value, same, same_by, mod_times}
use Rattle.up_curve.proofs.Assoc.{p, minus, v0, v1, v2, v3, v4, v5, v6, te, th, tk, tf, tg, nx, ny, dx, dy, OnCurve, assoc_x, assoc_y}
use Rattle.up_curve.proofs.Fermat.{IsPrimeElement}

pub i_squared : (sqrt_minus_one * sqrt_minus_one) % p ≡ (p - 1) % p
i_squared = refl

abbrev v7 : Term
v7 = var 7

abbrev v8 : Term
v8 = var 8

abbrev v9 : Term
v9 = var 9

abbrev closure0 : Term
closure0 = (plus (plus (plus (times (times (times (times (times (times (times (times (times (times (times (times (times (times (times (times v0 v0) v1) v1) v2) v2) v2) v2) v3) v3) v3) v3) v6) v6) v6) v6) v6) (plus (minus (times (times (times (times (times (times (times (times (times (times (times (times (times v0 v0) v2) v2) v2) v2) v3) v3) v3) v3) v6) v6) v6) v6)) (minus (times (times (times (times (times (times (times (times (times (times v0 v0) v2) v2) v2) v2) v3) v3) v6) v6) v6)))) (plus (plus (times (times (times (times (times (times (times (times (times (times v0 v0) v2) v2) v3) v3) v3) v3) v6) v6) v6) (times (times (times (times (times (times (times (times (times (times (times (times (times v1 v1) v2) v2) v2) v2) v3) v3) v3) v3) v6) v6) v6) v6)) (plus (times (times (times (times (times (times (times (times (times (times v1 v1) v2) v2) v2) v2) v3) v3) v6) v6) v6) (minus (times (times (times (times (times (times (times (times (times (times v1 v1) v2) v2) v3) v3) v3) v3) v6) v6) v6))))) (plus (plus (plus (minus (times (times (times (times (times (times (times (times (times (times (times v2 v2) v2) v2) v3) v3) v3) v3) v6) v6) v6) v6)) (minus (times (num 2) (times (times (times (times (times (times (times (times (times (times v2 v2) v2) v2) v3) v3) v3) v3) v6) v6) v6)))) (plus (minus (times (num 2) (times (times (times (times (times (times (times v2 v2) v2) v2) v3) v3) v6) v6))) (times (times (times (times (times v2 v2) v2) v2) v6) v6))) (plus (plus (times (num 2) (times (times (times (times (times (times (times v2 v2) v3) v3) v3) v3) v6) v6)) (minus (times (num 2) (times (times (times (times (times (times v2 v2) v3) v3) v6) v6) v6)))) (plus (minus (times (num 4) (times (times (times (times (times v2 v2) v3) v3) v6) v6))) (times (times (times (times (times v3 v3) v3) v3) v6) v6)))))

abbrev closure1 : Term
closure1 = (plus (plus (plus (times (times (times (times (times (times (times (times (times (times v0 v0) v0) v0) v2) v2) v3) v3) v6) v6) v6) (plus (times (num 2) (times (times (times (times (times (times (times (times v0 v0) v2) v2) v3) v3) v6) v6) v6)) (times (num 2) (times (times (times (times (times (times (times v0 v0) v2) v2) v3) v3) v6) v6)))) (plus (plus (minus (times (times (times (times (times v0 v0) v2) v2) v6) v6)) (times (times (times (times (times v0 v0) v3) v3) v6) v6)) (plus (times (times (times (times (times (times (times (times (times (times v1 v1) v1) v1) v2) v2) v3) v3) v6) v6) v6) (minus (times (num 2) (times (times (times (times (times (times (times (times v1 v1) v2) v2) v3) v3) v6) v6) v6)))))) (plus (plus (plus (minus (times (num 2) (times (times (times (times (times (times (times v1 v1) v2) v2) v3) v3) v6) v6))) (times (times (times (times (times v1 v1) v2) v2) v6) v6)) (plus (minus (times (times (times (times (times v1 v1) v3) v3) v6) v6)) (times (times (times (times (times (times v2 v2) v3) v3) v6) v6) v6))) (plus (plus (times (num 2) (times (times (times (times (times v2 v2) v3) v3) v6) v6)) (minus (times (times (times v2 v2) v6) v6))) (plus (times (times (times v3 v3) v6) v6) (times v6 v6)))))

module _ (inverse : ℕ → ℕ) (prime : IsPrimeElement p) (inverts : (a : ℕ) → a % p ≢ 0 → (a * inverse a) % p ≡ 1)
    (nonsquare : (u v : ℕ) → (u * u) % p ≡ (d * (v * v)) % p → v % p ≡ 0) where
  -- a factor that is not 0 is left out on both sides
  pub cancel : (a b c : ℕ) → c % p ≢ 0 → (a * c) % p ≡ (b * c) % p → a % p ≡ b % p
  cancel a b c h e =
      sym (back a) ∙ mod_times p (a * c) (b * c) (inverse c) (inverse c) e refl ∙ back b
    where
      back : (n : ℕ) → (n * c * inverse c) % p ≡ n % p
      back n =
          ap (λ z. z % p) (omega arith)
          ∙ mod_times p n n (c * inverse c) 1 refl (inverts c h)
          ∙ ap (λ z. z % p) (omega arith)

  pub nonzero_times : (a b : ℕ) → a % p ≢ 0 → b % p ≢ 0 → (a * b) % p ≢ 0
  nonzero_times a b h k e = from (prime.divides a b e)
    where
      from : (a % p ≡ 0) ⊎ (b % p ≡ 0) → ⊥
      from (inl z) = h z
      from (inr z) = k z

  -- a quotient times its divisor
  quotient : (n q : ℕ) → q % p ≢ 0 → ((n * inverse q) % p * q) % p ≡ n % p
  quotient n q h =
      mod_times p ((n * inverse q) % p) (n * inverse q) q q (mod-mod (n * inverse q) p) refl
      ∙ ap (λ z. z % p) (omega arith)
      ∙ mod_times p n n (q * inverse q) 1 refl (inverts q h)
      ∙ ap (λ z. z % p) (omega arith)

  -- d times the product of the four coordinates, and the two denominators
  abbrev pub k_of : ℕ → ℕ → ℕ → ℕ → ℕ
  k_of x1 y1 x2 y2 = d * (x1 * x2 * (y1 * y2))

  abbrev pub g_of : ℕ → ℕ → ℕ → ℕ → ℕ
  g_of x1 y1 x2 y2 = 1 + k_of x1 y1 x2 y2

  abbrev pub f_of : ℕ → ℕ → ℕ → ℕ → ℕ
  f_of x1 y1 x2 y2 = 1 + (p - 1) * k_of x1 y1 x2 y2

  square : (x1 y1 x2 y2 : ℕ) → OnCurve d x1 y1 → OnCurve d x2 y2 → (k_of x1 y1 x2 y2 * k_of x1 y1 x2 y2) % p ≡ 1
      → (x1 * y1 * (sqrt_minus_one * x2 + y2)) % p ≡ 0
  square x1 y1 x2 y2 h1 h2 k =
      nonsquare (sqrt_minus_one * x1 + k_of x1 y1 x2 y2 * y1) (x1 * y1 * (sqrt_minus_one * x2 + y2))
      (same_by p
      (times (plus (times ti v0) (times (tk v0 v1 v2 v3) v1)) (plus (times ti v0) (times (tk v0 v1 v2 v3) v1)))
      (times v6 (times w w)) xs
      ((times v1 v1, times (tk v0 v1 v2 v3) (tk v0 v1 v2 v3), num 1)
      ∷ (num 1, times v1 v1, plus (num 1) (plus (times v0 v0) (times v6 (times (times v0 v0) (times v1 v1)))))
      ∷ (minus (times v6 (times (times v0 v0) (times v1 v1))), times v3 v3, plus (num 1) (plus (times v2 v2) (times v6 (times (times v2 v2) (times v3 v3)))))
      ∷ (minus (num 1), times (tk v0 v1 v2 v3) (tk v0 v1 v2 v3), num 1)
      ∷ [])
      (k, (h1, (h2, (k, tt)))) refl)
    where
      ti : Term
      ti = num sqrt_minus_one

      w : Term
      w = times (times v0 v1) (plus (times ti v2) v3)

      xs : List ℕ
      xs = x1 ∷ y1 ∷ x2 ∷ y2 ∷ 0 ∷ 0 ∷ d ∷ []

  -- k is no root of 1
  unit : (x1 y1 x2 y2 : ℕ) → OnCurve d x1 y1 → OnCurve d x2 y2 → (k_of x1 y1 x2 y2 * k_of x1 y1 x2 y2) % p ≡ 1 → ⊥
  unit x1 y1 x2 y2 h1 h2 k = one_zero contradiction
    where
      one_zero : 1 % p ≡ 0 % p → ⊥
      one_zero e = omega (arith, e)

      xs : List ℕ
      xs = x1 ∷ y1 ∷ x2 ∷ y2 ∷ 0 ∷ 0 ∷ d ∷ []

      y2' : Term
      y2' = minus v3

      k' : (k_of x1 y1 x2 ((p - 1) * y2) * k_of x1 y1 x2 ((p - 1) * y2)) % p ≡ 1
      k' = same p (times (tk v0 v1 v2 y2') (tk v0 v1 v2 y2')) (times (tk v0 v1 v2 v3) (tk v0 v1 v2 v3)) xs refl ∙ k

      h2' : OnCurve d x2 ((p - 1) * y2)
      h2' = same_by p (times y2' y2') (plus (num 1) (plus (times v2 v2) (times v6 (times (times v2 v2) (times y2' y2'))))) xs
          ((num 1, times v3 v3, plus (num 1) (plus (times v2 v2) (times v6 (times (times v2 v2) (times v3 v3))))) ∷ []) (h2, tt) refl

      c : Term
      c = times (num ((p + 1) / 2)) (times (times v6 v6) (times (times v0 v1) (times (times v2 v2) v3)))

      contradiction : 1 % p ≡ 0 % p
      contradiction =
          same_by p (num 1) (num 0) xs
          ((c, times (times v0 v1) (plus (times (num sqrt_minus_one) v2) v3), num 0)
          ∷ (minus c, times (times v0 v1) (plus (times (num sqrt_minus_one) v2) y2'), num 0)
          ∷ (minus (num 1), times (tk v0 v1 v2 v3) (tk v0 v1 v2 v3), num 1)
          ∷ [])
          (square x1 y1 x2 y2 h1 h2 k, (square x1 y1 x2 ((p - 1) * y2) h1 h2' k', (k, tt))) refl

  -- the denominators are not 0
  pub g_nonzero : (x1 y1 x2 y2 : ℕ) → OnCurve d x1 y1 → OnCurve d x2 y2 → g_of x1 y1 x2 y2 % p ≢ 0
  g_nonzero x1 y1 x2 y2 h1 h2 e =
      unit x1 y1 x2 y2 h1 h2
      (same_by p (times v0 v0) (num 1) (k_of x1 y1 x2 y2 ∷ []) ((plus v0 (num (p - 1)), plus (num 1) v0, num 0) ∷ []) (e, tt) refl)

  pub f_nonzero : (x1 y1 x2 y2 : ℕ) → OnCurve d x1 y1 → OnCurve d x2 y2 → f_of x1 y1 x2 y2 % p ≢ 0
  f_nonzero x1 y1 x2 y2 h1 h2 e =
      unit x1 y1 x2 y2 h1 h2
      (same_by p (times v0 v0) (num 1) (k_of x1 y1 x2 y2 ∷ [])
      ((minus (plus v0 (num 1)), plus (num 1) (minus v0), num 0) ∷ []) (e, tt) refl)

  d_nonzero : d % p ≢ 0
  d_nonzero e = omega (arith, e)

  -- the sum of two points (RFC 8032, section 5.1.4)
  abbrev pub add_x : ℕ → ℕ → ℕ → ℕ → ℕ
  add_x x1 y1 x2 y2 = ((x1 * y2 + x2 * y1) * inverse (g_of x1 y1 x2 y2)) % p

  abbrev pub add_y : ℕ → ℕ → ℕ → ℕ → ℕ
  add_y x1 y1 x2 y2 = ((y1 * y2 + x1 * x2) * inverse (f_of x1 y1 x2 y2)) % p

  -- what the coordinates of a sum are
  pub record IsSum (x1 y1 x2 y2 xs ys : ℕ) : Type 0 where
    pub x : (xs * g_of x1 y1 x2 y2) % p ≡ (x1 * y2 + x2 * y1) % p
    pub y : (ys * f_of x1 y1 x2 y2) % p ≡ (y1 * y2 + x1 * x2) % p

  pub is_sum : (x1 y1 x2 y2 : ℕ) → OnCurve d x1 y1 → OnCurve d x2 y2 → IsSum x1 y1 x2 y2 (add_x x1 y1 x2 y2) (add_y x1 y1 x2 y2)
  is_sum x1 y1 x2 y2 h1 h2 = record {
    x = quotient (x1 * y2 + x2 * y1) (g_of x1 y1 x2 y2) (g_nonzero x1 y1 x2 y2 h1 h2);
    y = quotient (y1 * y2 + x1 * x2) (f_of x1 y1 x2 y2) (f_nonzero x1 y1 x2 y2 h1 h2);
  }

  -- a sum is on the curve
  pub closed : (x1 y1 x2 y2 xs ys : ℕ) → OnCurve d x1 y1 → OnCurve d x2 y2 → IsSum x1 y1 x2 y2 xs ys → OnCurve d xs ys
  closed x1 y1 x2 y2 xs ys h1 h2 sum =
      cancel (ys * ys) (1 + (xs * xs + d * (xs * xs * (ys * ys)))) (value mm at_all)
      (nonzero_times _ _ (nonzero_times d d d_nonzero d_nonzero) (nonzero_times _ _
      (nonzero_times _ _ (f_nonzero x1 y1 x2 y2 h1 h2) (f_nonzero x1 y1 x2 y2 h1 h2))
      (nonzero_times _ _ (g_nonzero x1 y1 x2 y2 h1 h2) (g_nonzero x1 y1 x2 y2 h1 h2))))
      (same_by p (times (times v8 v8) mm) (times (plus (num 1) (plus (times v7 v7) (times v6 (times (times v7 v7) (times v8 v8))))) mm) at_all
      ((times dd (times (plus (times v8 f) h) (plus (times g g) (minus (times v6 (times (times v7 g) (times v7 g)))))), times v8 f, h)
      ∷ (times dd (minus (times (plus (times v7 g) e) (plus (times f f) (times v6 (times h h))))), times v7 g, e)
      ∷ (closure0, times v1 v1, plus (num 1) (plus (times v0 v0) (times v6 (times (times v0 v0) (times v1 v1)))))
      ∷ (closure1, times v3 v3, plus (num 1) (plus (times v2 v2) (times v6 (times (times v2 v2) (times v3 v3)))))
      ∷ [])
      (sum.y, (sum.x, (h1, (h2, tt)))) refl)
    where
      at_all : List ℕ
      at_all = x1 ∷ y1 ∷ x2 ∷ y2 ∷ 0 ∷ 0 ∷ d ∷ xs ∷ ys ∷ []

      e : Term
      e = te v0 v1 v2 v3

      h : Term
      h = th v0 v1 v2 v3

      f : Term
      f = tf v0 v1 v2 v3

      g : Term
      g = tg v0 v1 v2 v3

      dd : Term
      dd = times v6 v6

      mm : Term
      mm = times dd (times (times f f) (times g g))

  -- the sum of two points, and a third, over one fraction
  over_x : (x1 y1 x2 y2 x3 y3 xs ys xt yt : ℕ) → IsSum x1 y1 x2 y2 xs ys → IsSum xs ys x3 y3 xt yt
      → (xt * value (dx v0 v1 v2 v3 v4 v5) (x1 ∷ y1 ∷ x2 ∷ y2 ∷ x3 ∷ y3 ∷ d ∷ [])) % p
      ≡ value (nx v0 v1 v2 v3 v4 v5) (x1 ∷ y1 ∷ x2 ∷ y2 ∷ x3 ∷ y3 ∷ d ∷ []) % p
  over_x x1 y1 x2 y2 x3 y3 xs ys xt yt s t =
      same_by p (times v9 (dx v0 v1 v2 v3 v4 v5)) (nx v0 v1 v2 v3 v4 v5) (x1 ∷ y1 ∷ x2 ∷ y2 ∷ x3 ∷ y3 ∷ d ∷ xs ∷ ys ∷ xt ∷ [])
      ((times f g, times v9 (tg v7 v8 v4 v5), te v7 v8 v4 v5)
      ∷ (plus (times g v4) (minus (times v9 (times v6 (times (times v4 v5) e)))), times v8 f, th v0 v1 v2 v3)
      ∷ (plus (times f v5) (minus (times v9 (times v6 (times (times v4 v5) (times v8 f))))), times v7 g, e)
      ∷ [])
      (t.x, (s.y, (s.x, tt))) refl
    where
      e : Term
      e = te v0 v1 v2 v3

      f : Term
      f = tf v0 v1 v2 v3

      g : Term
      g = tg v0 v1 v2 v3

  over_y : (x1 y1 x2 y2 x3 y3 xs ys xt yt : ℕ) → IsSum x1 y1 x2 y2 xs ys → IsSum xs ys x3 y3 xt yt
      → (yt * value (dy v0 v1 v2 v3 v4 v5) (x1 ∷ y1 ∷ x2 ∷ y2 ∷ x3 ∷ y3 ∷ d ∷ [])) % p
      ≡ value (ny v0 v1 v2 v3 v4 v5) (x1 ∷ y1 ∷ x2 ∷ y2 ∷ x3 ∷ y3 ∷ d ∷ []) % p
  over_y x1 y1 x2 y2 x3 y3 xs ys xt yt s t =
      same_by p (times v9 (dy v0 v1 v2 v3 v4 v5)) (ny v0 v1 v2 v3 v4 v5) (x1 ∷ y1 ∷ x2 ∷ y2 ∷ x3 ∷ y3 ∷ d ∷ xs ∷ ys ∷ yt ∷ [])
      ((times f g, times v9 (tf v7 v8 v4 v5), th v7 v8 v4 v5)
      ∷ (plus (times g v5) (times v9 (times v6 (times (times v4 v5) e))), times v8 f, th v0 v1 v2 v3)
      ∷ (plus (times f v4) (times v9 (times v6 (times (times v4 v5) (times v8 f)))), times v7 g, e)
      ∷ [])
      (t.y, (s.y, (s.x, tt))) refl
    where
      e : Term
      e = te v0 v1 v2 v3

      f : Term
      f = tf v0 v1 v2 v3

      g : Term
      g = tg v0 v1 v2 v3

  -- the denominators of such a fraction are not 0
  dx_nonzero : (x1 y1 x2 y2 x3 y3 xs ys : ℕ) → OnCurve d x1 y1 → OnCurve d x2 y2 → OnCurve d x3 y3 → IsSum x1 y1 x2 y2 xs ys
      → value (dx v0 v1 v2 v3 v4 v5) (x1 ∷ y1 ∷ x2 ∷ y2 ∷ x3 ∷ y3 ∷ d ∷ []) % p ≢ 0
  dx_nonzero x1 y1 x2 y2 x3 y3 xs ys h1 h2 h3 s z =
      nonzero_times _ _
      (nonzero_times (g_of xs ys x3 y3) (f_of x1 y1 x2 y2) (g_nonzero xs ys x3 y3 (closed x1 y1 x2 y2 xs ys h1 h2 s) h3) (f_nonzero x1 y1 x2 y2 h1 h2))
      (g_nonzero x1 y1 x2 y2 h1 h2)
      (same_by p (times (times (tg v7 v8 v4 v5) f) g) (dx v0 v1 v2 v3 v4 v5) (x1 ∷ y1 ∷ x2 ∷ y2 ∷ x3 ∷ y3 ∷ d ∷ xs ∷ ys ∷ [])
      ((times (times v6 (times v4 v5)) e, times v8 f, th v0 v1 v2 v3)
      ∷ (times (times v6 (times v4 v5)) (times v8 f), times v7 g, e)
      ∷ [])
      (s.y, (s.x, tt)) refl
      ∙ z)
    where
      e : Term
      e = te v0 v1 v2 v3

      f : Term
      f = tf v0 v1 v2 v3

      g : Term
      g = tg v0 v1 v2 v3

  dy_nonzero : (x1 y1 x2 y2 x3 y3 xs ys : ℕ) → OnCurve d x1 y1 → OnCurve d x2 y2 → OnCurve d x3 y3 → IsSum x1 y1 x2 y2 xs ys
      → value (dy v0 v1 v2 v3 v4 v5) (x1 ∷ y1 ∷ x2 ∷ y2 ∷ x3 ∷ y3 ∷ d ∷ []) % p ≢ 0
  dy_nonzero x1 y1 x2 y2 x3 y3 xs ys h1 h2 h3 s z =
      nonzero_times _ _
      (nonzero_times (f_of xs ys x3 y3) (f_of x1 y1 x2 y2) (f_nonzero xs ys x3 y3 (closed x1 y1 x2 y2 xs ys h1 h2 s) h3) (f_nonzero x1 y1 x2 y2 h1 h2))
      (g_nonzero x1 y1 x2 y2 h1 h2)
      (same_by p (times (times (tf v7 v8 v4 v5) f) g) (dy v0 v1 v2 v3 v4 v5) (x1 ∷ y1 ∷ x2 ∷ y2 ∷ x3 ∷ y3 ∷ d ∷ xs ∷ ys ∷ [])
      ((minus (times (times v6 (times v4 v5)) e), times v8 f, th v0 v1 v2 v3)
      ∷ (minus (times (times v6 (times v4 v5)) (times v8 f)), times v7 g, e)
      ∷ [])
      (s.y, (s.x, tt)) refl
      ∙ z)
    where
      e : Term
      e = te v0 v1 v2 v3

      f : Term
      f = tf v0 v1 v2 v3

      g : Term
      g = tg v0 v1 v2 v3

  -- a sum doesn't depend on the order
  pub turned : (x1 y1 x2 y2 xs ys : ℕ) → IsSum x1 y1 x2 y2 xs ys → IsSum x2 y2 x1 y1 xs ys
  turned x1 y1 x2 y2 xs ys s = record {
    x = same p (times v7 (tg v2 v3 v0 v1)) (times v7 (tg v0 v1 v2 v3)) at_all refl ∙ s.x ∙ same p (te v0 v1 v2 v3) (te v2 v3 v0 v1) at_all refl;
    y = same p (times v7 (tf v2 v3 v0 v1)) (times v7 (tf v0 v1 v2 v3)) (x1 ∷ y1 ∷ x2 ∷ y2 ∷ 0 ∷ 0 ∷ d ∷ ys ∷ []) refl ∙ s.y
        ∙ same p (th v0 v1 v2 v3) (th v2 v3 v0 v1) at_all refl;
  }
    where
      at_all : List ℕ
      at_all = x1 ∷ y1 ∷ x2 ∷ y2 ∷ 0 ∷ 0 ∷ d ∷ xs ∷ []

  -- the sum is associative
  pub associative : (x1 y1 x2 y2 x3 y3 xs ys xt yt xu yu xw yw : ℕ) → OnCurve d x1 y1 → OnCurve d x2 y2 → OnCurve d x3 y3
      → IsSum x1 y1 x2 y2 xs ys → IsSum xs ys x3 y3 xt yt → IsSum x2 y2 x3 y3 xu yu → IsSum x1 y1 xu yu xw yw
      → (xt % p ≡ xw % p) × (yt % p ≡ yw % p)
  associative x1 y1 x2 y2 x3 y3 xs ys xt yt xu yu xw yw h1 h2 h3 s t u w = (
    cancel xt xw (ldx * rdx) (nonzero_times ldx rdx (dx_nonzero x1 y1 x2 y2 x3 y3 xs ys h1 h2 h3 s) (dx_nonzero x2 y2 x3 y3 x1 y1 xu yu h2 h3 h1 u))
        (ap (λ z. z % p) (omega arith)
        ∙ mod_times p (xt * ldx) lx rdx rdx (over_x x1 y1 x2 y2 x3 y3 xs ys xt yt s t) refl
        ∙ assoc_x x1 y1 x2 y2 x3 y3 d h1 h2 h3
        ∙ mod_times p rx (xw * rdx) ldx ldx (sym (over_x x2 y2 x3 y3 x1 y1 xu yu xw yw u (turned x1 y1 xu yu xw yw w))) refl
        ∙ ap (λ z. z % p) (omega arith)),
    cancel yt yw (ldy * rdy) (nonzero_times ldy rdy (dy_nonzero x1 y1 x2 y2 x3 y3 xs ys h1 h2 h3 s) (dy_nonzero x2 y2 x3 y3 x1 y1 xu yu h2 h3 h1 u))
        (ap (λ z. z % p) (omega arith)
        ∙ mod_times p (yt * ldy) ly rdy rdy (over_y x1 y1 x2 y2 x3 y3 xs ys xt yt s t) refl
        ∙ assoc_y x1 y1 x2 y2 x3 y3 d h1 h2 h3
        ∙ mod_times p ry (yw * rdy) ldy ldy (sym (over_y x2 y2 x3 y3 x1 y1 xu yu xw yw u (turned x1 y1 xu yu xw yw w))) refl
        ∙ ap (λ z. z % p) (omega arith)),
  )
    where
      left : Term → ℕ
      left z = value z (x1 ∷ y1 ∷ x2 ∷ y2 ∷ x3 ∷ y3 ∷ d ∷ [])

      right : Term → ℕ
      right z = value z (x2 ∷ y2 ∷ x3 ∷ y3 ∷ x1 ∷ y1 ∷ d ∷ [])

      ldx : ℕ
      ldx = left (dx v0 v1 v2 v3 v4 v5)

      rdx : ℕ
      rdx = right (dx v0 v1 v2 v3 v4 v5)

      lx : ℕ
      lx = left (nx v0 v1 v2 v3 v4 v5)

      rx : ℕ
      rx = right (nx v0 v1 v2 v3 v4 v5)

      ldy : ℕ
      ldy = left (dy v0 v1 v2 v3 v4 v5)

      rdy : ℕ
      rdy = right (dy v0 v1 v2 v3 v4 v5)

      ly : ℕ
      ly = left (ny v0 v1 v2 v3 v4 v5)

      ry : ℕ
      ry = right (ny v0 v1 v2 v3 v4 v5)
