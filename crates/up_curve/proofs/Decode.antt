-- Points as 32 bytes (RFC 8032, sections 5.1.2 and 5.1.3): what is encoded is decoded again.
pub use Rattle.up_curve.specs.Encoding.{u_of, v_of}
unfoldable pub use Rattle.up_curve.specs.LittleEndian.{number, bytes}
unfoldable pub use Rattle.up_curve.specs.Encoding.{candidate, root_of, encode, signed, with_root, point_of, decode}
use Rattle.std.proofs.Common.{◌≡◌, ◌≢◌, ℕ, zero, suc, ◌+◌, ◌*◌, ◌/◌, ◌-◌, ◌^◌, ◌%◌, ◌<◌, ◌⊎◌, inl, inr, refl, sym, ◌∙◌, ap, ap₂, arith, pow-suc, mod-eq_of_lt, mod-lt, eq-zero-or-pos, lit<, Bool, true, false, ◌&&◌, eqb, ltb, eqb-true, eq-eqb, lt-ltb, ne_eqb, [], ◌∷◌, length, Option, None, Some, if◌then◌else◌}
use Rattle.std.proofs.Math.Nat.{pow-zero, zero-mod, mod-mod}
use Rattle.std.proofs.lemmas.Nat.{pow-mod, pow-add, mul-pow}
use Rattle.up_curve.proofs.Ring.{Term, num, plus, times, same_by, mod_plus, mod_times}
use Rattle.up_curve.proofs.Assoc.{p, minus, v0, v1, v2, v3, v4, v5, v6, OnCurve}
use Rattle.up_curve.proofs.Fermat.{IsPrimeElement, fermat_one}
use Rattle.up_curve.proofs.Prime.{pow_mod, pow_mod_is, prime_p}
use Rattle.up_curve.proofs.Group as Group
use Rattle.up_curve.proofs.Group.{d, sqrt_minus_one}
use Rattle.up_curve.proofs.Curve.{Point, nonsquare, inverse, inverts}
use Rattle.up_curve.specs.Points.{IsPoint}

-- ---- numbers as bytes

pub number-bytes : (k n : ℕ) → n < 256 ^ k → number (bytes k n) ≡ n
unfolding number bytes
number-bytes zero n h = omega (arith, h, pow-zero 256)
number-bytes (suc k) n h = omega (arith, number-bytes k (n / 256) (omega (arith, h, pow-suc 256 k)))

pub length-bytes : (k n : ℕ) → length (bytes k n) ≡ k
unfolding bytes
length-bytes zero n = refl
length-bytes (suc k) n = omega (arith, length-bytes k (n / 256))

-- ---- square roots

-- a product of powers, in general
eighth : ℕ → ℕ
eighth v = v * v * (v * v) * (v * v * (v * v))

eighth_one : (m e v : ℕ) → IsPrimeElement m → m - 1 ≡ 8 * e + 4 → v % m ≢ 0 → (eighth v * eighth v ^ (e + e)) % m ≡ 1
unfolding eighth
eighth_one m e v prime h z =
    ap (λ n. n % m) (omega (arith, pow-suc (eighth v) (e + e)))
    ∙ ap (λ n. n % m) spread
    ∙ mod_times m (v ^ (m - 1)) 1 (v ^ (m - 1)) 1 (fermat_one m prime v z ∙ one) (fermat_one m prime v z ∙ one)
    ∙ mod-eq_of_lt {n = 1} {m = m} prime.above
  where
    one : 1 ≡ 1 % m
    one = sym (mod-eq_of_lt {n = 1} {m = m} prime.above)

    n : ℕ
    n = suc (e + e)

    q : ℕ
    q = v * v

    r : ℕ
    r = v * v * (v * v)

    q_is : r ^ n ≡ q ^ n * q ^ n
    q_is = mul-pow q q n

    four : r ^ n ≡ v ^ (m - 1)
    four =
        q_is ∙ ap (λ y. y * y) (mul-pow v v n ∙ sym (pow-add v n n)) ∙ sym (pow-add v (n + n) (n + n))
        ∙ ap (λ y. v ^ y) (omega (arith, h))

    spread : eighth v ^ n ≡ v ^ (m - 1) * v ^ (m - 1)
    spread = mul-pow r r n ∙ ap (λ y. y * y) four

-- x ^ ((m - 1) / 2) is a root of 1
root_of_one : (m e x : ℕ) → IsPrimeElement m → m - 1 ≡ 8 * e + 4 → x % m ≢ 0
    → (x * x * (x * x) ^ (e + e) * (x * x * (x * x) ^ (e + e))) % m ≡ 1
root_of_one m e x prime h z =
    ap (λ n. n % m)
    (ap (λ y. y * y) (let t : x * x * (x * x) ^ (e + e) ≡ (x * x) ^ suc (e + e) = omega (arith, pow-suc (x * x) (e + e)) in t)
    ∙ ap (λ y. y * y) (mul-pow x x (suc (e + e)) ∙ sym (pow-add x (suc (e + e)) (suc (e + e))))
    ∙ sym (pow-add x (suc (e + e) + suc (e + e)) (suc (e + e) + suc (e + e)))
    ∙ ap (λ y. x ^ y) (omega (arith, h)))
    ∙ fermat_one m prime x z

-- the square of the power in the candidate
square_of_power : (m e w x v : ℕ) → w % m ≡ (x * x * eighth v) % m
    → (w ^ e * w ^ e) % m ≡ ((x * x) ^ (e + e) * eighth v ^ (e + e)) % m
square_of_power m e w x v h =
    ap (λ n. n % m) (sym (pow-add w e e)) ∙ sym (pow-mod w (e + e) m) ∙ ap (λ y. y ^ (e + e) % m) h
    ∙ pow-mod (x * x * eighth v) (e + e) m ∙ ap (λ n. n % m) (mul-pow (x * x) (eighth v) (e + e))

one_not_zero : 1 % p ≡ 0 % p → ⊥
one_not_zero e = omega (arith, e)

v_nonzero : (y : ℕ) → v_of y % p ≢ 0
v_nonzero y e =
    one_not_zero (
    same_by p (num 1) (num 0) (y ∷ [])
    ((num 1, plus (times (num d) (times v0 v0)) (num 1), num 0) ∷ (minus (times (num d) v0), v0, num 0) ∷ [])
    (e, (nonsquare sqrt_minus_one y root, tt)) refl
    )
  where
    root : (sqrt_minus_one * sqrt_minus_one) % p ≡ (d * (y * y)) % p
    root =
        same_by p (times (num sqrt_minus_one) (num sqrt_minus_one)) (times (num d) (times v0 v0)) (y ∷ [])
        ((minus (num 1), plus (times (num d) (times v0 v0)) (num 1), num 0) ∷ []) (e, tt) refl

u_is : (x y : ℕ) → OnCurve d x y → u_of y % p ≡ (x * x * v_of y) % p
u_is x y h =
    same_by p (plus (times v1 v1) (num (p - 1))) (times (times v0 v0) (plus (times (num d) (times v1 v1)) (num 1))) (x ∷ y ∷ [])
    ((num 1, times v1 v1, plus (num 1) (plus (times v0 v0) (times (num d) (times (times v0 v0) (times v1 v1))))) ∷ []) (h, tt) refl

cancels : (a b c : ℕ) → c % p ≢ 0 → (a * c) % p ≡ (b * c) % p → a % p ≡ b % p
cancels = Group.cancel inverse prime_p inverts nonsquare

-- the eighth part of p - 5
abbrev e : ℕ
e = (p - 5) / 8

-- v * c ^ 2 is u or -u for the candidate c
candidate_is : (x u v : ℕ) → u % p ≡ (x * x * v) % p → v % p ≢ 0
    → ((v * (candidate u v * candidate u v)) % p ≡ u % p) ⊎ ((v * (candidate u v * candidate u v) + u) % p ≡ 0)
unfolding candidate eighth
candidate_is x u v h z = from (eq-zero-or-pos (x % p))
  where
    w : ℕ
    w = u * (v * v * v * (v * v * v) * v)

    c : ℕ
    c = candidate u v

    power : ℕ
    power = pow_mod 256 p (u * (v * v * v * (v * v * v) * v)) ((p - 5) / 8)

    a : ℕ
    a = (x * x) ^ (e + e)

    b : ℕ
    b = eighth v ^ (e + e)

    c_is : c % p ≡ (u * (v * v * v) * power) % p
    c_is = mod-mod (u * (v * v * v) * power) p

    w_is : w % p ≡ (x * x * eighth v) % p
    w_is =
        same_by p (times v0 (times (times (times (times v1 v1) v1) (times (times v1 v1) v1)) v1))
        (times (times v2 v2) (times (times (times v1 v1) (times v1 v1)) (times (times v1 v1) (times v1 v1)))) (u ∷ v ∷ x ∷ [])
        ((times (times (times (times v1 v1) v1) (times (times v1 v1) v1)) v1, v0, times (times v2 v2) v1) ∷ []) (h, tt) refl

    power_is : (power * power) % p ≡ (a * b) % p
    power_is =
        ap (λ n. (n * n) % p) (pow_mod_is 256 p w e (lit< tt) (lit< tt))
        ∙ mod_times p (w ^ e % p) (w ^ e) (w ^ e % p) (w ^ e) (mod-mod (w ^ e) p) (mod-mod (w ^ e) p)
        ∙ square_of_power p e w x v w_is

    -- v * c ^ 2 = u * x ^ ((p - 1) / 2)
    whole : (v * (c * c)) % p ≡ (u * (x * x * a)) % p
    whole =
        same_by p (times v1 (times c' c')) (times v0 (times (times v2 v2) v5)) (u ∷ v ∷ x ∷ c ∷ power ∷ a ∷ b ∷ [])
        ((times v1 (plus c' q), c', q)
        ∷ (times v1 (times (times v0 v0) (times vvv vvv)), times v4 v4, times v5 v6)
        ∷ (times v0 (times (times (times vvv vvv) v1) (times v5 v6)), v0, times (times v2 v2) v1)
        ∷ (times v0 (times (times v2 v2) v5), times v8th v6, num 1)
        ∷ [])
        (c_is, (power_is, (h, (eighth_one p e v prime_p refl z ∙ sym (mod-eq_of_lt {n = 1} {m = p} (lit< tt)), tt)))) refl
      where
        c' : Term
        c' = v3

        vvv : Term
        vvv = times (times v1 v1) v1

        q : Term
        q = times (times v0 vvv) v4

        v8th : Term
        v8th = times (times (times v1 v1) (times v1 v1)) (times (times v1 v1) (times v1 v1))

    split : (t : ℕ) → (t * t) % p ≡ 1 → (t % p ≡ 1 % p) ⊎ ((t + 1) % p ≡ 0)
    split t k = parts (prime_p.divides (t + (p - 1)) (t + 1) product)
      where
        product : ((t + (p - 1)) * (t + 1)) % p ≡ 0
        product =
            same_by p (times (plus v0 (num (p - 1))) (plus v0 (num 1))) (num 0) (t ∷ [])
            ((num 1, times v0 v0, num 1) ∷ []) (k, tt) refl

        parts : ((t + (p - 1)) % p ≡ 0) ⊎ ((t + 1) % p ≡ 0) → (t % p ≡ 1 % p) ⊎ ((t + 1) % p ≡ 0)
        parts (inl y) = inl (same_by p v0 (num 1) (t ∷ []) ((num 1, plus v0 (num (p - 1)), num 0) ∷ []) (y, tt) refl)
        parts (inr y) = inr y

    last : ((x * x * a) % p ≡ 1 % p) ⊎ ((x * x * a + 1) % p ≡ 0) → ((v * (c * c)) % p ≡ u % p) ⊎ ((v * (c * c) + u) % p ≡ 0)
    last (inl y) =
        inl (whole ∙ mod_times p u u (x * x * a) 1 refl y ∙ ap (λ n. n % p) (omega arith))
    last (inr y) =
        inr (
        mod_plus p (v * (c * c)) (u * (x * x * a)) u u whole refl
        ∙ ap (λ n. n % p) (let s : u * (x * x * a) + u ≡ u * (x * x * a + 1) = omega arith in s)
        ∙ mod_times p u u (x * x * a + 1) 0 refl (y ∙ sym (zero-mod p))
        ∙ ap (λ n. n % p) (let s : u * 0 ≡ 0 = omega arith in s)
        ∙ zero-mod p
        )

    from : (x % p ≡ 0) ⊎ (0 < x % p) → ((v * (c * c)) % p ≡ u % p) ⊎ ((v * (c * c) + u) % p ≡ 0)
    from (inl y) =
        inl (
        whole
        ∙ same_by p (times v0 (times (times v1 v1) v2)) v0 (u ∷ x ∷ a ∷ v ∷ [])
        ((minus (num 1), v0, times (times v1 v1) v3)
        ∷ (plus (times v0 (times v1 v2)) (minus (times v1 v3)), v1, num 0)
        ∷ [])
        (h, (y, tt)) refl
        )
    from (inr y) = last (split (x * x * a) (root_of_one p e x prime_p refl (λ n. omega (arith, y, n))))

-- a root that is root_of
record IsPicked (x u v c : ℕ) : Type 0 where
  root : ℕ
  is : root_of u v c ≡ Some root
  square : (root * root) % p ≡ (x * x) % p
  below : root < p

picked_is : (x u v c : ℕ) → c < p → u % p ≡ (x * x * v) % p → v % p ≢ 0
    → ((v * (c * c)) % p ≡ u % p) ⊎ ((v * (c * c) + u) % p ≡ 0) → IsPicked x u v c
unfolding root_of
picked_is x u v c b h z (inl k) = record {
  root = c;
  is = ap (λ t. if t then Some c else (if eqb ((v * (c * c) + u) % p) 0 then Some ((c * sqrt_minus_one) % p) else None)) (eq-eqb ((v * (c * c)) % p) (u % p) k);
  square =
      cancels (c * c) (x * x) v z
      (same_by p (times (times v0 v0) v1) (times (times v2 v2) v1) (c ∷ v ∷ x ∷ u ∷ [])
      ((num 1, times v1 (times v0 v0), v3) ∷ (num 1, v3, times (times v2 v2) v1) ∷ []) (k, (h, tt)) refl);
  below = b;
}
picked_is x u v c b h z (inr k) = at_test (eqb ((v * (c * c)) % p) (u % p)) refl
  where
    at_test : (t : Bool) → eqb ((v * (c * c)) % p) (u % p) ≡ t → IsPicked x u v c
    at_test true s = picked_is_plain (eqb-true ((v * (c * c)) % p) (u % p) s)
      where
        picked_is_plain : (v * (c * c)) % p ≡ u % p → IsPicked x u v c
        picked_is_plain k = record {
          root = c;
          is = ap (λ t. if t then Some c else (if eqb ((v * (c * c) + u) % p) 0 then Some ((c * sqrt_minus_one) % p) else None)) s;
          square =
              cancels (c * c) (x * x) v z
              (same_by p (times (times v0 v0) v1) (times (times v2 v2) v1) (c ∷ v ∷ x ∷ u ∷ [])
              ((num 1, times v1 (times v0 v0), v3) ∷ (num 1, v3, times (times v2 v2) v1) ∷ []) (k, (h, tt)) refl);
          below = b;
        }
    at_test false s = record {
      root = (c * sqrt_minus_one) % p;
      is =
          ap (λ t. if t then Some c else (if eqb ((v * (c * c) + u) % p) 0 then Some ((c * sqrt_minus_one) % p) else None)) s
          ∙ ap (λ t. if t then Some ((c * sqrt_minus_one) % p) else None) (eq-eqb ((v * (c * c) + u) % p) 0 k);
      square =
          mod_times p ((c * sqrt_minus_one) % p) (c * sqrt_minus_one) ((c * sqrt_minus_one) % p) (c * sqrt_minus_one) (mod-mod (c * sqrt_minus_one) p) (mod-mod (c * sqrt_minus_one) p)
          ∙ cancels (c * sqrt_minus_one * (c * sqrt_minus_one)) (x * x) v z
          (same_by p (times (times (times v0 (num sqrt_minus_one)) (times v0 (num sqrt_minus_one))) v1) (times (times v2 v2) v1) (c ∷ v ∷ x ∷ u ∷ [])
          ((minus (num 1), plus (times v1 (times v0 v0)) v3, num 0) ∷ (num 1, v3, times (times v2 v2) v1) ∷ []) (k, (h, tt)) refl);
      below = mod-lt (c * sqrt_minus_one) {m = p} (lit< tt);
    }

-- two roots of one square are the same, or each other's negatives
same_root : (r x : ℕ) → r < p → x < p → (r * r) % p ≡ (x * x) % p → (r ≡ x) ⊎ (r + x ≡ p)
same_root r x h k e = from (prime_p.divides (r + (p - x)) (r + x) product)
  where
    y : ℕ
    y = p - x

    y_is : (x + y) % p ≡ 0
    y_is = ap (λ n. n % p) (let s : x + (p - x) ≡ p = omega (arith, k) in s) ∙ refl

    product : ((r + (p - x)) * (r + x)) % p ≡ 0
    product =
        same_by p (times (plus v0 v2) (plus v0 v1)) (num 0) (r ∷ x ∷ y ∷ [])
        ((num 1, times v0 v0, times v1 v1) ∷ (plus v0 v1, plus v1 v2, num 0) ∷ []) (e, (y_is, tt)) refl

    from : ((r + (p - x)) % p ≡ 0) ⊎ ((r + x) % p ≡ 0) → (r ≡ x) ⊎ (r + x ≡ p)
    from (inl z) = near (r + (p - x)) (omega (arith, h, k)) (omega (arith, h, k)) z
      where
        near : (n : ℕ) → n < 2 * p → r + p ≡ n + x → n % p ≡ 0 → (r ≡ x) ⊎ (r + x ≡ p)
        near n l s z = grind (arith, l, s, z, h, k)
    from (inr z) = near (r + x) (omega (arith, h, k)) refl z
      where
        near : (n : ℕ) → n < 2 * p → n ≡ r + x → n % p ≡ 0 → (r ≡ x) ⊎ (r + x ≡ p)
        near n l s z = grind (arith, l, s, z, h, k)

-- ---- points as bytes

not_both : (r s : ℕ) → (r ≡ 0 → s ≡ 0) → (eqb r 0 && eqb s 1) ≡ false
not_both r s h = at_test (eqb r 0) refl
  where
    at_test : (t : Bool) → eqb r 0 ≡ t → (t && eqb s 1) ≡ false
    at_test true e = ne_eqb s 1 (λ z. omega (arith, z, h (eqb-true r 0 e)))
    at_test false e = refl

at_false : (b : Bool) {A : Type 0} (m n : A) → b ≡ false → (if b then m else n) ≡ n
at_false b m n e = ap (λ t. if t then m else n) e

at_true : (b : Bool) {A : Type 0} (m n : A) → b ≡ true → (if b then m else n) ≡ m
at_true b m n e = ap (λ t. if t then m else n) e

point_at : ℕ → ℕ → Point
point_at y x = record { x = x; y = y }

signed_is : (x y r : ℕ) → r < p → x < p → (r ≡ x) ⊎ (r + x ≡ p) → signed (x % 2) y r ≡ Some (record { x = x; y = y })
unfolding signed point_at
signed_is x y r h k (inl e) =
    at_false (eqb r 0 && eqb (x % 2) 1) {A = Option Point} None (if eqb (r % 2) (x % 2) then Some (point_at y r) else Some (point_at y (p - r)))
    (not_both r (x % 2) (λ z. omega (arith, z, e)))
    ∙ at_true (eqb (r % 2) (x % 2)) {A = Option Point} (Some (point_at y r)) (Some (point_at y (p - r))) (eq-eqb (r % 2) (x % 2) (ap (λ n. n % 2) e))
    ∙ ap (λ n. Some (point_at y n)) e
signed_is x y r h k (inr e) =
    at_false (eqb r 0 && eqb (x % 2) 1) {A = Option Point} None (if eqb (r % 2) (x % 2) then Some (point_at y r) else Some (point_at y (p - r)))
    (not_both r (x % 2) (λ z. omega (arith, z, e, k)))
    ∙ at_false (eqb (r % 2) (x % 2)) {A = Option Point} (Some (point_at y r)) (Some (point_at y (p - r))) (ne_eqb (r % 2) (x % 2) (λ z. omega (arith, z, e)))
    ∙ ap (λ n. Some (point_at y n)) (let s : p - r ≡ x = omega (arith, e) in s)

-- the point that a sign and a second coordinate write
point_with : ℕ → ℕ → Option Point
point_with s y = if ltb y p then with_root s y (root_of (u_of y) (v_of y) (candidate (u_of y) (v_of y))) else None

pub candidate_below : (u v : ℕ) → candidate u v < p
unfolding candidate
candidate_below u v = mod-lt (u * (v * v * v) * pow_mod 256 p (u * (v * v * v * (v * v * v) * v)) ((p - 5) / 8)) {m = p} (lit< tt)

point_with_is : (a : Point) → IsPoint a → point_with (a.x % 2) a.y ≡ Some a
unfolding point_with with_root
point_with_is a h =
    let picks : IsPicked a.x (u_of a.y) (v_of a.y) (candidate (u_of a.y) (v_of a.y)) =
    picked_is a.x (u_of a.y) (v_of a.y) (candidate (u_of a.y) (v_of a.y)) (candidate_below (u_of a.y) (v_of a.y))
    (u_is a.x a.y h.curve) (v_nonzero a.y) (candidate_is a.x (u_of a.y) (v_of a.y) (u_is a.x a.y h.curve) (v_nonzero a.y)) in
    at_true (ltb a.y p) {A = Option Point} (with_root (a.x % 2) a.y (root_of (u_of a.y) (v_of a.y) (candidate (u_of a.y) (v_of a.y)))) None (lt-ltb a.y p h.y_below)
    ∙ ap (with_root (a.x % 2) a.y) picks.is
    ∙ signed_is a.x a.y picks.root picks.below h.x_below (same_root picks.root a.x picks.below h.x_below picks.square)

point_of_is : (a : Point) → IsPoint a → point_of (a.y + 2 ^ 255 * (a.x % 2)) ≡ Some a
unfolding point_of point_with
point_of_is a h =
    ap₂ point_with
    (let s : (a.y + 2 ^ 255 * (a.x % 2)) / 2 ^ 255 ≡ a.x % 2 = omega (arith, h.y_below) in s)
    (let t : (a.y + 2 ^ 255 * (a.x % 2)) % 2 ^ 255 ≡ a.y = omega (arith, h.y_below) in t)
    ∙ point_with_is a h

-- what is encoded is decoded again
pub decode-encode : (a : Point) → IsPoint a → decode (encode a) ≡ Some a
unfolding decode encode
decode-encode a h =
    at_true (eqb (length (bytes 32 n)) 32) {A = Option Point} (point_of (number (bytes 32 n))) None (eq-eqb (length (bytes 32 n)) 32 (length-bytes 32 n))
    ∙ ap point_of (number-bytes 32 n below)
    ∙ point_of_is a h
  where
    n : ℕ
    n = a.y + 2 ^ 255 * (a.x % 2)

    below : n < 256 ^ 32
    below = omega (arith, h.y_below)

-- ---- and what is decoded is a point

-- a root that is root_of is a root
pub picked_root : (u v c r : ℕ) → root_of u v c ≡ Some r → (v * (r * r)) % p ≡ u % p
unfolding root_of
picked_root u v c r e = at_first (eqb ((v * (c * c)) % p) (u % p)) refl e
  where
    some : {a b : ℕ} → Some a ≡ Some b → a ≡ b
    some e = cc

    at_second : (t : Bool) → eqb ((v * (c * c) + u) % p) 0 ≡ t → (if t then Some ((c * sqrt_minus_one) % p) else None) ≡ Some r → (v * (r * r)) % p ≡ u % p
    at_second true s e =
        let k : (v * (c * c) + u) % p ≡ 0 = eqb-true ((v * (c * c) + u) % p) 0 s in
        let same : (c * sqrt_minus_one) % p ≡ r = some e in
        ap (λ n. (v * (n * n)) % p) (sym same)
        ∙ mod_times p v v ((c * sqrt_minus_one) % p * ((c * sqrt_minus_one) % p)) (c * sqrt_minus_one * (c * sqrt_minus_one)) refl (mod_times p ((c * sqrt_minus_one) % p) (c * sqrt_minus_one) ((c * sqrt_minus_one) % p) (c * sqrt_minus_one) (mod-mod (c * sqrt_minus_one) p) (mod-mod (c * sqrt_minus_one) p))
        ∙ same_by p (times v0 (times (times v1 (num sqrt_minus_one)) (times v1 (num sqrt_minus_one)))) v2 (v ∷ c ∷ u ∷ [])
        ((minus (num 1), plus (times v0 (times v1 v1)) v2, num 0) ∷ []) (k, tt) refl
    at_second false s e = absurd (cc)

    at_first : (t : Bool) → eqb ((v * (c * c)) % p) (u % p) ≡ t
        → (if t then Some c else (if eqb ((v * (c * c) + u) % p) 0 then Some ((c * sqrt_minus_one) % p) else None)) ≡ Some r → (v * (r * r)) % p ≡ u % p
    at_first true s e = ap (λ n. (v * (n * n)) % p) (sym (some e)) ∙ eqb-true ((v * (c * c)) % p) (u % p) s
    at_first false s e = at_second (eqb ((v * (c * c) + u) % p) 0) refl e

-- such a root and the second coordinate are on the curve, with either sign
pub root_on_curve : (x y : ℕ) → (v_of y * (x * x)) % p ≡ u_of y % p → OnCurve d x y
root_on_curve x y h =
    same_by p (times v1 v1) (plus (num 1) (plus (times v0 v0) (times (num d) (times (times v0 v0) (times v1 v1))))) (x ∷ y ∷ [])
    ((minus (num 1), times (plus (times (num d) (times v1 v1)) (num 1)) (times v0 v0), plus (times v1 v1) (num (p - 1))) ∷ []) (h, tt) refl
