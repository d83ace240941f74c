-- The curve of RFC 8032, section 5.1: its points are a group, and the base point has its order.
pub use Rattle.up_curve.specs.Curve.{Point, neutral, base, order}
unfoldable pub use Rattle.up_curve.specs.Field.{inverse}
unfoldable pub use Rattle.up_curve.specs.Curve.{add, multiple}
use Rattle.std.proofs.Common.{◌≡◌, ◌≢◌, ℕ, zero, suc, ◌+◌, ◌*◌, ◌/◌, ◌-◌, ◌^◌, ◌%◌, ◌<◌, ◌≤◌, ◌⊎◌, inl, inr, refl, sym, ◌∙◌, ap, ap₂, arith, pow-suc, mod-eq_of_lt, mod-lt, eq-zero-or-pos, lit<}
use Rattle.std.proofs.Math.Nat.{pow-zero, zero-mod, mod-mod, div-add-mod}
use Rattle.std.proofs.lemmas.Nat.{pow-mod, pow-add, mul-pow}
use Rattle.up_curve.proofs.Ring.{mod_times}
use Rattle.up_curve.proofs.Assoc.{p}
use Rattle.up_curve.specs.Points.{IsPoint}
use Rattle.up_curve.proofs.Fermat.{IsPrimeElement, fermat_one}
use Rattle.up_curve.proofs.Prime.{pow_mod, pow_mod_is, prime_p}
use Rattle.up_curve.proofs.Group as Group
use Rattle.up_curve.proofs.Group.{d, IsSum}

-- ---- squares

-- the inverse, by Fermat's little theorem
power_inverts : (m e a : ℕ) → IsPrimeElement m → m - 1 ≡ suc e → e < 2 ^ 256 → a % m ≢ 0 → (a * pow_mod 256 m a e) % m ≡ 1
power_inverts m e a prime h k z =
    ap (λ n. (a * n) % m) (pow_mod_is 256 m a e prime.above k)
    ∙ mod_times m a a (a ^ e % m) (a ^ e) refl (mod-mod (a ^ e) m)
    ∙ ap (λ n. n % m) (omega (arith, pow-suc a e))
    ∙ ap (λ n. a ^ n % m) (sym h)
    ∙ fermat_one m prime a z

-- by Euler's criterion d times a square is no square, but 0
no_square : (m e d : ℕ) → IsPrimeElement m → m - 1 ≡ e + e → e < 2 ^ 256 → 0 < e → pow_mod 256 m d e ≡ m - 1 → 3 ≤ m
    → (u v : ℕ) → (u * u) % m ≡ (d * (v * v)) % m → v % m ≡ 0
no_square m e d prime h k pos euler big u v eq = from (eq-zero-or-pos (v % m))
  where
    pair : (a : ℕ) → (a * a) ^ e ≡ a ^ (m - 1)
    pair a = mul-pow a a e ∙ sym (pow-add a e e) ∙ ap (λ z. a ^ z) (sym h)

    minus_one : d ^ e % m ≡ m - 1
    minus_one = sym (pow_mod_is 256 m d e prime.above k) ∙ euler

    sides : (u ^ (m - 1)) % m ≡ (d ^ e * v ^ (m - 1)) % m
    sides =
        ap (λ z. z % m) (sym (pair u)) ∙ sym (pow-mod (u * u) e m) ∙ ap (λ z. z ^ e % m) eq ∙ pow-mod (d * (v * v)) e m
        ∙ ap (λ z. z % m) (mul-pow d (v * v) e ∙ ap (λ z. d ^ e * z) (pair v))

    right : 0 < v % m → (d ^ e * v ^ (m - 1)) % m ≡ (m - 1) % m
    right z =
        mod_times m (d ^ e) (m - 1) (v ^ (m - 1)) 1 (minus_one ∙ sym (mod-eq_of_lt {n = m - 1} {m = m} (omega (arith, big))))
        (fermat_one m prime v (λ w. omega (arith, z, w)) ∙ sym (mod-eq_of_lt {n = 1} {m = m} prime.above))
        ∙ ap (λ n. n % m) (omega arith)

    last : (m - 1) % m ≡ m - 1
    last = mod-eq_of_lt {n = m - 1} {m = m} (omega (arith, big))

    at_u : 0 < v % m → (u % m ≡ 0) ⊎ (0 < u % m) → ⊥
    at_u z (inl w) =
        omega (
          arith,
          big,
          last,
          sides ∙ right z,
          ap (λ n. u ^ n % m) (let up : m - 1 ≡ suc (m - 2) = omega (arith, big) in up) ∙ ap (λ n. n % m) (pow-suc u (m - 2))
              ∙ mod_times m (u ^ (m - 2)) (u ^ (m - 2)) u 0 refl (w ∙ sym (zero-mod m)) ∙ ap (λ n. n % m) (omega arith) ∙ zero-mod m,
        )
    at_u z (inr w) = omega (arith, big, last, sides ∙ right z, fermat_one m prime u (λ y. omega (arith, w, y)))

    from : (v % m ≡ 0) ⊎ (0 < v % m) → v % m ≡ 0
    from (inl z) = z
    from (inr z) = absurd (at_u z (eq-zero-or-pos (u % m)))

-- ---- points

pub inverts : (a : ℕ) → a % p ≢ 0 → (a * inverse a) % p ≡ 1
unfolding inverse
inverts a z = power_inverts p (p - 2) a prime_p refl (lit< tt) z

pub nonsquare : (u v : ℕ) → (u * u) % p ≡ (d * (v * v)) % p → v % p ≡ 0
unfolding pow_mod
nonsquare = no_square p ((p - 1) / 2) d prime_p refl (lit< tt) (lit< tt) refl (lit< tt)

same_point : (a b : Point) → a.x ≡ b.x → a.y ≡ b.y → a ≡ b
same_point a b e k = ap₂ (λ (u v : ℕ). let q : Point = record { x = u; y = v } in q) e k

pub sum_of : (a b : Point) → IsPoint a → IsPoint b → IsSum inverse prime_p inverts nonsquare a.x a.y b.x b.y (add a b).x (add a b).y
unfolding add
sum_of a b h k = Group.is_sum inverse prime_p inverts nonsquare a.x a.y b.x b.y h.curve k.curve

p_positive : 0 < p
p_positive = lit< tt

pub add_point : (a b : Point) → IsPoint a → IsPoint b → IsPoint (add a b)
unfolding add
add_point a b h k = record {
  curve = Group.closed inverse prime_p inverts nonsquare a.x a.y b.x b.y (add a b).x (add a b).y h.curve k.curve (sum_of a b h k);
  x_below = mod-lt _ {m = p} p_positive;
  y_below = mod-lt _ {m = p} p_positive;
}

pub add_associative : (a b c : Point) → IsPoint a → IsPoint b → IsPoint c → add (add a b) c ≡ add a (add b c)
add_associative a b c h k l =
    let whole = Group.associative inverse prime_p inverts nonsquare a.x a.y b.x b.y c.x c.y
    (add a b).x (add a b).y (add (add a b) c).x (add (add a b) c).y (add b c).x (add b c).y (add a (add b c)).x (add a (add b c)).y
    h.curve k.curve l.curve (sum_of a b h k) (sum_of (add a b) c (add_point a b h k) l) (sum_of b c k l) (sum_of a (add b c) h (add_point b c k l)) in
    let left : IsPoint (add (add a b) c) = add_point (add a b) c (add_point a b h k) l in
    let right : IsPoint (add a (add b c)) = add_point a (add b c) h (add_point b c k l) in
    same_point (add (add a b) c) (add a (add b c))
    (sym (mod-eq_of_lt {n = (add (add a b) c).x} {m = p} left.x_below) ∙ whole.0 ∙ mod-eq_of_lt {n = (add a (add b c)).x} {m = p} right.x_below)
    (sym (mod-eq_of_lt {n = (add (add a b) c).y} {m = p} left.y_below) ∙ whole.1 ∙ mod-eq_of_lt {n = (add a (add b c)).y} {m = p} right.y_below)

pub neutral_point : IsPoint neutral
neutral_point = record { curve = refl; x_below = lit< tt; y_below = lit< tt }

one_inverts : inverse 1 ≡ 1
unfolding inverse pow_mod
one_inverts = refl

-- exact sums of numbers: both sides of each quotient are the same
add_same : (n n' i i' : ℕ) → n ≡ n' → i ≡ i' → (n * inverse i) % p ≡ (n' * inverse i') % p
add_same n n' i i' h k = ap₂ (λ (u v : ℕ). (u * inverse v) % p) h k

pub add_neutral : (a : Point) → IsPoint a → add neutral a ≡ a
unfolding add
add_neutral a h =
    let x : (0 * a.y + a.x * 1) * 1 ≡ a.x = omega arith in
    let y : (1 * a.y + 0 * a.x) * 1 ≡ a.y = omega arith in
    let g : 1 + d * (0 * a.x * (1 * a.y)) ≡ 1 = omega arith in
    let f : 1 + (p - 1) * (d * (0 * a.x * (1 * a.y))) ≡ 1 = omega arith in
    same_point (add neutral a) a
    (ap (λ (z : ℕ). ((0 * a.y + a.x * 1) * inverse z) % p) g ∙ ap (λ (z : ℕ). ((0 * a.y + a.x * 1) * z) % p) one_inverts ∙ ap (λ (z : ℕ). z % p) x ∙ mod-eq_of_lt {n = a.x} {m = p} h.x_below)
    (ap (λ (z : ℕ). ((1 * a.y + 0 * a.x) * inverse z) % p) f ∙ ap (λ (z : ℕ). ((1 * a.y + 0 * a.x) * z) % p) one_inverts ∙ ap (λ (z : ℕ). z % p) y ∙ mod-eq_of_lt {n = a.y} {m = p} h.y_below)

pub add_comm : (a b : Point) → add a b ≡ add b a
unfolding add
add_comm a b =
    same_point (add a b) (add b a)
    (add_same (a.x * b.y + b.x * a.y) (b.x * a.y + a.x * b.y) (1 + d * (a.x * b.x * (a.y * b.y))) (1 + d * (b.x * a.x * (b.y * a.y))) (omega arith) (omega arith))
    (add_same (a.y * b.y + a.x * b.x) (b.y * a.y + b.x * a.x) (1 + (p - 1) * (d * (a.x * b.x * (a.y * b.y)))) (1 + (p - 1) * (d * (b.x * a.x * (b.y * a.y)))) (omega arith) (omega arith))

pub multiple_point : (n : ℕ) (a : Point) → IsPoint a → IsPoint (multiple n a)
unfolding multiple
multiple_point zero a h = neutral_point
multiple_point (suc n) a h = add_point a (multiple n a) h (multiple_point n a h)

pub multiple-add : (m n : ℕ) (a : Point) → IsPoint a → multiple (m + n) a ≡ add (multiple m a) (multiple n a)
unfolding multiple
multiple-add zero n a h = ap (λ z. multiple z a) (omega arith) ∙ sym (add_neutral (multiple n a) (multiple_point n a h))
multiple-add (suc m) n a h =
    ap (λ z. multiple z a) (let e : suc m + n ≡ suc (m + n) = omega arith in e)
    ∙ ap (add a) (multiple-add m n a h)
    ∙ sym (add_associative a (multiple m a) (multiple n a) h (multiple_point m a h) (multiple_point n a h))

pub multiple-mul : (m n : ℕ) (a : Point) → IsPoint a → multiple (m * n) a ≡ multiple m (multiple n a)
unfolding multiple
multiple-mul zero n a h = ap (λ z. multiple z a) (let e : zero * n ≡ zero = omega arith in e)
multiple-mul (suc m) n a h =
    ap (λ z. multiple z a) (let e : suc m * n ≡ n + m * n = omega arith in e)
    ∙ multiple-add n (m * n) a h
    ∙ ap (add (multiple n a)) (multiple-mul m n a h)

-- ---- the base point

pub base_point : IsPoint base
base_point = record { curve = refl; x_below = lit< tt; y_below = lit< tt }

-- n times a point and another, by doubling, for an n of `fuel` bits
unfoldable pub bit : ℕ → Point → Point → Point
bit zero q a = a
bit (suc k) q a = add a q

unfoldable pub doubled : ℕ → ℕ → Point → Point → Point
doubled zero n q a = a
doubled (suc fuel) n q a = doubled fuel (n / 2) (add q q) (bit (n % 2) q a)

pub multiple-one : (q : Point) → IsPoint q → multiple 1 q ≡ q
unfolding multiple
multiple-one q h = add_comm q neutral ∙ add_neutral q h

bit_is : (n : ℕ) (q a : Point) → n < 2 → IsPoint q → IsPoint a → bit n q a ≡ add a (multiple n q)
unfolding bit multiple
bit_is zero q a h k l = sym (add_comm a neutral ∙ add_neutral a l)
bit_is (suc zero) q a h k l = ap (add a) (sym (multiple-one q k))
bit_is (suc (suc n)) q a h k l = absurd (omega arith)

two_times : (q : Point) → IsPoint q → multiple 2 q ≡ add q q
unfolding multiple
two_times q h = ap (add q) (multiple-one q h)

pub doubled_is : (fuel n : ℕ) (q a : Point) → n < 2 ^ fuel → IsPoint q → IsPoint a → doubled fuel n q a ≡ add a (multiple n q)
unfolding doubled multiple
doubled_is zero n q a h k l =
    sym (ap (λ z. add a (multiple z q)) (let e : n ≡ 0 = omega (arith, h, pow-zero 2) in e) ∙ add_comm a neutral ∙ add_neutral a l)
doubled_is (suc fuel) n q a h k l =
    let two : IsPoint (add q q) = add_point q q k k in
    let one : IsPoint (multiple (n % 2) q) = multiple_point (n % 2) q k in
    let half : IsPoint (multiple (n / 2) (add q q)) = multiple_point (n / 2) (add q q) two in
    let low : bit (n % 2) q a ≡ add a (multiple (n % 2) q) = bit_is (n % 2) q a (omega arith) k l in
    ap (doubled fuel (n / 2) (add q q)) low
    ∙ doubled_is fuel (n / 2) (add q q) (add a (multiple (n % 2) q)) (omega (arith, h, pow-suc 2 fuel)) two (add_point a (multiple (n % 2) q) l one)
    ∙ add_associative a (multiple (n % 2) q) (multiple (n / 2) (add q q)) l one half
    ∙ ap (λ z. add a (add (multiple (n % 2) q) z)) (ap (multiple (n / 2)) (sym (two_times q k)) ∙ sym (multiple-mul (n / 2) 2 q k))
    ∙ ap (add a) (sym (multiple-add (n % 2) (n / 2 * 2) q k))
    ∙ ap (λ z. add a (multiple z q)) (let e : n % 2 + n / 2 * 2 ≡ n = omega arith in e)

doubled_order : doubled 253 order base neutral ≡ neutral
unfolding doubled bit add inverse pow_mod
doubled_order = refl

-- the base point has this order (it is a prime, but nothing here asks that)
pub order_of_base : multiple order base ≡ neutral
order_of_base =
    sym (add_neutral (multiple order base) (multiple_point order base base_point))
    ∙ sym (doubled_is 253 order base neutral (lit< tt) base_point neutral_point)
    ∙ doubled_order

multiple-neutral : (k : ℕ) → multiple k neutral ≡ neutral
unfolding multiple
multiple-neutral zero = refl
multiple-neutral (suc k) = add_neutral (multiple k neutral) (multiple_point k neutral neutral_point) ∙ multiple-neutral k

-- a multiple of the base point depends on the number modulo the order alone
pub reduced : (n : ℕ) → multiple (n % order) base ≡ multiple n base
reduced n =
    sym (
    ap (λ z. multiple z base) (let e : n ≡ n / order * order + n % order = omega (arith, div-add-mod n order) in e)
    ∙ multiple-add (n / order * order) (n % order) base base_point
    ∙ ap (λ z. add z (multiple (n % order) base))
    (multiple-mul (n / order) order base base_point ∙ ap (multiple (n / order)) order_of_base ∙ multiple-neutral (n / order))
    ∙ add_neutral (multiple (n % order) base) (multiple_point (n % order) base base_point)
    )

-- the equation that a signature meets (RFC 8032, section 5.1.7): [S]B = R + [k]A, where S = r + k * a modulo the order
pub signature_holds : (r k a : ℕ) → multiple ((r + k * a) % order) base ≡ add (multiple r base) (multiple k (multiple a base))
signature_holds r k a =
    reduced (r + k * a)
    ∙ multiple-add r (k * a) base base_point
    ∙ ap (add (multiple r base)) (multiple-mul k a base base_point)
