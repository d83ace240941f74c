-- Steps of the code, over plain numbers.
unfoldable pub use Rattle.up_curve.specs.Encoding.{candidate, root_of, signed, with_root, point_of, decode, encode}
unfoldable pub use Rattle.up_curve.specs.LittleEndian.{bytes, number}
unfoldable pub use Rattle.up_curve.specs.Field.{inverse}
unfoldable pub use Rattle.up_field.specs.Powers.{power}
use Rattle.std.proofs.Common.{◌≡◌, ◌≢◌, ℕ, zero, suc, ◌+◌, ◌*◌, ◌/◌, ◌-◌, ◌^◌, ◌%◌, ◌<◌, refl, sym, ◌∙◌, ap, ap₂, arith, mod-eq_of_lt, lit<, true, false, eqb, ltb, ◌&&◌, if◌then◌else◌, length, List, [], ◌∷◌, Some, None}
use Rattle.std.proofs.Math.Nat.{mod-mod}
use Rattle.std.proofs.lemmas.Nat.{pow-mod}
use Rattle.up_field.specs.Powers.{IsPower}
use Rattle.up_curve.proofs.Ring.{num, var, plus, times, same_by, mod_plus, mod_times}
use Rattle.up_curve.proofs.Prime.{pow_mod, pow_mod_is, prime_p}
use Rattle.up_curve.proofs.Group as Group
use Rattle.up_curve.proofs.Curve.{inverts, nonsquare}
use Rattle.up_curve.proofs.Decode.{u_of, v_of}
use Rattle.up_curve.specs.Field.{p, sqrt_minus_one as i}
use Rattle.up_curve.specs.Curve.{d, Point}

-- ---- powers

power_is : (s w v e : ℕ) → e < 2 ^ 256 → IsPower s w e → w % p ≡ v % p → s % p ≡ pow_mod 256 p v e
unfolding power
power_is s w v e h k f =
    k.is ∙ sym (pow-mod w e p) ∙ ap (λ z. z ^ e % p) f ∙ pow-mod v e p ∙ sym (pow_mod_is 256 p v e (lit< tt) h)

pub inverse_is : (i z : ℕ) → z % p ≢ 0 → IsPower i z (p - 2) → (z * i) % p ≡ 1
unfolding inverse
inverse_is i z h k =
    let e : i % p ≡ inverse z = power_is i z z (p - 2) (lit< tt) k refl in
    mod_times p z z i (inverse z) refl (sym (mod-mod i p) ∙ ap (λ n. n % p) e) ∙ inverts z h

pub candidate_is : (u v v2 v3 v6 v7 w s t r a b : ℕ) → u % p ≡ a % p → v % p ≡ b % p
    → v2 % p ≡ (v * v) % p → v3 % p ≡ (v2 * v) % p → v6 % p ≡ (v3 * v3) % p → v7 % p ≡ (v6 * v) % p → w % p ≡ (u * v7) % p
    → IsPower s w ((p - 5) / 8) → t % p ≡ (u * v3) % p → r % p ≡ (t * s) % p → r % p ≡ candidate a b
unfolding candidate
candidate_is u v v2 v3 v6 v7 w s t r a b hu hv h2 h3 h6 h7 hw hs ht hr =
    let k2 : v2 % p ≡ (b * b) % p = h2 ∙ mod_times p v b v b hv hv in
    let k3 : v3 % p ≡ (b * b * b) % p = h3 ∙ mod_times p v2 (b * b) v b k2 hv in
    let k6 : v6 % p ≡ (b * b * b * (b * b * b)) % p = h6 ∙ mod_times p v3 (b * b * b) v3 (b * b * b) k3 k3 in
    let k7 : v7 % p ≡ (b * b * b * (b * b * b) * b) % p = h7 ∙ mod_times p v6 (b * b * b * (b * b * b)) v b k6 hv in
    let kw : w % p ≡ (a * (b * b * b * (b * b * b) * b)) % p = hw ∙ mod_times p u a v7 (b * b * b * (b * b * b) * b) hu k7 in
    let ks : s % p ≡ pow_mod 256 p (a * (b * b * b * (b * b * b) * b)) ((p - 5) / 8) = power_is s w (a * (b * b * b * (b * b * b) * b)) ((p - 5) / 8) (lit< tt) hs kw in
    let kt : t % p ≡ (a * (b * b * b)) % p = ht ∙ mod_times p u a v3 (b * b * b) hu k3 in
    hr ∙ mod_times p t (a * (b * b * b)) s (pow_mod 256 p (a * (b * b * b * (b * b * b) * b)) ((p - 5) / 8)) kt (sym (mod-mod s p) ∙ ap (λ n. n % p) ks)

-- ---- roots

square_is : (w v s c b : ℕ) → w % p ≡ (v * s) % p → s % p ≡ (c * c) % p → v % p ≡ b % p → w % p ≡ (b * (c * c)) % p
square_is w v s c b hw hs hv = hw ∙ mod_times p v b s (c * c) hv hs

pub picked_first : (w u v s c a b : ℕ) → w % p ≡ (v * s) % p → s % p ≡ (c * c) % p → u % p ≡ a % p → v % p ≡ b % p
    → eqb (w % p) (u % p) ≡ true → root_of a b c ≡ Some c
unfolding root_of
picked_first w u v s c a b hw hs hu hv e =
    ap (λ t. if t then Some c else (if eqb ((b * (c * c) + a) % p) 0 then Some ((c * i) % p) else None))
    (ap₂ eqb (sym (square_is w v s c b hw hs hv)) (sym hu) ∙ e)

second : (w u v s c a b x : ℕ) → w % p ≡ (v * s) % p → s % p ≡ (c * c) % p → u % p ≡ a % p → v % p ≡ b % p → x % p ≡ (w + u) % p
    → (b * (c * c) + a) % p ≡ x % p
second w u v s c a b x hw hs hu hv hx =
    mod_plus p (b * (c * c)) w a u (sym (square_is w v s c b hw hs hv)) (sym hu) ∙ sym hx

pub picked_second : (w u v s c a b x : ℕ) → w % p ≡ (v * s) % p → s % p ≡ (c * c) % p → u % p ≡ a % p → v % p ≡ b % p → x % p ≡ (w + u) % p
    → eqb (w % p) (u % p) ≡ false → eqb (x % p) 0 ≡ true → root_of a b c ≡ Some ((c * i) % p)
unfolding root_of
picked_second w u v s c a b x hw hs hu hv hx e f =
    ap (λ t. if t then Some c else (if eqb ((b * (c * c) + a) % p) 0 then Some ((c * i) % p) else None))
    (ap₂ eqb (sym (square_is w v s c b hw hs hv)) (sym hu) ∙ e)
    ∙ ap (λ t. if t then Some ((c * i) % p) else None) (ap (λ n. eqb n 0) (second w u v s c a b x hw hs hu hv hx) ∙ f)

pub picked_none : (w u v s c a b x : ℕ) → w % p ≡ (v * s) % p → s % p ≡ (c * c) % p → u % p ≡ a % p → v % p ≡ b % p → x % p ≡ (w + u) % p
    → eqb (w % p) (u % p) ≡ false → eqb (x % p) 0 ≡ false → root_of a b c ≡ None
unfolding root_of
picked_none w u v s c a b x hw hs hu hv hx e f =
    ap (λ t. if t then Some c else (if eqb ((b * (c * c) + a) % p) 0 then Some ((c * i) % p) else None))
    (ap₂ eqb (sym (square_is w v s c b hw hs hv)) (sym hu) ∙ e)
    ∙ ap (λ t. if t then Some ((c * i) % p) else None) (ap (λ n. eqb n 0) (second w u v s c a b x hw hs hu hv hx) ∙ f)

-- ---- signs

point : ℕ → ℕ → Point
point y x = record { x = x; y = y }

pub signed_none : (s y r : ℕ) → (eqb r 0 && eqb s 1) ≡ true → signed s y r ≡ None
unfolding signed point
signed_none s y r e = ap (λ t. if t then None else (if eqb (r % 2) s then Some (point y r) else Some (point y (p - r)))) e

pub signed_same : (s y r : ℕ) → (eqb r 0 && eqb s 1) ≡ false → eqb (r % 2) s ≡ true → signed s y r ≡ Some (record { x = r; y = y })
unfolding signed point
signed_same s y r e f =
    ap (λ t. if t then None else (if eqb (r % 2) s then Some (point y r) else Some (point y (p - r)))) e
    ∙ ap (λ t. if t then Some (point y r) else Some (point y (p - r))) f

pub signed_other : (s y r : ℕ) → (eqb r 0 && eqb s 1) ≡ false → eqb (r % 2) s ≡ false → signed s y r ≡ Some (record { x = p - r; y = y })
unfolding signed point
signed_other s y r e f =
    ap (λ t. if t then None else (if eqb (r % 2) s then Some (point y r) else Some (point y (p - r)))) e
    ∙ ap (λ t. if t then Some (point y r) else Some (point y (p - r))) f

pub root_positive : (s r : ℕ) → s < 2 → (eqb r 0 && eqb s 1) ≡ false → eqb (r % 2) s ≡ false → 0 < r
root_positive s (suc r) h e f = omega arith
root_positive zero zero h e f = absurd (let k : true ≡ false = f in cc)
root_positive (suc zero) zero h e f = absurd (let k : true ≡ false = e in cc)
root_positive (suc (suc s)) zero h e f = absurd (omega arith)

-- ---- u and v

pub u_steps : (y s one t u : ℕ) → s % p ≡ (y * y) % p → one ≡ 1 → (t + one) % p ≡ s % p → u % p ≡ t % p → u % p ≡ u_of y % p
u_steps y s one t u hs ho ht hu =
    hu ∙ same_by p (var 2) (plus (times (var 0) (var 0)) (num (p - 1))) (y ∷ s ∷ t ∷ one ∷ [])
    ((num 1, plus (var 2) (var 3), var 1) ∷ (num 1, var 1, times (var 0) (var 0)) ∷ (num (p - 1), var 3, num 1) ∷ [])
    (ht, (hs, (ap (λ n. n % p) ho, tt))) refl

pub v_steps : (y s one n t x v : ℕ) → s % p ≡ (y * y) % p → one ≡ 1 → n ≡ d → t % p ≡ (s * n) % p → x % p ≡ (t + one) % p → v % p ≡ x % p → v % p ≡ v_of y % p
v_steps y s one n t x v hs ho hn ht hx hv =
    hv ∙ hx
    ∙ mod_plus p t (d * (y * y)) one 1
    (ht ∙ mod_times p s (y * y) n d hs (ap (λ z. z % p) hn) ∙ ap (λ z. z % p) (let e : y * y * d ≡ d * (y * y) = omega arith in e)) (ap (λ z. z % p) ho)

-- ---- whole points

pub point_none : (n : ℕ) → ltb (n % 2 ^ 255) p ≡ false → point_of n ≡ None
unfolding point_of
point_none n e =
    ap (λ t. if t
    then with_root (n / 2 ^ 255) (n % 2 ^ 255) (root_of (u_of (n % 2 ^ 255)) (v_of (n % 2 ^ 255)) (candidate (u_of (n % 2 ^ 255)) (v_of (n % 2 ^ 255))))
    else None) e

pub point_some : (n : ℕ) → ltb (n % 2 ^ 255) p ≡ true
    → point_of n ≡ with_root (n / 2 ^ 255) (n % 2 ^ 255) (root_of (u_of (n % 2 ^ 255)) (v_of (n % 2 ^ 255)) (candidate (u_of (n % 2 ^ 255)) (v_of (n % 2 ^ 255))))
unfolding point_of
point_some n e =
    ap (λ t. if t
    then with_root (n / 2 ^ 255) (n % 2 ^ 255) (root_of (u_of (n % 2 ^ 255)) (v_of (n % 2 ^ 255)) (candidate (u_of (n % 2 ^ 255)) (v_of (n % 2 ^ 255))))
    else None) e

pub decode_is : (bs : List ℕ) → eqb (length bs) 32 ≡ true → decode bs ≡ point_of (number bs)
unfolding decode
decode_is bs e = ap (λ t. if t then point_of (number bs) else None) e

-- ---- quotients

pub quotient_is : (x j a z : ℕ) → a < p → x % p ≡ (a * z) % p → (z * j) % p ≡ 1 → (x * j) % p ≡ a
quotient_is x j a z h hx hz =
    same_by p (times (var 0) (var 1)) (var 2) (x ∷ j ∷ a ∷ z ∷ [])
    ((var 1, var 0, times (var 2) (var 3)) ∷ (var 2, times (var 3) (var 1), num 1) ∷ [])
    (hx, (hz, tt)) refl
    ∙ mod-eq_of_lt {n = a} {m = p} h

pub cancels : (a b c : ℕ) → c % p ≢ 0 → (a * c) % p ≡ (b * c) % p → a % p ≡ b % p
cancels = Group.cancel inverse prime_p inverts nonsquare

nonzero : (a b : ℕ) → a % p ≢ 0 → b % p ≢ 0 → (a * b) % p ≢ 0
nonzero = Group.nonzero_times inverse prime_p inverts nonsquare

crossed : (x1 z1 x2 z2 a b s t : ℕ) → x1 % p ≡ (a * z1) % p → x2 % p ≡ (b * z2) % p → s % p ≡ (x1 * z2) % p → t % p ≡ (x2 * z1) % p
    → (s % p ≡ (a * (z1 * z2)) % p) × (t % p ≡ (b * (z1 * z2)) % p)
crossed x1 z1 x2 z2 a b s t h1 h2 hs ht = (
  hs ∙ mod_times p x1 (a * z1) z2 z2 h1 refl ∙ ap (λ n. n % p) (let e : a * z1 * z2 ≡ a * (z1 * z2) = omega arith in e),
  ht ∙ mod_times p x2 (b * z2) z1 z1 h2 refl ∙ ap (λ n. n % p) (let e : b * z2 * z1 ≡ b * (z1 * z2) = omega arith in e),
)

pub cross_same : (x1 z1 x2 z2 a b s t : ℕ) → a < p → b < p → z1 % p ≢ 0 → z2 % p ≢ 0
    → x1 % p ≡ (a * z1) % p → x2 % p ≡ (b * z2) % p → s % p ≡ (x1 * z2) % p → t % p ≡ (x2 * z1) % p
    → s % p ≡ t % p → a ≡ b
cross_same x1 z1 x2 z2 a b s t la lb n1 n2 h1 h2 hs ht e =
    let k = crossed x1 z1 x2 z2 a b s t h1 h2 hs ht in
    sym (mod-eq_of_lt {n = a} {m = p} la) ∙ cancels a b (z1 * z2) (nonzero z1 z2 n1 n2) (sym k.0 ∙ e ∙ k.1) ∙ mod-eq_of_lt {n = b} {m = p} lb

pub same_cross : (x1 z1 x2 z2 a b s t : ℕ)
    → x1 % p ≡ (a * z1) % p → x2 % p ≡ (b * z2) % p → s % p ≡ (x1 * z2) % p → t % p ≡ (x2 * z1) % p
    → a ≡ b → s % p ≡ t % p
same_cross x1 z1 x2 z2 a b s t h1 h2 hs ht e =
    let k = crossed x1 z1 x2 z2 a b s t h1 h2 hs ht in
    k.0 ∙ ap (λ n. (n * (z1 * z2)) % p) e ∙ sym k.1
