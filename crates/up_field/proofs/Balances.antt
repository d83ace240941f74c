-- The comb's numbers, and sums of points that balance.
unfoldable pub use Rattle.up_field.specs.Comb.{eights, thirds}
unfoldable pub use Rattle.up_curve.specs.Curve.{multiple}
pub use Rattle.up_field.specs.Comb.{Balances, IsShare, spread, teeth}
use Rattle.std.proofs.Common.{◌≡◌, ℕ, zero, suc, ◌+◌, ◌*◌, ◌-◌, ◌/◌, ◌^◌, ◌%◌, ◌<◌, refl, sym, ◌∙◌, ap, ap₂, arith, pow-suc}
use Rattle.std.proofs.Math.Nat.{pow-zero, div-one, div-div-eq-div-mul}
use Rattle.std.proofs.lemmas.Nat.{pow-add}
use Rattle.up_curve.specs.Curve.{Point, add, base, neutral, order}
use Rattle.up_curve.specs.Points.{IsPoint}
use Rattle.up_curve.specs.Laws.{negated}
use Rattle.up_curve.proofs.Curve.{add_point, add_comm, add_neutral, add_associative, multiple_point, multiple-add, base_point, reduced}
use Rattle.up_curve.proofs.Negated.{negated_point, add_negated}
use Rattle.up_field.proofs.Chains.{cancel_right}

-- ---- numbers

pub eights-more : (k : ℕ) → eights (k + 1) ≡ eights k + 8 ^ k
unfolding eights
eights-more zero = refl
eights-more (suc k) =
    ap eights (let e : suc k + 1 ≡ suc (k + 1) = omega arith in e)
    ∙ (let t : 1 + 8 * eights (k + 1) ≡ 1 + 8 * eights k + 8 ^ suc k = omega (arith, eights-more k, pow-suc 8 k) in t)

over : (x k : ℕ) → x / 8 / 8 ^ k ≡ x / 8 ^ suc k
over x k = div-div-eq-div-mul x 8 (8 ^ k) ∙ ap (λ z. x / z) (let e : 8 * 8 ^ k ≡ 8 ^ suc k = omega (arith, pow-suc 8 k) in e)

pub thirds-more : (k x : ℕ) → thirds (k + 1) x ≡ thirds k x + 8 ^ k * (x / 8 ^ k % 2)
unfolding thirds
thirds-more zero x =
    let a : x / 8 ^ 0 ≡ x = ap (λ z. x / z) (pow-zero 8) ∙ div-one x in
    let b : 8 ^ 0 * (x / 8 ^ 0 % 2) ≡ x % 2 = ap₂ (λ (u v : ℕ). u * (v % 2)) (pow-zero 8) a ∙ (let e : 1 * (x % 2) ≡ x % 2 = omega arith in e) in
    omega (arith, b)
thirds-more (suc k) x =
    let a : 8 ^ suc k * (x / 8 ^ suc k % 2) ≡ 8 * (8 ^ k * (x / 8 / 8 ^ k % 2)) =
    ap₂ (λ (u v : ℕ). u * (v % 2)) (let e : 8 ^ suc k ≡ 8 * 8 ^ k = omega (arith, pow-suc 8 k) in e) (sym (over x k))
    ∙ (let e : 8 * 8 ^ k * (x / 8 / 8 ^ k % 2) ≡ 8 * (8 ^ k * (x / 8 / 8 ^ k % 2)) = omega arith in e) in
    ap (λ z. thirds z x) (let e : suc k + 1 ≡ suc (k + 1) = omega arith in e)
    ∙ (let t : x % 2 + 8 * thirds (k + 1) (x / 8) ≡ x % 2 + 8 * thirds k (x / 8) + 8 ^ suc k * (x / 8 ^ suc k % 2) = omega (arith, a, thirds-more k (x / 8)) in t)

pub thirds-whole : (k x : ℕ) → x < 8 ^ k → thirds k x + 2 * thirds k (x / 2) + 4 * thirds k (x / 4) ≡ x
unfolding thirds
thirds-whole zero x h = omega (arith, h, pow-zero 8)
thirds-whole (suc k) x h =
    let i = thirds-whole k (x / 8) (omega (arith, h, pow-suc 8 k)) in
    let a : thirds k (x / 8 / 2) ≡ thirds k (x / 2 / 8) = ap (thirds k) (omega arith) in
    let b : thirds k (x / 8 / 4) ≡ thirds k (x / 4 / 8) = ap (thirds k) (omega arith) in
    omega (arith, i, a, b)

eight-pow : (k : ℕ) → 8 ^ k ≡ 2 ^ (3 * k)
eight-pow zero = refl
eight-pow (suc k) =
    pow-suc 8 k ∙ ap (λ z. z * 8) (eight-pow k) ∙ sym (pow-add 2 (3 * k) 3)
    ∙ ap (λ z. 2 ^ z) (let e : 3 * k + 3 ≡ 3 * suc k = omega arith in e)

-- the bit of a number at a place, by its third
pub at-place : (l i k : ℕ) → l / 2 ^ (3 * k + i) % 2 ≡ l / 2 ^ i / 8 ^ k % 2
at-place l i k =
    ap (λ z. z % 2)
    (ap (λ z. l / z) (ap (λ z. 2 ^ z) (let e : 3 * k + i ≡ i + 3 * k = omega arith in e) ∙ pow-add 2 i (3 * k) ∙ ap (λ z. 2 ^ i * z) (sym (eight-pow k)))
    ∙ sym (div-div-eq-div-mul l (2 ^ i) (8 ^ k)))

-- a digit by its bits
pub spread-bits : (d a b c e f : ℕ) → a < 2 → b < 2 → c < 2 → e < 2 → f < 2 → d ≡ a + 2 * b + 4 * c + 8 * e + 16 * f
    → spread d ≡ a + 2 ^ 51 * b + 2 ^ 102 * c + 2 ^ 153 * e + 2 ^ 204 * f
spread-bits d a b c e f ha hb hc he hf h =
    let v : d % 2 ≡ a = omega (arith, ha, h) in
    let w : d / 2 % 2 ≡ b = omega (arith, ha, hb, h) in
    let x : d / 4 % 2 ≡ c = omega (arith, ha, hb, hc, h) in
    let y : d / 8 % 2 ≡ e = omega (arith, ha, hb, hc, he, h) in
    let z : d / 16 ≡ f = omega (arith, ha, hb, hc, he, hf, h) in
    omega (arith, v, w, x, y, z)

-- the bits of a digit turned, and the bits of the digit
pub mirrored : (d : ℕ) → d < 16 → spread (15 - d + 16) + spread d ≡ teeth
mirrored zero l = refl
mirrored (suc zero) l = refl
mirrored (suc (suc zero)) l = refl
mirrored (suc (suc (suc zero))) l = refl
mirrored (suc (suc (suc (suc zero)))) l = refl
mirrored (suc (suc (suc (suc (suc zero))))) l = refl
mirrored (suc (suc (suc (suc (suc (suc zero)))))) l = refl
mirrored (suc (suc (suc (suc (suc (suc (suc zero))))))) l = refl
mirrored (suc (suc (suc (suc (suc (suc (suc (suc zero)))))))) l = refl
mirrored (suc (suc (suc (suc (suc (suc (suc (suc (suc zero))))))))) l = refl
mirrored (suc (suc (suc (suc (suc (suc (suc (suc (suc (suc zero)))))))))) l = refl
mirrored (suc (suc (suc (suc (suc (suc (suc (suc (suc (suc (suc zero))))))))))) l = refl
mirrored (suc (suc (suc (suc (suc (suc (suc (suc (suc (suc (suc (suc zero)))))))))))) l = refl
mirrored (suc (suc (suc (suc (suc (suc (suc (suc (suc (suc (suc (suc (suc zero))))))))))))) l = refl
mirrored (suc (suc (suc (suc (suc (suc (suc (suc (suc (suc (suc (suc (suc (suc zero)))))))))))))) l = refl
mirrored (suc (suc (suc (suc (suc (suc (suc (suc (suc (suc (suc (suc (suc (suc (suc zero))))))))))))))) l = refl
mirrored (suc (suc (suc (suc (suc (suc (suc (suc (suc (suc (suc (suc (suc (suc (suc (suc d)))))))))))))))) l = absurd (omega (arith, l))

-- ---- points

exchanged : (a b c e : Point) → IsPoint a → IsPoint b → IsPoint c → IsPoint e → add (add a b) (add c e) ≡ add (add a c) (add b e)
exchanged a b c e h k l m =
    add_associative a b (add c e) h k (add_point c e l m)
    ∙ ap (add a) (sym (add_associative b c e k l m) ∙ ap (λ z. add z e) (add_comm b c) ∙ add_associative c b e l k m)
    ∙ sym (add_associative a c (add b e) h l (add_point b e k m))

-- two points that balance, together
pub together : (a b : Point) (s n t m : ℕ) → IsPoint a → IsPoint b → add a (multiple s base) ≡ multiple n base → add b (multiple t base) ≡ multiple m base
    → add (add a b) (multiple (s + t) base) ≡ multiple (n + m) base
together a b s n t m h k e f =
    ap (add (add a b)) (multiple-add s t base base_point)
    ∙ exchanged a b (multiple s base) (multiple t base) h k (multiple_point s base base_point) (multiple_point t base base_point)
    ∙ ap₂ add e f
    ∙ sym (multiple-add n m base base_point)

-- the other of two that balance
pub other : (a x y : Point) → IsPoint a → IsPoint x → add a x ≡ y → add (negated a) y ≡ x
other a x y h k e =
    ap (add (negated a)) (sym e)
    ∙ sym (add_associative (negated a) a x (negated_point a h) h k)
    ∙ ap (λ z. add z x) (add_comm (negated a) a ∙ add_negated a h)
    ∙ add_neutral x k

pub nothing : add neutral (multiple 0 base) ≡ multiple 0 base
nothing = add_neutral (multiple 0 base) (multiple_point 0 base base_point)

-- what is left where both sides have the same multiple, modulo the order
pub left_over : (a : Point) (s n m : ℕ) → IsPoint a → add a (multiple s base) ≡ multiple n base → n % order ≡ (m + s) % order → a ≡ multiple m base
left_over a s n m h e k =
    cancel_right a (multiple m base) (multiple s base) h (multiple_point m base base_point) (multiple_point s base base_point)
    (e ∙ sym (reduced n) ∙ ap (λ z. multiple z base) k ∙ reduced (m + s) ∙ multiple-add m s base base_point)
