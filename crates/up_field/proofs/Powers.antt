-- Powers modulo 2^255 - 19.
unfoldable pub use Rattle.up_field.specs.Powers.{power}
pub use Rattle.up_field.specs.Powers.{IsPower}
use Rattle.std.proofs.Common.{◌≡◌, ℕ, zero, suc, ◌+◌, ◌*◌, ◌^◌, ◌%◌, sym, ◌∙◌, ap, arith, pow-suc}
use Rattle.std.proofs.Math.Nat.{pow-zero}
use Rattle.std.proofs.lemmas.Nat.{pow-mod, pow-add}
use Rattle.up_curve.proofs.Ring.{mod_times}
use Rattle.up_curve.specs.Field.{p}

-- b ^ (m * n) = (b ^ m) ^ n
pow-times : (b m n : ℕ) → b ^ (m * n) ≡ (b ^ m) ^ n
pow-times b m zero = ap (λ z. b ^ z) (let e : m * zero ≡ zero = omega arith in e) ∙ pow-zero b ∙ sym (pow-zero (b ^ m))
pow-times b m (suc n) =
    ap (λ z. b ^ z) (let e : m * suc n ≡ m * n + m = omega arith in e)
    ∙ pow-add b (m * n) m ∙ ap (λ z. z * b ^ m) (pow-times b m n) ∙ sym (pow-suc (b ^ m) n)

pow-one : (b : ℕ) → b ^ 1 ≡ b
pow-one b = pow-suc b 0 ∙ ap (λ z. z * b) (pow-zero b) ∙ (let e : 1 * b ≡ b = omega arith in e)

pub itself : (a : ℕ) → IsPower a a 1
unfolding power
itself a = record { is = ap (λ z. z % p) (sym (pow-one a)) }

-- a product of powers of one number
pub product : (r x y a m n k : ℕ) → m + n ≡ k → r % p ≡ (x * y) % p → IsPower x a m → IsPower y a n → IsPower r a k
unfolding power
product r x y a m n k e h s t = record {
  is = h ∙ mod_times p x (a ^ m) y (a ^ n) s.is t.is ∙ ap (λ z. z % p) (sym (pow-add a m n)) ∙ ap (λ z. a ^ z % p) e;
}

-- a power of a power
pub nested : (r x a m n k : ℕ) → m * n ≡ k → IsPower x a m → IsPower r x n → IsPower r a k
unfolding power
nested r x a m n k e h t = record {
  is = t.is ∙ sym (pow-mod x n p) ∙ ap (λ z. z ^ n % p) h.is ∙ pow-mod (a ^ m) n p ∙ ap (λ z. z % p) (sym (pow-times a m n)) ∙ ap (λ z. a ^ z % p) e;
}

-- one more square
pub squared : (r x a i : ℕ) → r % p ≡ (x * x) % p → IsPower x a (2 ^ i) → IsPower r a (2 ^ (i + 1))
squared r x a i h s = product r x x a (2 ^ i) (2 ^ i) (2 ^ (i + 1)) (let u : i + 1 ≡ suc i = omega arith in let w : 2 ^ (i + 1) ≡ 2 ^ i * 2 = ap (λ z. 2 ^ z) u ∙ pow-suc 2 i in omega (arith, w)) h s s

pub start : (a : ℕ) → IsPower a a (2 ^ 0)
start a = itself a
