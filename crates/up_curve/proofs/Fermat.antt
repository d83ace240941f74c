-- Fermat's little theorem, for a number that divides a product only if it divides a factor.
use Rattle.std.proofs.Common.{◌≡◌, ◌≢◌, ℕ, zero, suc, ◌+◌, ◌*◌, ◌-◌, ◌^◌, ◌%◌, ◌<◌, ◌≤◌, ◌⊎◌, inl, inr, refl, sym, ◌∙◌, ap, arith, pow-suc, mod-eq_of_lt, lt_irrefl, mul-zero}
use Rattle.std.proofs.Math.Nat.{pow-zero, mul-mod_left, mul-mod_right, zero-mod}
use Rattle.up_curve.proofs.Ring.{mod_plus, mod_times, mod_cancel}

-- a number above 1 that divides a product only if it divides a factor
pub record IsPrimeElement (m : ℕ) : Type 0 where
  pub above : 1 < m
  pub divides : (a b : ℕ) → (a * b) % m ≡ 0 → (a % m ≡ 0) ⊎ (b % m ≡ 0)

-- the number of ways to choose k of n
abbrev choose : ℕ → ℕ → ℕ
choose n zero = 1
choose zero (suc k) = 0
choose (suc n) (suc k) = choose n k + choose n (suc k)

choose_past : (n k : ℕ) → n < k → choose n k ≡ 0
choose_past zero zero h = absurd (lt_irrefl zero h)
choose_past zero (suc k) h = refl
choose_past (suc n) zero h = absurd (omega arith)
choose_past (suc n) (suc k) h = omega (arith, choose_past n k (omega arith), choose_past n (suc k) (omega arith))

choose_all : (n : ℕ) → choose n n ≡ 1
choose_all zero = refl
choose_all (suc n) = omega (arith, choose_all n, choose_past n (suc n) (omega arith))

absorb : (n k : ℕ) → suc k * choose (suc n) (suc k) ≡ suc n * choose n k
absorb zero zero = refl
absorb zero (suc k) = omega arith
absorb (suc n) zero = omega (arith, absorb n zero)
absorb (suc n) (suc k) = omega (arith, absorb n k, absorb n (suc k))

-- the first k summands of (a + 1) ^ n
abbrev part : ℕ → ℕ → ℕ → ℕ
part n zero a = 0
part n (suc k) a = part n k a + choose n k * a ^ k

part-suc : (n k a : ℕ) → part (suc n) (suc k) a ≡ part n (suc k) a + a * part n k a
part-suc n zero a = omega arith
part-suc n (suc k) a = omega (
  arith,
  part-suc n k a,
  ap (λ z. choose n k * z) (pow-suc a k),
  ap (λ z. choose n (suc k) * z) (pow-suc a k),
)

binomial : (n a : ℕ) → (a + 1) ^ n ≡ part n (suc n) a
binomial zero a = pow-zero (a + 1) ∙ sym (omega (arith, pow-zero a))
binomial (suc n) a =
    pow-suc (a + 1) n ∙ omega (
      arith,
      ap (λ z. z * (a + 1)) (binomial n a),
      part-suc n (suc n) a,
      ap (λ z. z * a ^ suc n) (choose_past n (suc n) (omega arith)),
    )

module _ (n : ℕ) (prime : IsPrimeElement (suc n)) where
  m : ℕ
  m = suc n

  between : (k : ℕ) → k < n → choose (suc n) (suc k) % suc n ≡ 0
  between k h = ⊎_one (prime.divides (suc k) (choose (suc n) (suc k)) (ap (λ z. z % suc n) (absorb n k) ∙ mul-mod_right (suc n) (choose n k)))
    where
      ⊎_one : (suc k % suc n ≡ 0) ⊎ (choose (suc n) (suc k) % suc n ≡ 0) → choose (suc n) (suc k) % suc n ≡ 0
      ⊎_one (inl e) = absurd (omega (arith, mod-eq_of_lt {n = suc k} {m = suc n} (omega arith)))
      ⊎_one (inr e) = e

  part_mod : (k a : ℕ) → k ≤ n → part (suc n) (suc k) a % suc n ≡ 1 % suc n
  part_mod zero a h = ap (λ z. z % suc n) (omega (arith, pow-zero a))
  part_mod (suc k) a h =
      mod_plus (suc n) (part (suc n) (suc k) a) 1 (choose (suc n) (suc k) * a ^ suc k) (0 * a ^ suc k)
      (part_mod k a (omega arith))
      (mod_times (suc n) (choose (suc n) (suc k)) 0 (a ^ suc k) (a ^ suc k) (between k (omega arith) ∙ sym (zero-mod (suc n))) refl)
      ∙ ap (λ z. z % suc n) (omega arith)

  dream : (a : ℕ) → (a + 1) ^ suc n % suc n ≡ (a ^ suc n + 1) % suc n
  dream a =
      ap (λ z. z % suc n) (binomial (suc n) a)
      ∙ mod_plus (suc n) (part (suc n) (suc n) a) 1 (choose (suc n) (suc n) * a ^ suc n) (a ^ suc n)
      (part_mod n a (omega arith))
      (ap (λ z. (z * a ^ suc n) % suc n) (choose_all (suc n)) ∙ ap (λ z. z % suc n) (omega arith))
      ∙ ap (λ z. z % suc n) (omega arith)

  pub fermat : (a : ℕ) → a ^ suc n % suc n ≡ a % suc n
  fermat zero = ap (λ z. z % suc n) (pow-suc zero n ∙ mul-zero (zero ^ n))
  fermat (suc a) =
      ap (λ z. z ^ suc n % suc n) (omega arith)
      ∙ dream a
      ∙ mod_plus (suc n) (a ^ suc n) a 1 1 (fermat a) refl
      ∙ ap (λ z. z % suc n) (omega arith)

-- the power is 1 where the number is not divided
pub fermat_one : (m : ℕ) → IsPrimeElement m → (a : ℕ) → a % m ≢ 0 → a ^ (m - 1) % m ≡ 1
fermat_one zero prime a h = absurd (omega (arith, prime.above))
fermat_one (suc zero) prime a h = absurd (omega (arith, prime.above))
fermat_one (suc (suc n)) prime a h =
    ap (λ z. a ^ z % suc (suc n)) (omega arith) ∙ from (prime.divides a (a ^ suc n + suc n) divided)
  where
    divided : (a * (a ^ suc n + suc n)) % suc (suc n) ≡ 0
    divided =
        ap (λ z. z % suc (suc n)) (omega (arith, pow-suc a (suc n)))
        ∙ mod_plus (suc (suc n)) (a ^ suc (suc n)) a (a * suc n) (a * suc n) (fermat (suc n) prime a) refl
        ∙ ap (λ z. z % suc (suc n)) (omega arith) ∙ mul-mod_left a (suc (suc n))

    from : (a % suc (suc n) ≡ 0) ⊎ ((a ^ suc n + suc n) % suc (suc n) ≡ 0) → a ^ suc n % suc (suc n) ≡ 1
    from (inl e) = absurd (h e)
    from (inr e) =
        mod_cancel (suc (suc n)) (a ^ suc n) 1 (suc n)
        (e ∙ sym (mul-mod_left 1 (suc (suc n))) ∙ ap (λ z. z % suc (suc n)) (omega arith))
        ∙ mod-eq_of_lt {n = 1} {m = suc (suc n)} (omega arith)
