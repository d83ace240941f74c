-- Numbers in digits of one bit that may be larger.
use Rattle.std.specs.Prelude.{◌≡◌, ℕ, ◌+◌, ◌*◌, ◌%◌, ◌<◌, ◌≤◌, ◌^◌, Bool, false, List, [], ◌∷◌, drop, slice_index_or}
use Rattle.up_field.specs.Points.{number}
use Rattle.up_field.specs.declared.sparse.Step.{Step}

-- the number that digits write, the least first
unfoldable pub scattered : List ℕ → ℕ
scattered [] = 0
scattered (d ∷ ds) = d + 2 * scattered ds

-- 0 or odd, and below 16 where it isn't wide
pub record IsDigit (wide : Bool) (d : ℕ) : Type 0 where
  pub low : d < 128
  pub narrow : wide ≡ false → d < 16
  pub odd : d % 2 ≡ 0 → d ≡ 0

pub record AreDigits (wide : Bool) (ds : List ℕ) : Type 0 where
  pub each : (k : ℕ) → IsDigit wide (slice_index_or ds k 0)

-- from a place on, two lists have nothing but 0
pub record EndsAt (n : ℕ) (xs ys : List ℕ) : Type 0 where
  pub first : scattered (drop n xs) ≡ 0
  pub second : scattered (drop n ys) ≡ 0

-- a half is rounded, but not over a power of two
pub record IsNearHalf (half n : ℕ) : Type 0 where
  pub below : (j : ℕ) → n ≤ 2 ^ (j + 1) → half ≤ 2 ^ j
  pub last : n ≤ 1 → half ≡ 0

-- a step's digit and twice what is left are the number
pub record IsCut (s : Step) (n : ℕ) : Type 0 where
  pub value : s.plus + 2 * (number s.rest + s.carry) ≡ n + s.minus
  pub carry : s.carry < 2
  pub near : IsNearHalf (number s.rest + s.carry) n
