-- Numbers in digits of 51 bits that may be larger.
use Rattle.std.specs.Prelude.{ℕ, ◌+◌, ◌*◌, ◌^◌, ◌<◌, List, [], ◌∷◌, slice_index_or}

-- the number that digits write, the least first
unfoldable pub written : List ℕ → ℕ
written [] = 0
written (d ∷ ds) = d + 2 ^ 51 * written ds

-- each digit is below 2^110
pub record AreDigits (ds : List ℕ) : Type 0 where
  pub each : (k : ℕ) → slice_index_or ds k 0 < 2 ^ 110
