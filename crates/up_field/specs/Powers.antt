-- Powers modulo 2^255 - 19.
use Rattle.std.specs.Prelude.{ℕ, ◌≡◌, ◌^◌, ◌%◌}
use Rattle.up_curve.specs.Field.{p}

-- the power, reduced
unfoldable pub power : ℕ → ℕ → ℕ
power b e = b ^ e % p

-- a is b ^ e modulo 2^255 - 19
pub record IsPower (a b e : ℕ) : Type 0 where
  pub is : a % p ≡ power b e
