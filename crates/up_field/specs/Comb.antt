-- A comb: multiples of the base point by sums and differences of powers of two that are 51 bits apart.
use Rattle.std.specs.Prelude.{◌≡◌, ℕ, zero, suc, ◌<◌, ◌+◌, ◌*◌, ◌/◌, ◌%◌, ◌^◌, List, slice_index_or}
use Rattle.up_curve.specs.Curve.{Point, add, base, multiple}
use Rattle.up_field.specs.Affine.{Keeps}
use Rattle.up_field.specs.Points.{number, Writes}
use Rattle.up_field.specs.declared.affine.Affine.{Affine}
use Rattle.up_field.specs.declared.limbs.Field.{Field}
use Rattle.up_field.specs.declared.points.Extended.{Extended}

-- the number with the bits of a digit at 0, 51, 102, 153 and 204
abbrev pub spread : ℕ → ℕ
spread d = d % 2 + 2 ^ 51 * (d / 2 % 2) + 2 ^ 102 * (d / 4 % 2) + 2 ^ 153 * (d / 8 % 2) + 2 ^ 204 * (d / 16)

-- the digit whose bits are all 1, spread
abbrev pub teeth : ℕ
teeth = 1 + 2 ^ 51 + 2 ^ 102 + 2 ^ 153 + 2 ^ 204

-- 1 + 8 + .. + 8^(k - 1)
unfoldable pub eights : ℕ → ℕ
eights zero = 0
eights (suc k) = 1 + 8 * eights k

-- every third bit of a number from the lowest on, k of them, as digits of three bits
unfoldable pub thirds : ℕ → ℕ → ℕ
thirds zero l = 0
thirds (suc k) l = l % 2 + 8 * thirds k (l / 8)

-- those from the i-th on, of five limbs
abbrev pub column : ℕ → ℕ → Field → ℕ
column k i c =
    thirds k (c.l0 / 2 ^ i) + 2 ^ 51 * thirds k (c.l1 / 2 ^ i) + 2 ^ 102 * thirds k (c.l2 / 2 ^ i)
    + 2 ^ 153 * thirds k (c.l3 / 2 ^ i) + 2 ^ 204 * thirds k (c.l4 / 2 ^ i)

-- its numbers are 0
pub record IsClear (q : Affine) : Type 0 where
  pub plus : number q.plus ≡ 0
  pub minus : number q.minus ≡ 0
  pub t : number q.t ≡ 0

-- it keeps the multiple by 8^r times the signs of a digit of which the highest is 1 and k has the others
pub record IsOdd (q : Affine) (r k : ℕ) : Type 0 where
  pub n : ℕ
  pub is : n + 8 ^ r * teeth ≡ 2 * (8 ^ r * spread (k + 16))
  pub keeps : Keeps q (multiple n base)

-- sixteen entries a row, by their places
pub record IsComb (t : List Affine) : Type 0 where
  pub each : (j : ℕ) → j < 272 → (q : Affine) → IsOdd (slice_index_or t j q) (j / 16) (j % 16)

-- it keeps a point that with s times the base point is n times the base point
pub record IsShare (q : Affine) (s n : ℕ) : Type 0 where
  pub point : Point
  pub keeps : Keeps q point
  pub is : add point (multiple s base) ≡ multiple n base

-- it writes such a point
pub record Balances (q : Extended) (s n : ℕ) : Type 0 where
  pub point : Point
  pub writes : Writes q point
  pub is : add point (multiple s base) ≡ multiple n base
