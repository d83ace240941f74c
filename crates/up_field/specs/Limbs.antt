-- Numbers in five limbs of 51 bits.
use Rattle.std.specs.Prelude.{ℕ, ◌+◌, ◌*◌, ◌^◌, ◌<◌}
use Rattle.up_curve.specs.Curve.{order}
use Rattle.up_field.specs.declared.limbs.Field.{Field}

-- the number that five limbs write, the least first
abbrev pub limbs : ℕ → ℕ → ℕ → ℕ → ℕ → ℕ
limbs a b c d e = a + 2 ^ 51 * b + 2 ^ 102 * c + 2 ^ 153 * d + 2 ^ 204 * e

abbrev pub number_of : Field → ℕ
number_of f = limbs f.l0 f.l1 f.l2 f.l3 f.l4

-- each limb has 51 bits
pub record IsTight (f : Field) : Type 0 where
  pub l0 : f.l0 < 2 ^ 51
  pub l1 : f.l1 < 2 ^ 51
  pub l2 : f.l2 < 2 ^ 51
  pub l3 : f.l3 < 2 ^ 51
  pub l4 : f.l4 < 2 ^ 51

-- the last may have one more
pub record IsLoose (f : Field) : Type 0 where
  pub l0 : f.l0 < 2 ^ 51
  pub l1 : f.l1 < 2 ^ 51
  pub l2 : f.l2 < 2 ^ 51
  pub l3 : f.l3 < 2 ^ 51
  pub l4 : f.l4 < 2 ^ 52

-- each limb has 51 bits, and the number is below the order
pub record IsScalar (f : Field) : Type 0 where
  pub l0 : f.l0 < 2 ^ 51
  pub l1 : f.l1 < 2 ^ 51
  pub l2 : f.l2 < 2 ^ 51
  pub l3 : f.l3 < 2 ^ 51
  pub l4 : f.l4 < 2 ^ 51
  pub below : number_of f < order
