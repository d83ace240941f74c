-- Tables of odd multiples.
use Rattle.std.specs.Prelude.{ℕ, ◌<◌, ◌+◌, ◌*◌, ◌^◌, List, slice_index_or}
use Rattle.up_field.specs.declared.affine.Affine.{Affine}
use Rattle.up_field.specs.declared.cached.Cached.{Cached}
use Rattle.up_field.specs.declared.halves.Multiples.{Multiples}
use Rattle.up_field.specs.Affine.{Keeps}
use Rattle.up_field.specs.Cached.{Stores}
use Rattle.up_curve.specs.Curve.{Point, add, base, multiple}

-- a sum of multiples of two points
abbrev pub pair : ℕ → ℕ → Point → Point → Point
pair c e m n = add (multiple c m) (multiple e n)

-- the k-th entry is made of 2 k + 1 times the point
pub record IsTable (t : List Cached) (m : Point) : Type 0 where
  pub each : (k : ℕ) → k < 8 → (q : Cached) → Stores (slice_index_or t k q) (multiple (2 * k + 1) m)

-- the k-th entry keeps 2 k + 1 times n times the base point
pub record AreOddMultiples (n : ℕ) (t : List Affine) : Type 0 where
  pub keeps : (k : ℕ) → k < 64 → (q : Affine) → Keeps (slice_index_or t k q) (multiple (n * (2 * k + 1)) base)

-- they are odd multiples of the point, and of 2^129 times it
pub record AreMultiples (t : Multiples) (m : Point) : Type 0 where
  pub low : IsTable t.low m
  pub high : IsTable t.high (multiple (2 ^ 129) m)
