-- Points by the last factors of a formula, and points without T.
use Rattle.std.specs.Prelude.{◌≡◌, ℕ, ◌*◌, ◌%◌}
use Rattle.up_curve.specs.Field.{p}
use Rattle.up_curve.specs.Curve.{Point}
use Rattle.up_curve.specs.Coordinates.{Represents}
use Rattle.up_field.specs.Points.{number}
use Rattle.up_field.specs.declared.sides.Sides.{Sides}
use Rattle.up_field.specs.declared.sides.Projective.{Projective}

-- X = E F, Y = G H, Z = F G and T = E H write the point
pub record Yields (s : Sides) (a : Point) : Type 0 where
  pub each : (x y z t : ℕ) → x % p ≡ (number s.e * number s.f) % p → y % p ≡ (number s.g * number s.h) % p
      → z % p ≡ (number s.f * number s.g) % p → t % p ≡ (number s.e * number s.h) % p → Represents x y z t a

-- with T its coordinates are those of the point
abbrev pub Lies : Projective → Point → Type 0
Lies q a = Represents (number q.x) (number q.y) (number q.z) (a.x * a.y * number q.z) a
