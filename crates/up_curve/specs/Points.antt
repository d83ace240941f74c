-- Which coordinates are a point.
use Rattle.std.specs.Prelude.{◌≡◌, ℕ, ◌+◌, ◌*◌, ◌<◌, ◌%◌}
use Rattle.up_curve.specs.Field.{p}
use Rattle.up_curve.specs.Curve.{d, Point}

-- y^2 = 1 + x^2 + d x^2 y^2 modulo p (RFC 8032, section 5.1)
abbrev pub IsOnCurve : ℕ → ℕ → Type 0
IsOnCurve x y = (y * y) % p ≡ (1 + (x * x + d * (x * x * (y * y)))) % p

-- it is on the curve, and its coordinates are reduced modulo p
pub record IsPoint (a : Point) : Type 0 where
  pub curve : IsOnCurve a.x a.y
  pub x_below : a.x < p
  pub y_below : a.y < p
