-- Extended homogeneous coordinates.
use Rattle.std.specs.Prelude.{◌≡◌, ◌≢◌, ℕ, ◌+◌, ◌*◌, ◌-◌, ◌%◌}
use Rattle.up_curve.specs.Field.{p}
use Rattle.up_curve.specs.Curve.{d, Point}
use Rattle.up_curve.specs.Points.{IsPoint}

-- X, Y, Z and T write a point: its coordinates are X / Z and Y / Z, and their product is T / Z (RFC 8032, section 5.1.4)
pub record Represents (x y z t : ℕ) (a : Point) : Type 0 where
  pub point : IsPoint a
  pub whole : z % p ≢ 0
  pub x_is : x % p ≡ (a.x * z) % p
  pub y_is : y % p ≡ (a.y * z) % p
  pub t_is : t % p ≡ (a.x * a.y * z) % p

-- E of a sum (RFC 8032, section 5.1.4), with its A and B multiplied out
abbrev pub e_of : ℕ → ℕ → ℕ → ℕ → ℕ
e_of x1 y1 x2 y2 = 2 * (x1 * y2 + x2 * y1)

-- H of a sum
abbrev pub h_of : ℕ → ℕ → ℕ → ℕ → ℕ
h_of x1 y1 x2 y2 = 2 * (y1 * y2 + x1 * x2)

-- F of a sum
abbrev pub f_of : ℕ → ℕ → ℕ → ℕ → ℕ
f_of z1 t1 z2 t2 = 2 * (z1 * z2 + (p - 1) * (d * (t1 * t2)))

-- G of a sum
abbrev pub g_of : ℕ → ℕ → ℕ → ℕ → ℕ
g_of z1 t1 z2 t2 = 2 * (z1 * z2 + d * (t1 * t2))
