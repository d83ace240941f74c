-- Points made ready for sums.
use Rattle.std.specs.Prelude.{◌≡◌, ℕ, ◌+◌, ◌*◌, ◌-◌, ◌%◌}
use Rattle.up_curve.specs.Field.{p}
use Rattle.up_curve.specs.Curve.{d, Point}
use Rattle.up_curve.specs.Coordinates.{Represents}
use Rattle.up_field.specs.Points.{number}
use Rattle.up_field.specs.declared.cached.Cached.{Cached}

-- it has y + x, y - x, 2 z and 2 d t of four numbers that write the point
pub record Stores (q : Cached) (a : Point) : Type 0 where
  pub x : ℕ
  pub y : ℕ
  pub z : ℕ
  pub t : ℕ
  pub writes : Represents x y z t a
  pub plus_is : number q.plus % p ≡ (y + x) % p
  pub minus_is : number q.minus % p ≡ (y + (p - 1) * x) % p
  pub z_is : number q.z % p ≡ (2 * z) % p
  pub t_is : number q.t % p ≡ (2 * d * t) % p
