-- Points by their coordinates, made ready for sums.
use Rattle.std.specs.Prelude.{◌≡◌, ℕ, ◌+◌, ◌*◌, ◌-◌, ◌%◌}
use Rattle.up_curve.specs.Field.{p}
use Rattle.up_curve.specs.Curve.{d, Point}
use Rattle.up_curve.specs.Points.{IsPoint}
use Rattle.up_field.specs.Points.{number}
use Rattle.up_field.specs.declared.affine.Affine.{Affine}

-- it has y + x, y - x and 2 d t of x, y and t
pub record Holds (q : Affine) (x y t : ℕ) : Type 0 where
  pub plus_is : number q.plus % p ≡ (y + x) % p
  pub minus_is : number q.minus % p ≡ (y + (p - 1) * x) % p
  pub t_is : number q.t % p ≡ (2 * d * t) % p

-- it is made of the point's coordinates and their product
pub record Keeps (q : Affine) (a : Point) : Type 0 where
  pub point : IsPoint a
  pub holds : Holds q a.x a.y (a.x * a.y)
