-- Public keys whose point is at hand.
use Rattle.std.specs.Prelude.{◌≡◌, ℕ, List, Some}
use Rattle.up_curve.specs.Curve.{Point}
use Rattle.up_curve.specs.Points.{IsPoint}
use Rattle.up_curve.specs.Encoding.{decode}
use Rattle.up_field.specs.Tables.{AreMultiples}
use Rattle.up_field.specs.declared.halves.Multiples.{Multiples}

-- the multiples are those of the point that the bytes write
pub record AreOfKey (bs : List ℕ) (t : Multiples) : Type 0 where
  pub point : Point
  pub on_curve : IsPoint point
  pub decoded : decode bs ≡ Some point
  pub multiples : AreMultiples t point
