-- Points that may not be there.
use Rattle.std.specs.Prelude.{ℕ, ◌≡◌, ◌<◌, Option, None, Some}
use Rattle.up_field.specs.declared.words.Words.{Words}
use Rattle.up_field.specs.declared.points.Extended.{Extended}
use Rattle.up_curve.specs.Field.{p}
use Rattle.up_field.specs.Points.{number, Writes}
use Rattle.up_curve.specs.Curve.{Point}

-- the least form of a number below 2^255 - 19
pub record IsReduced (f : Words) : Type 0 where
  pub below : number f < p

-- the root, or none
pub record IsSomeRoot (f : Words) (o : Option ℕ) : Type 0 where
  pub is : o ≡ Some (number f)
  pub reduced : IsReduced f

abbrev pub IsRoot : Option Words → Option ℕ → Type 0
IsRoot None o = o ≡ None
IsRoot (Some f) o = IsSomeRoot f o

-- it writes the point, or there is none
pub record IsSomePoint (q : Extended) (o : Option Point) : Type 0 where
  pub point : Point
  pub is : o ≡ Some point
  pub writes : Writes q point

abbrev pub IsMaybe : Option Extended → Option Point → Type 0
IsMaybe None o = o ≡ None
IsMaybe (Some q) o = IsSomePoint q o
