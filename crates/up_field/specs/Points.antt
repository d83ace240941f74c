-- Field elements in four words, and points in such.
use Rattle.std.specs.Prelude.{◌≡◌, ℕ, ◌+◌, ◌*◌, ◌^◌, ◌%◌}
use Rattle.up_curve.specs.Field.{p}
use Rattle.up_curve.specs.Curve.{Point}
use Rattle.up_curve.specs.Coordinates.{Represents}
use Rattle.up_field.specs.declared.words.Words.{Words}
use Rattle.up_field.specs.declared.points.Extended.{Extended}

-- the number that four words write, the least first
abbrev pub number : Words → ℕ
number w = w.a + 2 ^ 64 * w.b + 2 ^ 128 * w.c + 2 ^ 192 * w.d

-- its extended homogeneous coordinates are those of the point
abbrev pub Writes : Extended → Point → Type 0
Writes q a = Represents (number q.x) (number q.y) (number q.z) (number q.t) a

-- X = E F, Y = G H, Z = F G and T = E H (RFC 8032, section 5.1.4)
pub record AreProducts (q : Extended) (e f g h : Words) : Type 0 where
  pub x : number q.x % p ≡ (number e * number f) % p
  pub y : number q.y % p ≡ (number g * number h) % p
  pub z : number q.z % p ≡ (number f * number g) % p
  pub t : number q.t % p ≡ (number e * number h) % p
