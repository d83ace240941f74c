-- The sum in extended homogeneous coordinates.
use Rattle.std.specs.Prelude.{◌≡◌, ℕ, ◌*◌, ◌%◌}
use Rattle.up_curve.specs.Field.{p}
use Rattle.up_curve.specs.Curve.{Point, add}
use Rattle.up_curve.specs.Coordinates.{Represents, e_of, f_of, g_of, h_of}

-- of two points, each written by four numbers, EF, GH, FG and EH write the sum (RFC 8032, section 5.1.4)
abbrev pub SumsAreWritten : Type 0
SumsAreWritten = (x1 y1 z1 t1 x2 y2 z2 t2 : ℕ) (a b : Point) → Represents x1 y1 z1 t1 a → Represents x2 y2 z2 t2 b → (x y z t : ℕ)
    → x % p ≡ (e_of x1 y1 x2 y2 * f_of z1 t1 z2 t2) % p
    → y % p ≡ (g_of z1 t1 z2 t2 * h_of x1 y1 x2 y2) % p
    → z % p ≡ (f_of z1 t1 z2 t2 * g_of z1 t1 z2 t2) % p
    → t % p ≡ (e_of x1 y1 x2 y2 * h_of x1 y1 x2 y2) % p
    → Represents x y z t (add a b)
