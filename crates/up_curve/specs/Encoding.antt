-- Points as 32 bytes (RFC 8032, sections 5.1.2 and 5.1.3).
use Rattle.std.specs.Prelude.{ℕ, ◌+◌, ◌*◌, ◌/◌, ◌-◌, ◌^◌, ◌%◌, ◌&&◌, eqb, ltb, List, length, None, Some, if◌then◌else◌, Option}
use Rattle.up_curve.specs.Field.{p, pow_mod, sqrt_minus_one}
use Rattle.up_curve.specs.Curve.{d, Point}
use Rattle.up_curve.specs.LittleEndian.{number, bytes}

-- a point as 32 bytes: y, and in the highest bit whether x is odd (section 5.1.2)
unfoldable pub encode : Point → List ℕ
encode a = bytes 32 (a.y + 2 ^ 255 * (a.x % 2))

-- u and v of a point's y: x^2 = u / v, where u = y^2 - 1 and v = d y^2 + 1 (section 5.1.3, step 2)
abbrev pub u_of : ℕ → ℕ
u_of y = y * y + (p - 1)

abbrev pub v_of : ℕ → ℕ
v_of y = d * (y * y) + 1

-- the candidate root u v^3 (u v^7)^((p-5)/8) (section 5.1.3, step 2)
unfoldable pub candidate : ℕ → ℕ → ℕ
candidate u v = (u * (v * v * v) * pow_mod 256 p (u * (v * v * v * (v * v * v) * v)) ((p - 5) / 8)) % p

-- the root of u / v by the candidate c: c, or c times the root of -1, or none (section 5.1.3, step 3)
unfoldable pub root_of : ℕ → ℕ → ℕ → Option ℕ
root_of u v c =
    if eqb ((v * (c * c)) % p) (u % p)
    then Some c
    else (if eqb ((v * (c * c) + u) % p) 0 then Some ((c * sqrt_minus_one) % p) else None)

-- the point with a root and a sign: 0 with sign 1 is refused, and a root of the other sign is negated (section 5.1.3, step 4)
unfoldable pub signed : ℕ → ℕ → ℕ → Option Point
signed s y r =
    if eqb r 0 && eqb s 1 then None
    else (if eqb (r % 2) s then Some (record { x = r; y = y }) else Some (record { x = p - r; y = y }))

unfoldable pub with_root : ℕ → ℕ → Option ℕ → Option Point
with_root s y None = None
with_root s y (Some r) = signed s y r

-- the point that a number of 256 bits writes: its highest bit is the sign, the rest is y, which is below p (section 5.1.3, step 1)
unfoldable pub point_of : ℕ → Option Point
point_of n =
    if ltb (n % 2 ^ 255) p
    then with_root (n / 2 ^ 255) (n % 2 ^ 255) (root_of (u_of (n % 2 ^ 255)) (v_of (n % 2 ^ 255)) (candidate (u_of (n % 2 ^ 255)) (v_of (n % 2 ^ 255))))
    else None

-- the point that 32 bytes write, if there is one
unfoldable pub decode : List ℕ → Option Point
decode bs = if eqb (length bs) 32 then point_of (number bs) else None
