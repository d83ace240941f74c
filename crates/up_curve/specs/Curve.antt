-- The curve edwards25519: -x^2 + y^2 = 1 + d x^2 y^2 modulo p (RFC 8032, section 5.1).
use Rattle.std.specs.Prelude.{ℕ, zero, suc, ◌+◌, ◌*◌, ◌-◌, ◌^◌, ◌%◌}
use Rattle.up_curve.specs.Field.{p, inverse}

-- the curve's d, which is -121665 / 121666 modulo p (RFC 8032, section 5.1)
abbrev pub d : ℕ
d = 37095705934669439343138083508754565189542113879843219016388785533085940283555

-- a point by its coordinates
pub record Point : Type 0 where
  pub x : ℕ
  pub y : ℕ

-- the sum of two points (RFC 8032, section 5.1.4); p - 1 stands for -1
unfoldable pub add : Point → Point → Point
add a b = record {
  x = ((a.x * b.y + b.x * a.y) * inverse (1 + d * (a.x * b.x * (a.y * b.y)))) % p;
  y = ((a.y * b.y + a.x * b.x) * inverse (1 + (p - 1) * (d * (a.x * b.x * (a.y * b.y))))) % p;
}

-- the neutral point (RFC 8032, section 5.1.4)
abbrev pub neutral : Point
neutral = record { x = 0; y = 1 }

-- n times a point: [n]a
unfoldable pub multiple : ℕ → Point → Point
multiple zero a = neutral
multiple (suc n) a = add a (multiple n a)

-- the base point B (RFC 8032, section 5.1)
abbrev pub base : Point
base = record { x = 15112221349535400772501151409588531511454012693041857206046113283949847762202; y = 46316835694926478169428394003475163141307993866256225615783033603165251855960 }

-- the order L of the base point (RFC 8032, section 5.1)
abbrev pub order : ℕ
order = 2 ^ 252 + 27742317777372353535851937790883648493
