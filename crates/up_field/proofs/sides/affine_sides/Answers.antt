use Rattle.std.proofs.Common.{◌≡◌, ℕ, ◌+◌, ◌*◌, ◌%◌, ap, ◌∙◌, arith}
use Rattle.up_curve.specs.Field.{p}
use Rattle.up_curve.specs.Curve.{Point}
use Rattle.up_curve.specs.Points.{IsPoint}
use Rattle.up_curve.specs.Coordinates.{Represents}
use Rattle.up_field.specs.Points.{number}
use Rattle.up_field.proofs.sides.affine_sides.Goals as goal

exact : {a b : ℕ} → a ≡ b → a % p ≡ b % p
exact e = ap (λ n. n % p) e

-- a point writes itself, with 1 as its z
itself : (n : Point) → IsPoint n → Represents n.x n.y 1 (n.x * n.y) n
itself n h = record {
  point = h;
  whole = λ e. omega (arith, e);
  x_is = exact (let e : n.x ≡ n.x * 1 = omega arith in e);
  y_is = exact (let e : n.y ≡ n.y * 1 = omega arith in e);
  t_is = exact (let e : n.x * n.y ≡ n.x * n.y * 1 = omega arith in e);
}

pub returns : goal.returns
returns c = λ m n h k.
    c.summed_sides.ensures m n n.x n.y 1 (n.x * n.y) h (itself n k.point) k.holds
    (c.add-z.ensures ∙ exact (let e : number c.args.a.z + number c.args.a.z ≡ number c.args.a.z * (2 * 1) = omega arith in e))
