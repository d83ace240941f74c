use Rattle.std.proofs.Common.{◌≡◌, ℕ, ◌*◌, ◌%◌, ap, ◌∙◌, arith}
use Rattle.up_curve.specs.Field.{p}
use Rattle.up_curve.proofs.Curve.{neutral_point}
use Rattle.up_field.specs.Points.{number}
use Rattle.up_field.proofs.points.neutral.Goals as goal

exact : {a b : ℕ} → a ≡ b → a % p ≡ b % p
exact e = ap (λ n. n % p) e

pub returns : goal.returns
returns c = record {
  point = neutral_point;
  whole = λ e. omega (arith, e, c.one-o.ensures);
  x_is = exact (c.zero-n.ensures ∙ (let e : 0 ≡ 0 * number c.one-o.result = omega arith in e));
  y_is = exact (let e : number c.one-o.result ≡ 1 * number c.one-o.result = omega arith in e);
  t_is = exact (c.zero-n.ensures ∙ (let e : 0 ≡ 0 * 1 * number c.one-o.result = omega arith in e));
}
