use Rattle.std.proofs.Common.{◌≡◌, ℕ, ◌+◌, ◌*◌, ◌%◌, ap, ◌∙◌, arith}
use Rattle.up_curve.specs.Field.{p}
use Rattle.up_field.specs.Points.{number}
use Rattle.up_curve.specs.Curve.{d}
use Rattle.std.proofs.Common.{refl}
use Rattle.up_curve.proofs.Ring.{mod_times}
use Rattle.up_field.proofs.Sums.{difference}
use Rattle.up_field.proofs.cached.ready.Goals as goal

exact : {a b : ℕ} → a ≡ b → a % p ≡ b % p
exact e = ap (λ n. n % p) e

pub returns : goal.returns
returns c = λ m h. record {
  x = number c.args.a.x;
  y = number c.args.a.y;
  z = number c.args.a.z;
  t = number c.args.a.t;
  writes = h;
  plus_is = c.add.ensures;
  minus_is = difference (number c.sub.result) (number c.args.a.x) (number c.args.a.y) (number c.sub.result) c.sub.ensures refl;
  z_is = c.add-2.ensures ∙ exact (let e : number c.args.a.z + number c.args.a.z ≡ 2 * number c.args.a.z = omega arith in e);
  t_is =
      c.mul.ensures ∙ mod_times p (number c.args.a.t) (number c.args.a.t) (number c.two_d.result) (2 * d) refl c.two_d.ensures
      ∙ exact (let e : number c.args.a.t * (2 * d) ≡ 2 * d * number c.args.a.t = omega arith in e);
}
