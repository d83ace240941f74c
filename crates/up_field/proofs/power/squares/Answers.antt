use Rattle.std.proofs.Common.{arith, subst, ◌≡◌, ◌^◌}
use Rattle.up_field.specs.Points.{number}
use Rattle.up_field.proofs.Powers.{start, squared, IsPower}
use Rattle.up_field.proofs.power.squares.Goals as goal

pub loop-i-init : goal.loop-i-init
loop-i-init c = record { is = start (number c.args.a) }

pub loop-i-preserved : goal.loop-i-preserved
loop-i-preserved c = record {
  is = squared (number c.square-r.result) (number c.loop-i.r) (number c.args.a) c.loop-i.i c.square-r.ensures c.loop-i.invariant.is;
}

pub returns : goal.returns
returns c =
    let e : c.loop-i.i ≡ c.args.n = omega (arith, c.loop-i-test.false, c.loop-i.auto.i-end) in
    subst (λ n. IsPower (number c.loop-i.r) (number c.args.a) (2 ^ n)) e c.loop-i.invariant.is
