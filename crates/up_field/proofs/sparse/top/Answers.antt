use Rattle.std.proofs.Common.{ℕ, arith}
use Rattle.up_field.proofs.Scattered.{scattered-end, none-before}
use Rattle.up_field.proofs.sparse.top.Goals as goal

pub loop-i-init : goal.loop-i-init
loop-i-init c = record {
  plus = record { first = scattered-end c.args.x.now.plus (omega arith); second = scattered-end c.args.y.now.plus (omega arith) };
  minus = record { first = scattered-end c.args.x.now.minus (omega arith); second = scattered-end c.args.y.now.minus (omega arith) };
}

pub loop-i-preserved : goal.loop-i-preserved
loop-i-preserved c =
    let i : ℕ = c.loop-i.i in
    record {
      plus = record {
        first = none-before c.args.x.now.plus (omega arith) i (omega arith) c.loop-i.invariant.plus.first (omega (arith, c.if-x-j-ne0.false));
        second = none-before c.args.y.now.plus (omega arith) i (omega arith) c.loop-i.invariant.plus.second (omega (arith, c.if-y-j-ne0.false));
      };
      minus = record {
        first = none-before c.args.x.now.minus (omega arith) i (omega arith) c.loop-i.invariant.minus.first (omega (arith, c.if-x-j-ne0-2.false));
        second = none-before c.args.y.now.minus (omega arith) i (omega arith) c.loop-i.invariant.minus.second (omega (arith, c.if-y-j-ne0-2.false));
      };
    }
