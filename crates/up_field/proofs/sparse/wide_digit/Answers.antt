use Rattle.std.proofs.Common.{◌+◌, ◌*◌, ◌/◌, ◌%◌, ◌^◌, arith}
use Rattle.up_field.proofs.Nearly.{near_wide}
use Rattle.up_field.proofs.sparse.wide_digit.Goals as goal

pub returns-clause-cut : goal.returns-clause-cut
returns-clause-cut c =
    let n = c.args.n in
    record {
      value = omega arith;
      carry = omega arith;
      near = near_wide _ (n.a / 256 + 2 ^ 56 * n.b + 2 ^ 120 * n.c + 2 ^ 184 * n.d) (n.a % 256 + c.args.carry) _ (omega arith) (omega arith) (omega arith);
    }
