use Rattle.std.proofs.Common.{◌+◌, ◌*◌, ◌/◌, ◌%◌, ◌^◌, arith}
use Rattle.up_field.proofs.Nearly.{near_narrow}
use Rattle.up_field.proofs.sparse.narrow_digit.Goals as goal

pub returns-clause-cut : goal.returns-clause-cut
returns-clause-cut c =
    let n = c.args.n in
    record {
      value = omega arith;
      carry = omega arith;
      near = near_narrow _ (n.a / 32 + 2 ^ 59 * n.b + 2 ^ 123 * n.c + 2 ^ 187 * n.d) (n.a % 32 + c.args.carry) _ (omega arith) (omega arith) (omega arith);
    }
