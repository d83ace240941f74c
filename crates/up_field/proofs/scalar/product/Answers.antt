use Rattle.std.proofs.Common.{arith}
use Rattle.up_field.proofs.Digits.{written, ten_below}
use Rattle.up_field.proofs.scalar.product.Goals as goal

pub returns-clause-value : goal.returns-clause-value
unfolding written
returns-clause-value c = omega arith

pub returns-clause-limit : goal.returns-clause-limit
returns-clause-limit c = record {
  each = ten_below _ _ _ _ _ _ _ _ _ _ (omega arith) (omega arith) (omega arith) (omega arith) (omega arith) (omega arith) (omega arith) (omega arith) (omega arith) (omega arith);
}
