use Rattle.std.proofs.Common.{◌-◌}
use Rattle.up_field.specs.Sparse.{EndsAt}
use Rattle.up_field.proofs.sparse.top.Given as goal

abbrev pub invariant-loop-i : goal.invariant-loop-i
invariant-loop-i l = record {
  plus : EndsAt (258 - l.i) l.fn.x.plus l.fn.y.plus;
  minus : EndsAt (258 - l.i) l.fn.x.minus l.fn.y.minus;
}
