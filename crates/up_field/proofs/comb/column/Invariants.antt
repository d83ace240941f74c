use Rattle.std.proofs.Common.{ℕ, ◌+◌, ◌*◌}
use Rattle.up_field.specs.Comb.{Balances, column, eights, teeth}
use Rattle.up_field.proofs.comb.column.Given as goal

abbrev pub invariant-loop-k : goal.invariant-loop-k
invariant-loop-k l = record {
  balances : (s n : ℕ) → Balances l.fn.r s n → Balances l.q (s + teeth * eights l.k) (n + 2 * column l.k l.i l.c);
}
