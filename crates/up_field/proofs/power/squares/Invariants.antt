use Rattle.std.proofs.Common.{◌^◌}
use Rattle.up_field.specs.Points.{number}
use Rattle.up_field.specs.Powers.{IsPower}
use Rattle.up_field.proofs.power.squares.Given as goal

abbrev pub invariant-loop-i : goal.invariant-loop-i
invariant-loop-i l = record {
  is : IsPower (number l.r) (number l.fn.a) (2 ^ l.i);
}
