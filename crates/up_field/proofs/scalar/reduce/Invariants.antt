use Rattle.std.proofs.Common.{◌≡◌, ◌-◌, ◌%◌, drop}
use Rattle.up_field.specs.Limbs.{number_of, IsScalar}
use Rattle.up_field.specs.Digits.{written}
use Rattle.up_curve.specs.Curve.{order}
use Rattle.up_field.proofs.scalar.reduce.Given as goal

abbrev pub invariant-loop-i : goal.invariant-loop-i
invariant-loop-i l = record {
  value : number_of l.r ≡ written (drop (10 - l.i) l.digits) % order;
  limit : IsScalar l.r;
}
