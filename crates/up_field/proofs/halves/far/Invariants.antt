use Rattle.std.proofs.Common.{◌^◌}
use Rattle.up_field.specs.Points.{Writes}
use Rattle.up_field.specs.Sides.{Lies}
use Rattle.up_curve.specs.Curve.{Point, multiple}
use Rattle.up_field.proofs.halves.far.Given as goal

abbrev pub invariant-loop-i : goal.invariant-loop-i
invariant-loop-i l = record {
  lies : (m : Point) → Writes l.fn.a m → Lies l.r (multiple (2 ^ l.i) m);
}
