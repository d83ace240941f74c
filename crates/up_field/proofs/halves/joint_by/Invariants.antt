use Rattle.up_curve.specs.Curve.{Point, base}
use Rattle.up_curve.specs.Points.{IsPoint}
use Rattle.up_curve.proofs.Curve.{base_point}
use Rattle.up_field.specs.Tables.{AreMultiples}
use Rattle.up_field.proofs.Pairs.{LiesBy}
use Rattle.up_field.proofs.Scattered.{halves}
use Rattle.up_field.proofs.halves.joint_by.Given as goal

abbrev pub invariant-loop-i : goal.invariant-loop-i
invariant-loop-i l = record {
  lies : (m : Point) → (h : IsPoint m) → AreMultiples l.fn.t m
      → LiesBy m base h base_point l.r (halves l.x.plus l.i) (halves l.y.plus l.i) (halves l.x.minus l.i) (halves l.y.minus l.i);
}
