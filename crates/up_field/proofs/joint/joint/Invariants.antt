use Rattle.std.proofs.Common.{◌-◌, drop}
use Rattle.up_field.specs.Points.{Writes}
use Rattle.up_field.specs.Sparse.{scattered}
use Rattle.up_curve.specs.Curve.{Point, base}
use Rattle.up_curve.proofs.Curve.{base_point}
use Rattle.up_field.proofs.Pairs.{LiesBy}
use Rattle.up_field.proofs.joint.joint.Given as goal

abbrev pub invariant-loop-i : goal.invariant-loop-i
invariant-loop-i l = record {
  lies : (m : Point) → (h : Writes l.fn.a m) → LiesBy m base h.point base_point l.r
      (scattered (drop (l.n - l.i) l.x.plus)) (scattered (drop (l.n - l.i) l.y.plus))
      (scattered (drop (l.n - l.i) l.x.minus)) (scattered (drop (l.n - l.i) l.y.minus));
}
