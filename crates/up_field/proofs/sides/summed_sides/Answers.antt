use Rattle.std.proofs.Common.{◌*◌, refl}
use Rattle.up_field.specs.Points.{number}
use Rattle.up_field.proofs.Sums.{cached_represents}
use Rattle.up_field.proofs.sides.summed_sides.Goals as goal

pub returns : goal.returns
returns c = λ m n x2 y2 z2 t2 h k q e. record {
  each = λ rx ry rz rt hx hy hz ht.
      cached_represents (number c.args.a.x) (number c.args.a.y) (number c.args.a.z) (number c.args.a.t) x2 y2 z2 t2
      (number c.args.b.plus) (number c.args.b.minus) (2 * z2) (number c.args.b.t)
      (number c.sub-i.result) (number c.add-j.result) (number c.mul-s.result) (number c.mul-u.result) (number c.mul-c.result) (number c.args.z)
      (number c.sub-e.result) (number c.sub-f.result) (number c.add-g.result) (number c.add-h.result)
      rx ry rz rt
      m n h k q.plus_is q.minus_is refl q.t_is
      c.sub-i.ensures c.add-j.ensures c.mul-s.ensures c.mul-u.ensures c.mul-c.ensures e
      c.sub-e.ensures c.sub-f.ensures c.add-g.ensures c.add-h.ensures
      hx hy hz ht;
}
