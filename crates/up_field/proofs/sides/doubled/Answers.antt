use Rattle.std.proofs.Common.{◌+◌, ◌*◌, refl}
use Rattle.up_field.specs.Points.{number}
use Rattle.up_field.proofs.Doubling.{twice_represents}
use Rattle.up_field.proofs.sides.doubled.Goals as goal

pub returns : goal.returns
returns c = λ m h. record {
  each = λ rx ry rz rt hx hy hz ht.
      twice_represents (number c.args.a.x) (number c.args.a.y) (number c.args.a.z) (m.x * m.y * number c.args.a.z) m h
      (number c.square-s.result) (number c.square-u.result) (number c.square-z.result) (number c.square-z.result + number c.square-z.result) (number c.add-h.result) (number c.add-n.result) (number c.square-q.result)
      (number c.sub-e.result) (number c.sub-g.result) (number c.twice_and-f.result) rx ry rz rt
      c.square-s.ensures c.square-u.ensures c.square-z.ensures refl c.add-h.ensures c.add-n.ensures c.square-q.ensures c.sub-e.ensures
      c.sub-g.ensures c.twice_and-f.ensures
      hx hy hz ht;
}
