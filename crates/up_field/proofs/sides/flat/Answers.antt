use Rattle.std.proofs.Common.{◌*◌, refl}
use Rattle.up_field.specs.Points.{number}
use Rattle.up_field.proofs.sides.flat.Goals as goal

pub returns : goal.returns
returns c = λ m h.
    let r = h.each (number c.mul.result) (number c.mul-2.result) (number c.mul-3.result) (number c.args.s.e * number c.args.s.h) c.mul.ensures c.mul-2.ensures c.mul-3.ensures refl in
    record { point = r.point; whole = r.whole; x_is = r.x_is; y_is = r.y_is; t_is = refl }
