use Rattle.std.proofs.Common.{◌*◌, refl, ◌∙◌}
use Rattle.up_curve.specs.Field.{p}
use Rattle.up_curve.proofs.Ring.{mod_times}
use Rattle.up_field.specs.Points.{number}
use Rattle.up_field.proofs.sides.cached_sides.Goals as goal

pub returns : goal.returns
returns c = λ m n h k.
    c.summed_sides.ensures m n k.x k.y k.z k.t h k.writes
    (record { plus_is = k.plus_is; minus_is = k.minus_is; t_is = k.t_is })
    (c.mul-z.ensures ∙ mod_times p (number c.args.a.z) (number c.args.a.z) (number c.args.b.z) (2 * k.z) refl k.z_is)
