use Rattle.std.proofs.Common.{refl}
use Rattle.up_field.proofs.sides.without_t.Goals as goal

pub returns : goal.returns
returns c = λ m h. record { point = h.point; whole = h.whole; x_is = h.x_is; y_is = h.y_is; t_is = refl }
