use Rattle.std.proofs.Common.{refl, lit<, subst}
use Rattle.up_curve.proofs.Decode.{number}
use Rattle.up_field.specs.Points.{Writes}
use Rattle.up_ed25519.proofs.PublicKeys.{by_order_alone}
use Rattle.up_ed25519.proofs.public_keys.by_order.Goals as goal

pub negated-requires-clause-below : goal.negated-requires-clause-below
unfolding number
negated-requires-clause-below c = lit< tt

pub returns : goal.returns
unfolding number
returns c = λ m h. subst (λ q. Writes c.joint.result q) (by_order_alone (number c.negated.result) 0 m h.point refl c.negated.ensures) (c.joint.ensures m h)
