use Rattle.std.proofs.Common.{ap, ◌∙◌}
use Rattle.up_curve.specs.Curve.{neutral}
use Rattle.up_curve.specs.Signatures.{is_same_point}
use Rattle.up_ed25519.proofs.PublicKeys.{add_nothing}
use Rattle.up_ed25519.proofs.public_keys.is_neutral.Goals as goal

pub returns : goal.returns
returns c = λ m h. c.are_opposite.ensures m neutral h c.neutral.ensures ∙ ap (λ q. is_same_point q neutral) (add_nothing m h.point)
