use Rattle.std.proofs.Common.{take, ap, ◌∙◌}
use Rattle.up_curve.proofs.Decode.{number}
use Rattle.up_curve.proofs.Signatures.{public_of, scalar_of}
use Rattle.up_curve.specs.Signatures.{clamped}
use Rattle.up_curve.specs.Curve.{base, multiple}
use Rattle.up_curve.proofs.Decode.{encode}
use Rattle.up_ed25519.proofs.signing.public_of.Goals as goal

pub returns : goal.returns
unfolding public_of scalar_of
returns c =
    c.multiple_of_base.ensures
    ∙ ap (λ z. encode (multiple z base)) (c.scalar-a.ensures ∙ ap (λ z. clamped (number (take 32 z))) c.expanded-hash.ensures)
