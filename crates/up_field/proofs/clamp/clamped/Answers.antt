use Rattle.std.proofs.Common.{ap, ◌∙◌, arith}
use Rattle.up_field.specs.Limbs.{limbs}
use Rattle.up_curve.proofs.Decode.{number, number-bytes}
use Rattle.up_curve.specs.Signatures.{clamped}
use Rattle.up_field.proofs.clamp.clamped.Goals as goal

pub returns : goal.returns
returns c =
    ap number c.to_bytes.ensures ∙ number-bytes 32 (limbs c.cleared-m.result.l0 c.cleared-m.result.l1 c.cleared-m.result.l2 c.cleared-m.result.l3 c.cleared-m.result.l4) (omega (arith, c.cleared-m.ensures.limit.l4))
    ∙ c.cleared-m.ensures.value ∙ ap clamped c.from_bytes-n.ensures.value
