use Rattle.std.proofs.Common.{◌≡◌, ℕ, ◌+◌, ap, ap₂, ◌∙◌, arith}
use Rattle.up_field.specs.Limbs.{limbs}
use Rattle.up_curve.proofs.Decode.{number, number-bytes}
use Rattle.up_field.proofs.order.negated.Goals as goal

pub returns : goal.returns
returns c =
    let m : ℕ = limbs c.rest-m.result.l0 c.rest-m.result.l1 c.rest-m.result.l2 c.rest-m.result.l3 c.rest-m.result.l4 in
    ap₂ (λ x y. x + y) (ap number c.to_bytes.ensures ∙ number-bytes 32 m (omega (arith, c.rest-m.ensures.value))) (let e : number c.args.bytes.now ≡ limbs c.from_bytes-n.result.l0 c.from_bytes-n.result.l1 c.from_bytes-n.result.l2 c.from_bytes-n.result.l3 c.from_bytes-n.result.l4 = omega (arith, c.from_bytes-n.ensures.value) in e)
    ∙ c.rest-m.ensures.value
