use Rattle.std.proofs.Common.{◌≡◌, ◌+◌, ◌*◌, ◌^◌, ◌%◌, ◌∙◌, ap, ap₂}
use Rattle.up_curve.specs.Field.{p}
use Rattle.up_field.specs.Points.{number}
use Rattle.up_field.proofs.Steps.{inverse_is, encode, bytes}
use Rattle.up_field.proofs.encode.encode.Goals as goal

pub returns : goal.returns
unfolding encode
returns c = λ m h.
    let j : (number c.args.q.z * number c.inverse-i.result) % p ≡ 1 = inverse_is (number c.inverse-i.result) (number c.args.q.z) h.whole c.inverse-i.ensures in
    let x : number c.quotient-x.result ≡ m.x = c.quotient-x.ensures.value m.x (number c.args.q.z) h.point.x_below h.x_is j in
    let y : number c.quotient-y.result ≡ m.y = c.quotient-y.ensures.value m.y (number c.args.q.z) h.point.y_below h.y_is j in
    c.to_bytes.ensures ∙ ap (bytes 32) (c.in_limbs.ensures.value ∙ c.with_bit.ensures ∙ ap₂ (λ u v. u + 2 ^ 255 * (v % 2)) y x)
