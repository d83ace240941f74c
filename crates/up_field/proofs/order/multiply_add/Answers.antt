use Rattle.std.proofs.Common.{ℕ, ◌+◌, ◌*◌, ◌%◌, ap, ap₂, ◌∙◌}
use Rattle.up_curve.specs.Curve.{order}
use Rattle.up_curve.proofs.Decode.{bytes}
use Rattle.up_field.proofs.order.multiply_add.Goals as goal

pub returns : goal.returns
returns c =
    c.to_bytes.ensures
    ∙ ap (bytes 32) (
    c.reduce.ensures.value
    ∙ ap (λ z. z % order) (c.product-digits.ensures.value ∙ ap₂ (λ (x y : ℕ). x + y) c.from_bytes-n.ensures.value (ap₂ (λ (x y : ℕ). x * y) c.from_bytes-c.ensures.value c.from_bytes-s.ensures.value))
    )
