use Rattle.std.proofs.Common.{◌≡◌, ℕ, ◌+◌, ◌*◌, ◌/◌, ◌^◌, ◌%◌, ◌<◌, arith, ◌∙◌}
use Rattle.up_curve.specs.Field.{p}
use Rattle.up_field.specs.Points.{number}
use Rattle.up_field.proofs.canonical.canonical.Goals as goal

once : (n q : ℕ) → n < 2 * p → q ≡ (n + 19) / 2 ^ 255 → (n + 19 * q) % 2 ^ 255 ≡ n % p
once n q h e = omega (arith, h, e)

pub returns : goal.returns
returns c =
    c.less.ensures ∙ once (number c.folded-b.result) c.quotient.result (omega arith) c.quotient.ensures.value
    ∙ (let e : number c.folded-b.result % p ≡ number c.args.a % p = omega (arith, c.folded-b.ensures.value) in e)
