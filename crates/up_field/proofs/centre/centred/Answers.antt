use Rattle.std.proofs.Common.{◌≡◌, ℕ, ◌+◌, ◌*◌, ◌-◌, ◌^◌, ◌%◌, ap, ◌∙◌, arith}
use Rattle.std.proofs.Math.Nat.{mod-mod}
use Rattle.up_curve.proofs.Ring.{mod_plus}
use Rattle.up_curve.specs.Curve.{order}
use Rattle.up_curve.specs.LittleEndian.{number}
use Rattle.up_field.specs.Limbs.{limbs}
use Rattle.up_field.specs.Digits.{written}
use Rattle.up_field.proofs.centre.centred.Goals as goal

pub halved-requires : goal.halved-requires
halved-requires c = c.reduce.ensures.limit

-- a multiple of the order makes no difference
dropped : (n b : ℕ) → (n + b * order + (2 ^ 255 - 1)) % order ≡ (n + (2 ^ 255 - 1)) % order
dropped n b = omega arith

pub returns-clause-value : goal.returns-clause-value
returns-clause-value c =
    let l : ℕ = limbs c.reduce.result.l0 c.reduce.result.l1 c.reduce.result.l2 c.reduce.result.l3 c.reduce.result.l4 in
    let w : written c.joined-digits.result ≡ number c.args.scalar.now = omega (arith, c.joined-digits.ensures.value, c.from_bytes-n.ensures.value, c.zero.ensures.value) in
    ap (λ z. z % order) c.halved.ensures.value
    ∙ dropped l (1 - c.reduce.result.l0 % 2)
    ∙ ap (λ z. (z + (2 ^ 255 - 1)) % order) (c.reduce.ensures.value ∙ ap (λ z. z % order) w)
    ∙ mod_plus order (number c.args.scalar.now % order) (number c.args.scalar.now) (2 ^ 255 - 1) (2 ^ 255 - 1) (mod-mod (number c.args.scalar.now) order) (let e : (2 ^ 255 - 1) % order ≡ (2 ^ 255 - 1) % order = omega arith in e)
