use Rattle.std.proofs.Common.{◌≡◌, ℕ, ◌+◌, ◌%◌, ◌∙◌, arith}
use Rattle.up_curve.specs.Field.{p}
use Rattle.up_field.specs.Points.{number}
use Rattle.up_field.proofs.Tests.{same_tests}
use Rattle.up_field.proofs.canonical.are_same.Goals as goal

zero_to_same : (r a b : ℕ) → (r + b) % p ≡ a % p → r % p ≡ 0 → a % p ≡ b % p
zero_to_same r a b h e = omega (arith, h, e)

same_to_zero : (r a b : ℕ) → (r + b) % p ≡ a % p → a % p ≡ b % p → r % p ≡ 0
same_to_zero r a b h e = omega (arith, h, e)

pub returns : goal.returns
returns c =
    c.is_zero.ensures ∙ same_tests _ _ _ _
    (zero_to_same (number c.sub.result) (number c.args.a) (number c.args.b) c.sub.ensures)
    (same_to_zero (number c.sub.result) (number c.args.a) (number c.args.b) c.sub.ensures)
