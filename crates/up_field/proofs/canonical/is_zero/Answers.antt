use Rattle.std.proofs.Common.{◌≡◌, ◌+◌, arith}
use Rattle.up_field.proofs.Tests.{same_tests}
use Rattle.up_field.proofs.canonical.is_zero.Goals as goal

pub returns : goal.returns
returns c =
    same_tests _ _ _ _
    (λ (e : c.canonical-c.result.a + c.canonical-c.result.b + c.canonical-c.result.c + c.canonical-c.result.d ≡ 0). omega (arith, e, c.canonical-c.ensures))
    (λ e. omega (arith, e, c.canonical-c.ensures))
