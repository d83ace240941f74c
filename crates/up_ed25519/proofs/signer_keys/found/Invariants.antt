use Rattle.std.proofs.Common.{◌≡◌}
use Rattle.std.specs.Prelude.{IfSome}
use Rattle.up_curve.specs.Signatures.{public_of}
use Rattle.up_ed25519.proofs.signer_keys.found.Given as goal

abbrev pub invariant-loop-slot : goal.invariant-loop-slot
invariant-loop-slot l = IfSome l.public (λ p. p ≡ public_of l.fn.secret)
