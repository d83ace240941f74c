use Rattle.std.proofs.Common.{◌≡◌, take}
use Rattle.std.specs.Prelude.{◌==◌, bytes_eq}
use Rattle.up_ed25519.proofs.signer_keys.are_same.Given as goal

abbrev pub invariant-loop-i : goal.invariant-loop-i
invariant-loop-i l = (l.difference == 0) ≡ bytes_eq (take l.i l.one) (take l.i l.other)
