use Rattle.std.proofs.Common.{◌≡◌, take}
use Rattle.std.specs.Prelude.{◌==◌, bytes_eq}
use Rattle.up_sign.proofs.hmac_sha256.are_equal.Given as goal

abbrev pub invariant-loop-i : goal.invariant-loop-i
invariant-loop-i l = (l.difference == 0) ≡ bytes_eq (take l.i l.one) (take l.i l.other)
