use Rattle.std.proofs.Common.{◌≡◌, take}
use Rattle.up_brought.proofs.held_keys.copied.Given as goal

abbrev pub invariant-loop-secret : goal.invariant-loop-secret
invariant-loop-secret l = l.keys.items ≡ take l.secret-index l.secrets
