use Rattle.std.proofs.Common.{◌≡◌, take, map}
use Rattle.up_sign.specs.Envelopes.{identifier}
use Rattle.up_metadata.proofs.key_checks.has_distinct_identifiers.Given as goal

abbrev pub invariant-loop-i : goal.invariant-loop-i
invariant-loop-i g l = l.names.items ≡ map (identifier (g.K.Scheme.rules l.scheme)) (take l.i l.keys)
