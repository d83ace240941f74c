use Rattle.std.proofs.Common.{◌≡◌, drop}
use Rattle.std.specs.List.{list_all}
use Rattle.up_verify.specs.Verifiers.{verifier, is_known}
use Rattle.up_verify.proofs.signers.all_known.Given as goal

-- it depends on those that are left
abbrev pub invariant-loop-key : goal.invariant-loop-key
invariant-loop-key g l = list_all (is_known (verifier (g.K.Scheme.rules l.scheme) (g.K.Shows.reading l.scheme) l.held)) l.keys ≡ list_all (is_known (verifier (g.K.Scheme.rules l.scheme) (g.K.Shows.reading l.scheme) l.held)) (drop l.key-index l.keys)
