use Rattle.std.proofs.Common.{◌≡◌, List, ℕ, Bool, drop}
use Rattle.std.specs.Prelude.{◌&&◌}
use Rattle.std.specs.List.{list_any}
use Rattle.up_sign.specs.Envelopes.{is_satisfied}
use Rattle.up_verify.specs.Verifiers.{is_of}
use Rattle.up_verify.proofs.signers.any_signs.Given as goal

-- it depends on those that are left
abbrev pub invariant-loop-own : goal.invariant-loop-own
invariant-loop-own g l = list_any (λ p. is_of l.key p && is_satisfied (g.K.Scheme.rules l.scheme) l.envelope p) l.held ≡ list_any (λ p. is_of l.key p && is_satisfied (g.K.Scheme.rules l.scheme) l.envelope p) (drop l.own-index l.held)
