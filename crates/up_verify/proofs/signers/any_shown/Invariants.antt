use Rattle.std.proofs.Common.{◌≡◌, drop}
use Rattle.std.specs.Prelude.{◌&&◌, bytes_eq}
use Rattle.std.specs.List.{list_any}
use Rattle.up_verify.specs.Verifiers.{is_of}
use Rattle.up_verify.proofs.signers.any_shown.Given as goal

-- it depends on those that are left
abbrev pub invariant-loop-own : goal.invariant-loop-own
invariant-loop-own g l = list_any (λ p. is_of l.key p && bytes_eq ((g.K.Scheme.rules l.scheme).shown p) l.key.shown) l.held ≡ list_any (λ p. is_of l.key p && bytes_eq ((g.K.Scheme.rules l.scheme).shown p) l.key.shown) (drop l.own-index l.held)
