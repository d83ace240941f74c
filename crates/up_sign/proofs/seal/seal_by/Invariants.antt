use Rattle.std.proofs.Common.{◌≡◌, take, map}
use Rattle.up_sign.specs.Envelopes.{signature_of}
use Rattle.up_sign.proofs.seal.seal_by.Given as goal

-- the secrets so far have signed
abbrev pub invariant-loop-i : goal.invariant-loop-i
invariant-loop-i g l = l.signatures.items ≡ map (signature_of (g.K.Scheme.rules l.scheme) l.signed.bytes.items) (take l.i l.secrets)
