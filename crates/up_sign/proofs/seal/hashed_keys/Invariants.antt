use Rattle.std.proofs.Common.{◌≡◌, take, map}
use Rattle.up_sign.specs.Envelopes.{key_block}
use Rattle.up_sign.proofs.seal.hashed_keys.Given as goal

abbrev pub invariant-loop-secret : goal.invariant-loop-secret
invariant-loop-secret g l = l.keys.items ≡ map (key_block (g.K.Scheme.rules l.scheme)) (take l.secret-index l.secrets)
