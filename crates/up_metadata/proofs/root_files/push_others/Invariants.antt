use Rattle.std.proofs.Common.{◌≡◌, ◌++◌, map, not, filter, drop, bytes_eq}
use Rattle.std.specs.List.{list_any}
use Rattle.up_sign.specs.Envelopes.{key_block}
use Rattle.up_metadata.proofs.root_files.push_others.Given as goal

abbrev pub invariant-loop-secret : goal.invariant-loop-secret
invariant-loop-secret g l = record {
  secrets : l.fn.signers.secrets.items ++ filter (λ secret. not (list_any (bytes_eq secret) l.own)) l.old
      ≡ l.signers.secrets.items ++ filter (λ secret. not (list_any (bytes_eq secret) l.own)) (drop l.secret-index l.old);
  hashed : l.signers.hashed.items ≡ map (key_block (g.K.Scheme.rules l.scheme)) l.signers.secrets.items;
}
