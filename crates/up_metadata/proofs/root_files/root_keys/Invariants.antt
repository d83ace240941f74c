use Rattle.std.proofs.Common.{◌≡◌, take, map}
use Rattle.up_metadata.specs.Files.{root_key}
use Rattle.up_metadata.proofs.root_files.root_keys.Given as goal

abbrev pub invariant-loop-i : goal.invariant-loop-i
invariant-loop-i g l = l.keys.items ≡ map (root_key (g.K.Scheme.rules l.scheme)) (take l.i l.secrets)
