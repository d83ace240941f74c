use Rattle.std.proofs.Common.{◌≡◌, ◌++◌, Ok}
use Rattle.up_canon.specs.Steps.{each, and_then}
use Rattle.up_roles.specs.Root.{entries_of, key_of}
use Rattle.up_roles.proofs.root_keys.each_key.Given as goal

abbrev pub invariant-loop-keyid : goal.invariant-loop-keyid
invariant-loop-keyid l = each key_of (entries_of l.fn.map.entries) ≡ and_then (each key_of (entries_of l.keyid-iterator)) (λ rest. Ok (l.keys.items ++ rest))
