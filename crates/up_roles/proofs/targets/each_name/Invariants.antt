use Rattle.std.proofs.Common.{◌≡◌, ◌++◌, drop, Ok}
use Rattle.std.specs.Prelude.{codes}
use Rattle.up_canon.specs.Members.{values_of}
use Rattle.up_canon.specs.Readers.{ident_of}
use Rattle.up_canon.specs.Steps.{each, and_then}
use Rattle.up_roles.proofs.targets.each_name.Given as goal

abbrev pub invariant-loop-value : goal.invariant-loop-value
invariant-loop-value l = each (ident_of (codes "targets")) (values_of l.values) ≡ and_then (each (ident_of (codes "targets")) (values_of (drop l.value-index l.values))) (λ rest. Ok (l.names.items ++ rest))
