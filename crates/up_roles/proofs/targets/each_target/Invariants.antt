use Rattle.std.proofs.Common.{◌≡◌, ◌++◌, drop, Ok}
use Rattle.up_canon.specs.Members.{values_of}
use Rattle.up_canon.specs.Steps.{each, and_then}
use Rattle.up_roles.specs.Targets.{target_of}
use Rattle.up_roles.proofs.targets.each_target.Given as goal

abbrev pub invariant-loop-value : goal.invariant-loop-value
invariant-loop-value l = each (target_of l.fn.repository) (values_of l.values) ≡ and_then (each (target_of l.fn.repository) (values_of (drop l.value-index l.values))) (λ rest. Ok (l.targets.items ++ rest))
