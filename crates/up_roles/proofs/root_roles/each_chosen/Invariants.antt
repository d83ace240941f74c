use Rattle.std.proofs.Common.{◌≡◌, ◌++◌, drop, Ok, vec_len}
use Rattle.up_canon.specs.Members.{values_of}
use Rattle.up_canon.specs.Steps.{each, and_then}
use Rattle.up_roles.specs.Root.{chosen_key}
use Rattle.up_roles.proofs.root_roles.each_chosen.Given as goal

abbrev pub invariant-loop-value : goal.invariant-loop-value
invariant-loop-value l = (each (chosen_key l.fn.keys) (values_of l.values) ≡ and_then (each (chosen_key l.fn.keys) (values_of (drop l.value-index l.values))) (λ rest. Ok (l.chosen.items ++ rest))) × (vec_len l.chosen ≡ l.value-index)
