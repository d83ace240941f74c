use Rattle.std.proofs.Common.{◌≡◌, ◌++◌, drop, Ok}
use Rattle.up_canon.specs.Members.{values_of}
use Rattle.up_canon.specs.Steps.{each, and_then}
use Rattle.up_canon.proofs.each.each_of.Given as goal

abbrev pub invariant-loop-value : goal.invariant-loop-value
invariant-loop-value g l = each (g.R.Reading.meaning l.place) (values_of l.values) ≡ and_then (each (g.R.Reading.meaning l.place) (values_of (drop l.value-index l.values))) (λ rest. Ok (l.read.items ++ rest))
