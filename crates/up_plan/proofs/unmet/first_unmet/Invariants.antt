use Rattle.std.proofs.Common.{◌≡◌, drop}
use Rattle.up_canon.specs.Steps.{first_or_none}
use Rattle.std.specs.Prelude.{flat_map}
use Rattle.up_plan.specs.Planning.{unmet, unmet_by as unmet_of}
use Rattle.up_plan.proofs.unmet.first_unmet.Given as goal

abbrev pub invariant-loop-r : goal.invariant-loop-r
invariant-loop-r l = first_or_none (flat_map (λ r. unmet_of l.set r.ecu r.image) (drop l.r-index l.set)) ≡ first_or_none (unmet l.set)
