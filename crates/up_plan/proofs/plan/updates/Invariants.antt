use Rattle.std.proofs.Common.{◌≡◌, take}
use Rattle.up_plan.specs.Planning.{updates as updates_of}
use Rattle.up_plan.proofs.plan.updates.Given as goal

abbrev pub invariant-loop-r : goal.invariant-loop-r
invariant-loop-r l = l.assigned.items ≡ updates_of (take l.r-index l.set)
