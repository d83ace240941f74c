use Rattle.std.proofs.Common.{◌≡◌, take, map}
use Rattle.up_plan.specs.Planning.{resulting as resulting_of}
use Rattle.up_plan.proofs.resulting.resulting_set.Given as goal

abbrev pub invariant-loop-e : goal.invariant-loop-e
invariant-loop-e l = l.set.items ≡ resulting_of l.images (map (λ i. i.now) l.items) (take l.e-index l.fitted)
