use Rattle.std.proofs.Common.{◌≡◌, take, map}
use Rattle.up_plan.specs.ByFile.{resulting_at}
use Rattle.up_plan.proofs.resulting.resulting_over.Given as goal

abbrev pub invariant-loop-e : goal.invariant-loop-e
invariant-loop-e l = l.set.items ≡ resulting_at l.images (map (λ i. i.now) l.items) (take l.e-index l.fitted)
