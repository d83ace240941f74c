use Rattle.std.proofs.Common.{◌≡◌, take, map}
use Rattle.up_plan.specs.ByFile.{offers_at}
use Rattle.up_plan.proofs.offers.offers_over.Given as goal

abbrev pub invariant-loop-item : goal.invariant-loop-item
invariant-loop-item l = l.offers.items ≡ offers_at l.images (map (λ i. i.now) (take l.item-index l.items))
