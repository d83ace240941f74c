use Rattle.std.proofs.Common.{◌≡◌, take, map}
use Rattle.up_plan.specs.Offers.{offers_of}
use Rattle.up_plan.proofs.offers.offers.Given as goal

abbrev pub invariant-loop-item : goal.invariant-loop-item
invariant-loop-item l = l.offers.items ≡ offers_of l.images (map (λ i. i.now) (take l.item-index l.items))
