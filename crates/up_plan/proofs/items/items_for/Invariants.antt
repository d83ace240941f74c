use Rattle.std.proofs.Common.{◌≡◌, take, map}
use Rattle.up_plan.specs.Planning.{items_for as items_of}
use Rattle.up_plan.proofs.items.items_for.Given as goal

abbrev pub invariant-loop-campaign : goal.invariant-loop-campaign
invariant-loop-campaign l = map (λ i. i.now) l.items.items ≡ items_of (take l.campaign-index l.campaigns) l.vehicle
