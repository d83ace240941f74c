use Rattle.std.proofs.Common.{◌≡◌, ◌++◌, take, map}
use Rattle.std.specs.Prelude.{flat_map}
use Rattle.up_plan.specs.Running.{items_at}
use Rattle.up_plan.proofs.running.push_named.Given as goal

abbrev pub invariant-loop-at : goal.invariant-loop-at
invariant-loop-at l = map (λ i. i.now) l.items.items ≡ map (λ i. i.now) l.fn.items.items ++ flat_map (λ at. items_at l.campaigns at.campaign) (take l.at-index l.names)
