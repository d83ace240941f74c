use Rattle.std.proofs.Common.{◌≡◌, ◌++◌, take, map}
use Rattle.up_plan.proofs.items.push_items.Given as goal

abbrev pub invariant-loop-item : goal.invariant-loop-item
invariant-loop-item l = map (λ i. i.now) l.items.items ≡ map (λ i. i.now) l.fn.items.items ++ take l.item-index l.more
