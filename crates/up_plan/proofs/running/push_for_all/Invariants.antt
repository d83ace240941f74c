use Rattle.std.proofs.Common.{◌≡◌, ◌++◌, take, map}
use Rattle.std.specs.Prelude.{flat_map}
use Rattle.up_plan.specs.Running.{items_at}
use Rattle.up_plan.proofs.running.push_for_all.Given as goal

abbrev pub invariant-loop-place : goal.invariant-loop-place
invariant-loop-place l = map (λ i. i.now) l.items.items ≡ map (λ i. i.now) l.fn.items.items ++ flat_map (items_at l.campaigns) (take l.place-index l.places)
