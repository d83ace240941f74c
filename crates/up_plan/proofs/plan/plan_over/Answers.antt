use Rattle.std.proofs.Common.{◌≡◌, List, map, subst, ◌∙◌}
use Rattle.std.specs.Prelude.{IfOk}
use Rattle.up_plan.specs.Planning.{Resulting, plan_from}
use Rattle.up_plan.proofs.ByFile.{resulting_found}
use Rattle.up_plan.proofs.plan.plan_over.Goals as goal

pub returns-clause-planned : goal.returns-clause-planned
returns-clause-planned c = λ named.
    subst (λ (set : List Resulting). IfOk c.plan_for.result (λ p. p ≡ plan_from set))
    (c.as_slice.ensures.value ∙ c.in_ok-set.ensures ∙ resulting_found c.args.images.now named (map (λ i. i.now) c.args.items.now) c.args.fitted.now)
    c.plan_for.ensures.value
