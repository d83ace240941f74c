use Rattle.std.proofs.Common.{◌≡◌, List, ap, map, subst, ◌∙◌}
use Rattle.std.specs.Prelude.{IfOk}
use Rattle.std.specs.FinMap as table
use Rattle.std.proofs.lemmas.Result.{IfOk-weaker}
use Rattle.up_canon.specs.Names.{first_repeated}
use Rattle.up_plan.specs.declared.assigned.Fitted.{Fitted}
use Rattle.up_plan.specs.declared.assigned.Plan.{Plan}
use Rattle.up_plan.specs.ByFile.{resulting_at}
use Rattle.up_plan.specs.Planning.{plan_from, resulting}
use Rattle.up_machine.specs.ManifestRows.{fitted_in, plan_by_rows}
use Rattle.up_machine.proofs.DirectorTargets.{planned_once}
use Rattle.up_machine.proofs.acceptance.plan_for.Goals as goal

pub returns-clause-planned : goal.returns-clause-planned
unfolding plan_by_rows
returns-clause-planned c = λ named.
    subst (λ (fitted : List Fitted). IfOk c.plan_over.result (λ p. p ≡ plan_from (resulting (table.values c.args.images.now) (map (λ i. i.now) c.args.items.now) fitted)))
    (c.as_slice-2.ensures.value ∙ c.in_ok-fitted.ensures ∙ ap (fitted_in c.args.reports.now) c.as_slice.ensures) (c.plan_over.ensures.planned named)

pub returns-clause-once : goal.returns-clause-once
returns-clause-once c =
    let items = map (λ i. i.now) c.args.items.now in
    let fitted = c.as_slice-2.ensures.value ∙ c.in_ok-fitted.ensures ∙ ap (fitted_in c.args.reports.now) c.as_slice.ensures in
    IfOk-weaker c.plan_over.result _ _
    (λ p same. ap (λ (q : Plan). first_repeated (map (λ a. a.ecu) q.assigned)) (same ∙ ap (λ fitted. plan_from (resulting_at c.args.images.now items fitted)) fitted)
    ∙ planned_once c.args.images.now items c.args.rows.now c.args.reports.now c.requires) c.plan_over.ensures.looked_up
