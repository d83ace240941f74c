use Rattle.std.proofs.Common.{rules, ◌≡◌, ◌&&◌, true, false, ap, ◌∙◌}
use Rattle.up_plan.specs.Planning.{reaches}
use Rattle.up_plan.proofs.Nothing.{none_passing}
use Rattle.up_plan.proofs.items.items_for.Goals as goal

pub returns-in_err-push_items-clause-none : goal.returns-in_err-push_items-clause-none
returns-in_err-push_items-clause-none c = λ none.
    let d = c.campaign-item.result in
    let v = c.args.vehicle.now in
    let pass : (d.running && reaches v d.reach) ≡ true = search rules in
    let part = none_passing (λ e. e.items) (λ e. e.running && reaches v e.reach) c.args.campaigns.now c.loop-campaign.campaign-index d c.loop-campaign-test.true c.campaign-item.is pass none in
    let no : false ≡ true = c.in_err-push_items.ensures.none (c.as_slice.ensures ∙ ap (λ e. e.items) c.campaign.view_is ∙ part) in
    cc
