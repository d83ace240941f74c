use Rattle.std.proofs.Common.{◌≡◌, true, false, refl}
use Rattle.std.specs.Prelude.{flat_map}
use Rattle.up_plan.specs.Running.{items_at}
use Rattle.up_plan.proofs.Nothing.{none_read}
use Rattle.up_plan.proofs.running.push_named.Goals as goal

pub returns-in_err-push_at-clause-none : goal.returns-in_err-push_at-clause-none
returns-in_err-push_at-clause-none c = λ none.
    let no : false ≡ true = c.in_err-push_at.ensures.none (none_read (flat_map (λ at. items_at c.args.campaigns.now at.campaign)) (λ at. items_at c.args.campaigns.now at.campaign) (λ x xs. refl) c.args.names.now c.loop-at.at-index _ c.loop-at-test.true none) in
    cc
