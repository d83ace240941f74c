use Rattle.std.proofs.Common.{◌≡◌, true, false, refl}
use Rattle.std.specs.Prelude.{flat_map}
use Rattle.up_plan.specs.Running.{items_at}
use Rattle.up_plan.proofs.Nothing.{none_read}
use Rattle.up_plan.proofs.running.push_for_all.Goals as goal

pub returns-in_err-push_at-clause-none : goal.returns-in_err-push_at-clause-none
returns-in_err-push_at-clause-none c = λ none.
    let no : false ≡ true = c.in_err-push_at.ensures.none (none_read (flat_map (items_at c.args.campaigns.now)) (items_at c.args.campaigns.now) (λ x xs. refl) c.args.places.now c.loop-place.place-index _ c.loop-place-test.true none) in
    cc
