use Rattle.std.proofs.Common.{rules, ◌≡◌, true, false, Some, refl, sym, ap, ◌∙◌}
use Rattle.std.specs.Prelude.{flat_map}
use Rattle.up_plan.specs.Planning.{Resulting, unmet_by as unmet_of}
use Rattle.up_plan.proofs.Nothing.{none_at}
use Rattle.up_plan.proofs.unmet.first_unmet.Goals as goal

pub returns-in_err-cause-clause-none : goal.returns-in_err-cause-clause-none
returns-in_err-cause-clause-none c = λ none.
    let set = c.args.set.now in
    let r = c.r-item.result in
    let by : Resulting → _ = λ s. unmet_of set s.ecu s.image in
    let image : r.image ≡ Some c.in-Some.image.now = search rules in
    let part = none_at (flat_map by) by (λ x xs. refl) set c.loop-r.r-index r c.loop-r-test.true c.r-item.is none in
    let no : false ≡ true = c.in_err-cause.ensures.none (ap (λ e. unmet_of set e (Some c.in-Some.image.now)) (ap (λ s. s.ecu) c.r.view_is) ∙ sym (ap (unmet_of set r.ecu) image) ∙ part) in
    cc
