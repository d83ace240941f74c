use Rattle.std.proofs.Common.{ap, ◌∙◌}
use Rattle.std.specs.Prelude.{Some, option_copied}
use Rattle.std.proofs.lemmas.Map.Text.{btree_map_updates_str}
use Rattle.up_plan.specs.Planning.{greater}
use Rattle.up_plan.proofs.Offering.{file_more}
use Rattle.up_plan.proofs.offers.greatest_by_file.Goals as goal

pub loop-image-preserved : goal.loop-image-preserved
loop-image-preserved c = λ q.
    let x = c.image-item.result in
    let key = c.text-file.result.now in
    file_more c.loop-image.files c.insert.new.self c.args.images.now c.loop-image.image-index x c.loop-image-test.true c.image-item.is c.greater-best.result c.loop-image.invariant
    key (c.text-file.ensures.value ∙ ap (λ j. j.file) c.image.view_is)
    (c.greater-best.ensures ∙ ap (λ o. greater (option_copied o) x) (c.copied.ensures ∙ c.get.ensures.value))
    q (btree_map_updates_str key c.loop-image.files c.insert.new.self (Some c.greater-best.result) c.in_ok-insert.ensures.updates q)
