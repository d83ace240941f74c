use Rattle.std.proofs.Common.{[], ◌∷◌, take, ap, ◌∙◌}
use Rattle.std.proofs.lemmas.List.{take_all}
use Rattle.std.specs.FinMap as table
use Rattle.up_plan.specs.declared.campaign.Item.{Item}
use Rattle.up_records.proofs.Sessions.{all_on, as_on, lost_on, then_on}
use Rattle.up_desk.specs.Gathered.{gathered, item_files}
use Rattle.up_desk.proofs.LookedUp.{none_part}
use Rattle.up_desk.proofs.Loops.{files_more, mapped_more}
use Rattle.up_desk.proofs.images.images_of.Goals as goal

pub loop-item-preserved : goal.loop-item-preserved
loop-item-preserved g c inside =
    let G = g.D.Store in
    let items = c.args.items.now in
    as_on G (then_on G (c.loop-item.invariant inside) c.in_ok-add_file.ensures)
    (λ k of s found. files_more s.images table.empty (item_files (take c.loop-item.item-index items)) (c.item-item.result.file ∷ [])
    (mapped_more (λ (i : Item). i.file) items c.loop-item.item-index _ c.loop-item-test.true c.item-item.is) found.0 (none_part s.images) found.1)

pub returns : goal.returns
returns g c inside =
    all_on g.D.Store (c.loop-item.invariant inside) _ _
    (λ k of s so_far. so_far ∙ ap (λ xs. gathered s.images (item_files xs) table.empty) (take_all c.loop-item.item-index c.args.items.now c.loop-item-test.false))

pub returns-in_err-add_file : goal.returns-in_err-add_file
returns-in_err-add_file g c inside = lost_on g.D.Store (c.loop-item.invariant inside) _ c.from_residual.result c.from_residual.ensures.1 c.in_err-add_file.ensures
