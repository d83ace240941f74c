use Rattle.std.proofs.Common.{[], length, take, subst, sym, ◌∙◌}
use Rattle.std.specs.FinMap as table
use Rattle.std.proofs.lemmas.Iterator.Adapters.{YieldsList-from_vec}
use Rattle.std.proofs.lemmas.Iterator.Consumers.{YieldsList-end, YieldsList-so_far, YieldsList-turn}
use Rattle.std.proofs.lemmas.List.{length_push}
use Rattle.up_store.proofs.Common.{InTurn, PutsImage}
use Rattle.up_store.proofs.ColumnTables.{AreSofar, image_of, images_begun, images_more, images_ended}
use Rattle.up_store.proofs.MemoryAlone.{memory_on}
use Rattle.up_store.proofs.ReadRows.{in_turn_more}
use Rattle.up_store.proofs.image_rows.read_images.Goals as goal

pub loop-row-preserved : goal.loop-row-preserved
loop-row-preserved c =
    let all = c.args.shown.items in
    let turn = YieldsList-turn (YieldsList-from_vec all (cc) (cc)) c.loop-row.yielded _ c.loop-row.yielded_by _ c.next.new.self c.in-Some.row c.in-Some.is c.next.ensures.steps in (
      (λ images are told.
          subst (λ n. AreSofar (take n all) images c.add_image.new.images) (sym (length_push c.loop-row.yielded c.in-Some.row))
          (images_more images c.args.hashes.now all (length c.loop-row.yielded) c.in-Some.row c.loop-row.images c.add_image.new.images turn.0 turn.1 are told c.in_ok-add_image.ensures.same (c.loop-row.invariant.0 images are told))),
      subst (λ n. InTurn (PutsImage c.args.hashes.now) (take n all) table.empty c.add_image.new.images) (sym (length_push c.loop-row.yielded c.in-Some.row))
          (in_turn_more (PutsImage c.args.hashes.now) all (length c.loop-row.yielded) c.in-Some.row table.empty c.loop-row.images c.add_image.new.images turn.0 turn.1 c.loop-row.invariant.1 c.in_ok-add_image.ensures.told),
    )

pub loop-row-init : goal.loop-row-init
loop-row-init c = ((λ images are told. subst (AreSofar [] images) (sym c.new-images.ensures) (images_begun images)), c.new-images.ensures)

pub returns-clause-same : goal.returns-clause-same
returns-clause-same c = λ images are told.
    let all = c.args.shown.items in
    let each = YieldsList-from_vec all (cc) (cc) in
    let whole = sym (YieldsList-so_far each c.loop-row.yielded _ c.loop-row.yielded_by) ∙ (YieldsList-end each c.loop-row.yielded _ c.loop-row.yielded_by _ c.next.new.self c.in-None.is c.next.ensures.steps).0 in
    images_ended images all c.loop-row.images are (subst (λ rows. AreSofar rows images c.loop-row.images) whole (c.loop-row.invariant.0 images are told))

pub returns-clause-told : goal.returns-clause-told
returns-clause-told c =
    let all = c.args.shown.items in
    let each = YieldsList-from_vec all (cc) (cc) in
    let whole = sym (YieldsList-so_far each c.loop-row.yielded _ c.loop-row.yielded_by) ∙ (YieldsList-end each c.loop-row.yielded _ c.loop-row.yielded_by _ c.next.new.self c.in-None.is c.next.ensures.steps).0 in
    subst (λ rows. InTurn (PutsImage c.args.hashes.now) rows table.empty c.loop-row.images) whole c.loop-row.invariant.1

pub returns-in_err-add_image-clause-fault : goal.returns-in_err-add_image-clause-fault
returns-in_err-add_image-clause-fault c = λ images are.
    let all = c.args.shown.items in
    let turn = YieldsList-turn (YieldsList-from_vec all (cc) (cc)) c.loop-row.yielded _ c.loop-row.yielded_by _ c.next.new.self c.in-Some.row c.in-Some.is c.next.ensures.steps in
    let of = image_of images all (length c.loop-row.yielded) c.in-Some.row turn.0 turn.1 are in
    memory_on c.from_residual.result c.in_err-add_image.field-0.0 c.from_residual.ensures.1 (c.in_err-add_image.ensures.fault _ of.0 (are.typed _ of.0 of.1) of.2)
