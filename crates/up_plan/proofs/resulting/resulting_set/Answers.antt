use Rattle.std.proofs.Common.{◌++◌, ◌∷◌, [], ap, map, take, sym, ◌∙◌}
use Rattle.up_plan.specs.Planning.{resulting}
use Rattle.up_plan.proofs.BestOffers.{resulting_more, resulting_offer}
use Rattle.up_plan.proofs.resulting.resulting_set.Goals as goal

pub loop-e-preserved : goal.loop-e-preserved
loop-e-preserved c =
    let images = c.args.images.now in
    let items = map (λ i. i.now) c.args.items.now in
    let e = c.e-item.result in
    c.in_ok-push.ensures.items
    ∙ ap (λ rs. rs ++ c.resulting_ecu.result ∷ []) c.loop-e.invariant
    ∙ ap (λ r. resulting images items (take c.loop-e.e-index c.args.fitted.now) ++ r ∷ [])
    (c.resulting_ecu.ensures ∙ resulting_offer images items e c.as_slice.result.now _ (c.as_slice.ensures.value ∙ c.in_ok-offers.ensures) c.registered.ensures)
    ∙ sym (resulting_more images items c.args.fitted.now c.loop-e.e-index e c.loop-e-test.true c.e-item.is)
