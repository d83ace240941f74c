use Rattle.std.proofs.Common.{List, map, sym, subst, ap}
use Rattle.std.specs.FinMap as table
use Rattle.up_plan.specs.declared.campaign.Item.{Item}
use Rattle.up_plan.specs.Offers.{OffersSame}
use Rattle.up_plan.specs.Planning.{items_for}
use Rattle.up_records.proofs.Cataloged.{are_planned}
use Rattle.up_records.proofs.deciding.decide_later.Goals as goal

pub returns : goal.returns
returns g c = λ s sound sent.
    let catalog = c.args.catalog.now in
    let manifest = c.args.incoming.now.manifest in
    c.decide_new.ensures s sound sent.from
    (are_planned (g.K.Scheme.rules c.args.scheme.now) s manifest catalog _ sound sent.kept
    (subst (λ (items : List Item). OffersSame items (items_for (table.values catalog.campaigns) manifest.vehicle)) (sym (ap (map (λ i. i.now)) c.as_slice.ensures.value)) c.in_ok-items.ensures.value))
