use Rattle.std.proofs.Common.{◌≡◌, ◌++◌, [], true, false, map, bytes_eq, sym, subst, ap, ◌∙◌}
use Rattle.std.specs.Prelude.{filter, flat_map}
use Rattle.std.specs.FinMap as table
use Rattle.up_plan.specs.Planning.{is_offered, items_for}
use Rattle.up_plan.specs.Running.{AreFound, items_at, name_at}
use Rattle.up_plan.proofs.Nothing.{nil_left, nil_right}
use Rattle.up_plan.proofs.NothingFound.{nothing_found}
use Rattle.up_plan.proofs.Reaching.{offers_found}
use Rattle.up_plan.proofs.running.Running.items_for.Goals as goal

pub returns-clause-value : goal.returns-clause-value
returns-clause-value c = λ hardware image.
    let cs = c.values-campaigns.result.now in
    let places = c.as_slice.result.now in
    let names = c.as_slice-2.result.now in
    let vehicle = c.args.vehicle.now in
    let items : map (λ i. i.now) c.push_named.new.items.items ≡ flat_map (items_at cs) places ++ flat_map (λ at. items_at cs at.campaign) (filter (λ at. bytes_eq vehicle (name_at cs at)) names) =
    c.in_ok-push_named.ensures.value
    ∙ ap (λ xs. xs ++ flat_map (λ at. items_at cs at.campaign) c.names_like-named.result.now) (c.in_ok-push_for_all.ensures.value ∙ ap (λ xs. map (λ i. i.now) xs ++ flat_map (items_at cs) places) c.new-items.ensures.items)
    ∙ ap (λ ns. flat_map (items_at cs) places ++ flat_map (λ at. items_at cs at.campaign) ns) c.names_like-named.ensures in
    let found : AreFound cs places names =
    subst (λ xs. AreFound xs places names) (sym c.values-campaigns.ensures)
    (subst (λ ps. AreFound (table.values c.self.inside.campaigns) ps names) (sym c.as_slice.ensures.value)
    (subst (λ ns. AreFound (table.values c.self.inside.campaigns) c.self.inside.for_all.items ns) (sym c.as_slice-2.ensures.value) c.self.invariant)) in
    ap (λ xs. is_offered xs hardware image) items
    ∙ offers_found cs places names found vehicle hardware image
    ∙ ap (λ xs. is_offered (items_for xs vehicle) hardware image) (c.values-campaigns.ensures ∙ ap table.values c.self.view_is)

pub returns-in_err-push_for_all-clause-none : goal.returns-in_err-push_for_all-clause-none
returns-in_err-push_for_all-clause-none c = λ none.
    let cs = c.values-campaigns.result.now in
    let places = c.as_slice.result.now in
    let names = c.self.inside.names.items in
    let vehicle = c.args.vehicle.now in
    let found : AreFound cs places names =
    subst (λ xs. AreFound xs places names) (sym c.values-campaigns.ensures)
    (subst (λ ps. AreFound (table.values c.self.inside.campaigns) ps names) (sym c.as_slice.ensures.value) c.self.invariant) in
    let items : items_for cs vehicle ≡ [] = ap (λ xs. items_for xs vehicle) (c.values-campaigns.ensures ∙ ap table.values c.self.view_is) ∙ none in
    let no : false ≡ true = c.in_err-push_for_all.ensures.none (nil_left _ _ (nothing_found cs places names found vehicle items)) in
    cc

pub returns-in_err-push_named-clause-none : goal.returns-in_err-push_named-clause-none
returns-in_err-push_named-clause-none c = λ none.
    let cs = c.values-campaigns.result.now in
    let places = c.as_slice.result.now in
    let names = c.as_slice-2.result.now in
    let vehicle = c.args.vehicle.now in
    let found : AreFound cs places names =
    subst (λ xs. AreFound xs places names) (sym c.values-campaigns.ensures)
    (subst (λ ps. AreFound (table.values c.self.inside.campaigns) ps names) (sym c.as_slice.ensures.value)
    (subst (λ ns. AreFound (table.values c.self.inside.campaigns) c.self.inside.for_all.items ns) (sym c.as_slice-2.ensures.value) c.self.invariant)) in
    let items : items_for cs vehicle ≡ [] = ap (λ xs. items_for xs vehicle) (c.values-campaigns.ensures ∙ ap table.values c.self.view_is) ∙ none in
    let no : false ≡ true =
    c.in_err-push_named.ensures.none
    (ap (flat_map (λ at. items_at cs at.campaign)) c.names_like-named.ensures ∙ nil_right _ _ (nothing_found cs places names found vehicle items)) in
    cc
