use Rattle.std.proofs.Common.{◌≡◌, ap, sym, ◌∙◌, ◌++◌, ◌∷◌, []}
use Rattle.std.specs.Prelude.{option_map}
use Rattle.std.specs.FinMap as table
use Rattle.up_plan.specs.ByFile.{offer_at}
use Rattle.up_plan.specs.Offers.{OfferData}
use Rattle.up_plan.proofs.Offering.{offers_more, offers_less}
use Rattle.up_plan.proofs.Nothing.{none_found}
use Rattle.up_plan.proofs.offers.offers_over.Goals as goal
use Rattle.up_plan.proofs.offers.offers_over.Goals.{in-Some+in_ok-push, in_default}

pub loop-item-preserved : goal.loop-item-preserved
loop-item-preserved c =
    let item = c.item-item.result in
    let images = c.args.images.now in
    let found : option_map (λ v. v.now) c.get.result ≡ table.get images item.now.file = c.get.ensures ∙ ap (table.get images) c.text.ensures.value in
    elim c.match-get.branch [
      | in-Some+in_ok-push w ↦
          let o : OfferData = record { hardware = item.now.hardware; image = w.in-Some.image.now } in
          ap (λ v. v.items) w.offers-is ∙ w.in_ok-push.ensures.items ∙ ap (λ os. os ++ o ∷ []) c.loop-item.invariant
          ∙ sym (offers_more (offer_at images) c.args.items.now c.loop-item.item-index item c.loop-item-test.true c.item-item.is o
          (ap (option_map (λ image. record { hardware = item.now.hardware; image = image })) (sym found ∙ ap (option_map (λ v. v.now)) w.in-Some.is)))
      | in_default w ↦
          ap (λ v. v.items) w.offers-is ∙ c.loop-item.invariant
          ∙ sym (offers_less (offer_at images) c.args.items.now c.loop-item.item-index item c.loop-item-test.true c.item-item.is
          (ap (option_map (λ image. record { hardware = item.now.hardware; image = image })) (sym found ∙ ap (option_map (λ v. v.now)) w.in_default.is)))
    ]

pub returns-in_err-push-clause-none : goal.returns-in_err-push-clause-none
returns-in_err-push-clause-none c = λ none.
    let item = c.item-item.result in
    let images = c.args.images.now in
    let found : option_map (λ v. v.now) c.get.result ≡ table.get images item.now.file = c.get.ensures ∙ ap (table.get images) c.text.ensures.value in
    let o : OfferData = record { hardware = item.now.hardware; image = c.in-Some.image.now } in
    absurd (none_found (offer_at images) (λ i. i.now) c.args.items.now c.loop-item.item-index item o c.loop-item-test.true c.item-item.is
    (ap (option_map (λ image. record { hardware = item.now.hardware; image = image })) (sym found ∙ ap (option_map (λ v. v.now)) c.in-Some.is)) none)
