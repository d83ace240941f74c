use Rattle.std.proofs.Common.{◌≡◌, ap, sym, ◌∙◌, ◌++◌, ◌∷◌, []}
use Rattle.std.specs.Prelude.{option_copied, option_map}
use Rattle.up_plan.specs.Offers.{OfferData, greatest_of_file, offer_of}
use Rattle.up_plan.proofs.Offering.{offers_more, offers_less}
use Rattle.up_plan.proofs.offers.offers.Goals as goal
use Rattle.up_plan.proofs.offers.offers.Goals.{in-Some+in_ok-push, in_default}

pub loop-item-preserved : goal.loop-item-preserved
loop-item-preserved c =
    let item = c.item-item.result in
    let images = c.args.images.now in
    let found : option_copied (option_copied c.get.result) ≡ greatest_of_file images item.now.file =
    ap option_copied c.get.ensures.value ∙ c.in_ok-files.ensures c.text.result.now ∙ ap (greatest_of_file images) c.text.ensures.value in
    elim c.match-get.branch [
      | in-Some+in_ok-push w ↦
          let o : OfferData = record { hardware = item.now.hardware; image = w.in-Some.image.now.now } in
          ap (λ v. v.items) w.offers-is ∙ w.in_ok-push.ensures.items ∙ ap (λ os. os ++ o ∷ []) c.loop-item.invariant
          ∙ sym (offers_more (offer_of images) c.args.items.now c.loop-item.item-index item c.loop-item-test.true c.item-item.is o
          (ap (option_map (λ image. record { hardware = item.now.hardware; image = image })) (sym found ∙ ap (λ r. option_copied (option_copied r)) w.in-Some.is)))
      | in_default w ↦
          ap (λ v. v.items) w.offers-is ∙ c.loop-item.invariant
          ∙ sym (offers_less (offer_of images) c.args.items.now c.loop-item.item-index item c.loop-item-test.true c.item-item.is
          (ap (option_map (λ image. record { hardware = item.now.hardware; image = image })) (sym found ∙ ap (λ r. option_copied (option_copied r)) w.in_default.is)))
    ]
