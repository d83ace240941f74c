-- What items offer: item by item, another way to the same greatest image; and items that offer alike.
use Rattle.std.specs.Prelude.{◌≡◌, List, Option, filter, map, option_map, bytes_eq}
use Rattle.std.specs.List.{filter_map}
use Rattle.up_canon.specs.Names.{Name}
use Rattle.up_plan.specs.declared.assigned.Fitted.{Fitted}
use Rattle.up_plan.specs.declared.campaign.Item.{Item}
use Rattle.up_plan.specs.Images.{ImageData}
use Rattle.up_plan.specs.Planning.{greatest, is_offered, plan_from, resulting}

-- an image, and the hardware for which an item has it
pub record OfferData : Type 0 where
  pub hardware : Name
  pub image : ImageData

-- the greatest of the images of a file
abbrev pub greatest_of_file : List ImageData → Name → Option ImageData
greatest_of_file images file = greatest (filter (λ image. bytes_eq image.file file) images)

abbrev pub offer_of : List ImageData → Item → Option OfferData
offer_of images item = option_map (λ image. record { hardware = item.hardware; image = image }) (greatest_of_file images item.file)

-- one for each item whose file is registered
abbrev pub offers_of : List ImageData → List Item → List OfferData
offers_of images items = filter_map (offer_of images) items

-- the greatest of those for the hardware
abbrev pub greatest_offer : List OfferData → Name → Option ImageData
greatest_offer offers hardware = greatest (map (λ o. o.image) (filter (λ o. bytes_eq o.hardware hardware) offers))

-- the same images for the same hardware, whatever the items' order and number
abbrev pub OffersSame : List Item → List Item → Type 0
OffersSame items others = (hardware : Name) (image : ImageData) → is_offered items hardware image ≡ is_offered others hardware image

abbrev pub OffersAloneCount : Type 0
OffersAloneCount = (images : List ImageData) (items others : List Item) (fitted : List Fitted)
    → OffersSame items others → plan_from (resulting images items fitted) ≡ plan_from (resulting images others fitted)
