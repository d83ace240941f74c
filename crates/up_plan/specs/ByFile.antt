-- Images that are looked up by their filenames: another way to the same plan.
use Rattle.std.specs.Prelude.{◌≡◌, List, Option, Some, map, option_map}
use Rattle.std.specs.List.{filter_map}
use Rattle.std.specs.FinMap as table
use Rattle.up_canon.specs.Names.{Name, Table}
use Rattle.up_canon.specs.Steps.{if_passes}
use Rattle.up_plan.specs.declared.assigned.Fitted.{Fitted}
use Rattle.up_plan.specs.declared.campaign.Item.{Item}
use Rattle.up_plan.specs.Images.{ImageData}
use Rattle.up_plan.specs.ByOffers.{resulting_by}
use Rattle.up_plan.specs.Offers.{OfferData}
use Rattle.up_plan.specs.Planning.{Resulting, is_reported}

-- each image stands under its own filename
abbrev pub AreByFile : Table ImageData → Type 0
AreByFile images = (file : Name) (image : ImageData) → table.get images file ≡ Some image → image.file ≡ file

-- the image that stands under an item's filename
abbrev pub offer_at : Table ImageData → Item → Option OfferData
offer_at images item = option_map (λ image. record { hardware = item.hardware; image = image }) (table.get images item.file)

-- one for each item under whose filename an image stands
abbrev pub offers_at : Table ImageData → List Item → List OfferData
offers_at images items = filter_map (offer_at images) items

-- the image that stands under the reported filename, where it is the one reported
abbrev pub registered_at : Table ImageData → Fitted → Option ImageData
registered_at images e = if_passes (is_reported e.hardware e.image) (table.get images e.image.file)

-- each ECU as it is where each gets its wanted image
abbrev pub resulting_at : Table ImageData → List Item → List Fitted → List Resulting
resulting_at images items fitted = map (λ e. resulting_by (offers_at images items) e (registered_at images e)) fitted
