-- An ECU as it is where each gets its wanted image, by what is offered and by the registered image of what it reports.
use Rattle.std.specs.Prelude.{ℕ, List, true, false, nat_lt, Option, Some, None, option_map, unwrap_or}
use Rattle.up_canon.specs.Steps.{if_passes}
use Rattle.up_plan.specs.declared.assigned.Fitted.{Fitted}
use Rattle.up_plan.specs.Images.{ImageData}
use Rattle.up_plan.specs.Offers.{OfferData, greatest_offer}
use Rattle.up_plan.specs.Planning.{Resulting}

-- the image's release counter; 0 where there is none
abbrev pub level_by : Option ImageData → ℕ
level_by registered = unwrap_or (option_map (λ image. image.release) registered) 0

-- the greatest that is offered for its hardware, if it is above the level
abbrev pub wanted_by : List OfferData → Fitted → Option ImageData → Option ImageData
wanted_by offers e registered = if_passes (λ image. nat_lt (level_by registered) image.release) (greatest_offer offers e.hardware)

-- with its wanted image, or as it is
abbrev pub with_wanted_by : Fitted → Option ImageData → Option ImageData → Resulting
with_wanted_by e registered (Some image) =
    record { ecu = e.ecu; hardware = e.hardware; updated = true; file = image.file; level = image.release; image = Some image }
with_wanted_by e registered None =
    record { ecu = e.ecu; hardware = e.hardware; updated = false; file = e.image.file; level = level_by registered; image = registered }

abbrev pub resulting_by : List OfferData → Fitted → Option ImageData → Resulting
resulting_by offers e registered = with_wanted_by e registered (wanted_by offers e registered)
