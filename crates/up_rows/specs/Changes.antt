-- What each command that is done changes of the rows.
use Rattle.std.specs.Prelude.{[], ◌∷◌, ◌++◌, Some, option_map, unwrap_or, map, if◌then◌else◌, bytes_eq}
use Rattle.std.specs.FinMap as table
use Rattle.up_canon.specs.Names.{Name}
use Rattle.up_plan.specs.Campaigns.{CampaignData}
use Rattle.up_plan.specs.Images.{ImageData}
use Rattle.up_machine.specs.declared.decision.AcceptedRows.{AcceptedRows}
use Rattle.up_machine.specs.declared.decision.RegisterRows.{RegisterRows}
use Rattle.up_machine.specs.declared.decision.RootRows.{RootRows}
use Rattle.up_machine.specs.declared.rows.EcuRow.{EcuRow}
use Rattle.up_machine.specs.declared.rows.VehicleRows.{VehicleRows}
use Rattle.up_machine.specs.declared.vehicle.Replacement.{Replacement}
use Rattle.up_machine.specs.Rows.{new_row}
use Rattle.up_rows.specs.StateRows.{StateRows}

-- one more root version
abbrev pub with_root_rows : StateRows → RootRows → StateRows
with_root_rows old rows =
    record old { founding = Some rows.founding; director = old.director ++ rows.director ∷ []; image = old.image ++ rows.image ∷ []; files = Some rows.files }

-- the image repository's files are made anew
abbrev pub with_register_rows : StateRows → RegisterRows → StateRows
with_register_rows old rows = record old { founding = Some rows.founding; files = Some rows.files }

-- an image is registered
abbrev pub with_image_rows : StateRows → ImageData → RegisterRows → StateRows
with_image_rows old image rows =
    record old { founding = Some rows.founding; images = table.insert old.images image.file image; files = Some rows.files }

-- a vehicle is added
abbrev pub with_vehicle_rows : StateRows → VehicleRows → StateRows
with_vehicle_rows old rows = record old { vehicles = table.insert old.vehicles rows.vehicle.vehicle rows }

-- an ECU's row after a replacement: the new one in place of the one of that name
abbrev pub in_place_of_row : Name → EcuRow → EcuRow → EcuRow
in_place_of_row old new row = if bytes_eq row.ecu old then new else row

-- the new ECU, before its first report, stands in the old one's place
abbrev pub replaced_rows : Replacement → VehicleRows → VehicleRows
replaced_rows r rows = record rows { ecus = map (in_place_of_row r.old (new_row r.ecu)) rows.ecus }

-- an ECU of a vehicle is replaced, and its identifier is retired; of an unknown vehicle no ECU is
abbrev pub with_replaced_rows : StateRows → Replacement → StateRows
with_replaced_rows old r = record old {
  vehicles = unwrap_or (option_map (λ rows. table.insert old.vehicles r.vehicle (replaced_rows r rows)) (table.get old.vehicles r.vehicle)) old.vehicles;
  retired = λ name. if bytes_eq r.vehicle name then old.retired name ++ r.old ∷ [] else old.retired name;
}

-- a campaign is opened or closed
abbrev pub with_campaign_row : StateRows → CampaignData → StateRows
with_campaign_row old campaign = record old { campaigns = table.insert old.campaigns campaign.name campaign }

-- a vehicle's rows are changed, and one more row is kept for it
abbrev pub with_accepted_rows : StateRows → AcceptedRows → StateRows
with_accepted_rows old rows = record old {
  vehicles = table.insert old.vehicles rows.vehicle.vehicle.vehicle rows.vehicle;
  kept = λ name. if bytes_eq rows.kept.vehicle name then old.kept name ++ rows.kept ∷ [] else old.kept name;
}
