-- What a decision says of the rows that it answers: their names are new.
use Rattle.std.specs.Prelude.{◌≡◌, ℕ, false, Some, None, Ok, IsTrue, find}
use Rattle.std.specs.FinMap as table
use Rattle.up_canon.specs.Names.{first_repeated}
use Rattle.up_sign.specs.Schemes.{Rules}
use Rattle.up_plan.specs.Campaigns.{CampaignData}
use Rattle.up_plan.specs.Images.{ImageData}
use Rattle.up_machine.specs.declared.vehicle.Replacement.{Replacement}
use Rattle.up_machine.specs.Deciding.{done}
use Rattle.up_machine.specs.Inventory.{with_vehicle, decide_vehicle, with_replacement, decide_replace, with_campaign, decide_open}
use Rattle.up_machine.specs.Repositories.{stamped, with_image, decide_image}
use Rattle.up_machine.specs.Sound.{IsSound}
use Rattle.up_machine.specs.State.{Vehicle, State, is_taken}
use Rattle.up_machine.specs.Vehicles.{NewVehicleData, has_ecu, ecu_names}

-- an image that is done has a filename that is new
abbrev pub NewImagesAreNew : Type 0
NewImagesAreNew = (k : Rules) (s : State) (at version : ℕ) (image : ImageData) → decide_image k s at image ≡ Ok (done (stamped k (with_image s image) at version))
    → table.get s.images image.file ≡ None

-- no vehicle has the name, no ECU has or had one of its ECUs' names, and these are distinct
pub record IsNewVehicle (s : State) (new : NewVehicleData) : Type 0 where
  pub none : table.get s.vehicles new.vehicle ≡ None
  pub once : first_repeated (ecu_names new.ecus) ≡ None
  pub free : find (is_taken s) (ecu_names new.ecus) ≡ None

abbrev pub NewVehiclesAreNew : Type 0
NewVehiclesAreNew = (k : Rules) (s : State) (at : ℕ) (new : NewVehicleData) → decide_vehicle k s at new ≡ Ok (done (with_vehicle s new)) → IsNewVehicle s new

-- the ECU that is replaced is one of the vehicle's, none of which stands twice, and no ECU has or had the new one's name
pub record IsFittingReplacement (s : State) (r : Replacement) (v : Vehicle) : Type 0 where
  pub there : table.get s.vehicles r.vehicle ≡ Some v
  pub has : IsTrue (has_ecu r.old v.ecus)
  pub once : first_repeated (ecu_names v.ecus) ≡ None
  pub free : is_taken s r.ecu.ecu ≡ false

abbrev pub ReplacementsFit : Type 0
ReplacementsFit = (k : Rules) (s : State) (at : ℕ) (r : Replacement) (v : Vehicle) → IsSound k s → table.get s.vehicles r.vehicle ≡ Some v
    → decide_replace k s at r ≡ Ok (done (with_replacement s r v)) → IsFittingReplacement s r v

-- a campaign that is opened has a name that is new
abbrev pub NewCampaignsAreNew : Type 0
NewCampaignsAreNew = (s : State) (at : ℕ) (campaign : CampaignData) → decide_open s at campaign ≡ Ok (done (with_campaign s campaign))
    → table.get s.campaigns campaign.name ≡ None
