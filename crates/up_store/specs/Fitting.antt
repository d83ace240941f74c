-- What rows that are written have to fit of those that are kept: decisions answer only such rows.
use Rattle.std.specs.Prelude.{◌≡◌, ◌+◌, Option, Some, None, IsTrue, length, map}
use Rattle.std.specs.List.{AllByRecursion}
use Rattle.std.specs.FinMap as table
use Rattle.up_canon.specs.Names.{first_repeated}
use Rattle.up_plan.specs.Campaigns.{CampaignData}
use Rattle.up_plan.specs.Images.{ImageData}
use Rattle.up_machine.specs.declared.decision.AcceptedRows.{AcceptedRows}
use Rattle.up_machine.specs.declared.decision.RegisterRows.{RegisterRows}
use Rattle.up_machine.specs.declared.decision.RootRows.{RootRows}
use Rattle.up_machine.specs.declared.rows.Founding.{Founding}
use Rattle.up_machine.specs.declared.rows.VehicleRows.{VehicleRows}
use Rattle.up_machine.specs.declared.vehicle.Replacement.{Replacement}
use Rattle.up_machine.specs.Inventory.{closed}
use Rattle.up_rows.specs.Lookups.{stands_among}
use Rattle.up_rows.specs.SecondHashes.{TellsItsHash}
use Rattle.up_rows.specs.StateRows.{StateRows, ecu_of}
use Rattle.up_store.specs.Typed.{EachHasKeys}

-- the root version of each repository is the next one, and each of its roles has a key
pub record IsNextRoot (new : RootRows) (rows : StateRows) : Type 0 where
  pub director : new.founding.root ≡ length rows.director + 1
  pub image : new.founding.image_root ≡ length rows.image + 1
  pub keys : EachHasKeys new.founding.keys

-- of the same root versions as the one before, and of the same keys
pub record IsOfSameRoot (new : Founding) (founding : Option Founding) : Type 0 where
  pub before : Founding
  pub there : founding ≡ Some before
  pub root : new.root ≡ before.root
  pub image_root : new.image_root ≡ before.image_root
  pub keys : new.keys ≡ before.keys

-- the root version is the last one still
abbrev pub IsSameRoot : RegisterRows → StateRows → Type 0
IsSameRoot new rows = IsOfSameRoot new.founding rows.founding

-- the filename is new, and the root version is the last one still
pub record IsNewImage (image : ImageData) (new : RegisterRows) (rows : StateRows) : Type 0 where
  pub none : table.get rows.images image.file ≡ None
  pub root : IsSameRoot new rows

-- the name is new, and the report of each ECU tells the second hash of the installed image
pub record IsNewVehicle (new : VehicleRows) (rows : StateRows) : Type 0 where
  pub none : table.get rows.vehicles new.vehicle.vehicle ≡ None
  pub tell : AllByRecursion TellsItsHash new.ecus

-- the vehicle is there and has the old ECU, and none of its ECUs stands twice
pub record IsReplacement (new : Replacement) (rows : StateRows) : Type 0 where
  pub was : VehicleRows
  pub there : table.get rows.vehicles new.vehicle ≡ Some was
  pub has : IsTrue (stands_among new.old was.ecus)
  pub once : first_repeated (map (λ row. row.ecu) was.ecus) ≡ None

-- the name is new
abbrev pub IsNewCampaign : CampaignData → StateRows → Type 0
IsNewCampaign new rows = table.get rows.campaigns new.name ≡ None

-- it is a campaign that is there, closed
pub record IsClosing (new : CampaignData) (rows : StateRows) : Type 0 where
  pub was : CampaignData
  pub there : table.get rows.campaigns new.name ≡ Some was
  pub is : new ≡ closed was

-- the vehicle is there, with the same Primary and the same ECUs, none twice, and the report of each tells the second hash of the installed
-- image
pub record IsRecorded (new : AcceptedRows) (rows : StateRows) : Type 0 where
  pub was : VehicleRows
  pub there : table.get rows.vehicles new.vehicle.vehicle.vehicle ≡ Some was
  pub primary : new.vehicle.vehicle.primary ≡ was.vehicle.primary
  pub ecus : map ecu_of new.vehicle.ecus ≡ map ecu_of was.ecus
  pub once : first_repeated (map (λ row. row.ecu) new.vehicle.ecus) ≡ None
  pub tell : AllByRecursion TellsItsHash new.vehicle.ecus
