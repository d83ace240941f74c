-- The laws of the rows of a state: they tell the state, what is looked up among them is the state's, and what a command changes of
-- them makes the rows of the next state.
use Rattle.std.specs.Prelude.{◌≡◌, ℕ, false, Some, None, is_some}
use Rattle.std.specs.List.{AllByRecursion}
use Rattle.std.specs.FinMap as table
use Rattle.up_canon.specs.Names.{Name}
use Rattle.up_sign.specs.Schemes.{Rules}
use Rattle.up_roles.specs.declared.repository.Repository.{Repository}
use Rattle.up_plan.specs.Campaigns.{CampaignData}
use Rattle.up_plan.specs.Images.{ImageData}
use Rattle.up_metadata.specs.declared.keys.KeySet.{KeySet}
use Rattle.up_machine.specs.declared.decision.AcceptedRows.{AcceptedRows}
use Rattle.up_machine.specs.declared.decision.RegisterRows.{RegisterRows}
use Rattle.up_machine.specs.declared.decision.RootRows.{RootRows}
use Rattle.up_machine.specs.declared.vehicle.Replacement.{Replacement}
use Rattle.up_machine.specs.Decisions.{HasRootRows, HasRegisterRows, HasAcceptedRows}
use Rattle.up_machine.specs.Deliveries.{with_entry}
use Rattle.up_machine.specs.Files.{file}
use Rattle.up_machine.specs.Inventory.{with_vehicle, with_replacement, with_campaign}
use Rattle.up_machine.specs.Reads.{ecus_of, version_of, installed, assigned_to}
use Rattle.up_machine.specs.Repositories.{stamped, with_root, with_image}
use Rattle.up_machine.specs.Rows.{founding_row, rows_of, vehicle_rows, kept_at}
use Rattle.up_machine.specs.Sound.{IsSound}
use Rattle.up_machine.specs.State.{Entry, Vehicle, State, empty_state, is_founded, added, is_taken}
use Rattle.up_machine.specs.Vehicles.{NewVehicleData}
use Rattle.up_rows.specs.StateRows.{no_rows, rows_of_state, state_of_rows}
use Rattle.up_rows.specs.SecondHashes.{TellsItsHash}
use Rattle.up_rows.specs.Lookups.{kept_with, owner_found, text_held, version_told, ecus_told, installed_told, plan_told}
use Rattle.up_rows.specs.Changes.{with_root_rows, with_register_rows, with_image_rows, with_vehicle_rows, with_replaced_rows, with_campaign_row, with_accepted_rows}

-- ---- the state

abbrev pub RowsTellTheState : Type 0
RowsTellTheState = (k : Rules) (s : State) → IsSound k s → state_of_rows (rows_of_state s) ≡ s

abbrev pub NoRowsOfTheEmptyState : Type 0
NoRowsOfTheEmptyState = rows_of_state empty_state ≡ no_rows

-- ---- what is looked up

-- the founding's row is there from founding on
abbrev pub FoundedIsFound : Type 0
FoundedIsFound = (s : State) → is_some (founding_row s) ≡ is_founded s

abbrev pub VehiclesAreFound : Type 0
VehiclesAreFound = (s : State) (name : Name) → table.get (rows_of_state s).vehicles name ≡ vehicle_rows s name

abbrev pub KeptAreFound : Type 0
KeptAreFound = (s : State) (name : Name) (counter : ℕ) → kept_with name counter (rows_of_state s) ≡ kept_at s name counter

-- a name is that of an ECU, or of one that was replaced, where an owner is found
abbrev pub TakenAreFound : Type 0
TakenAreFound = (s : State) (ecu : Name) → is_some (owner_found ecu (rows_of_state s)) ≡ is_taken s ecu

abbrev pub FilesAreFound : Type 0
FilesAreFound = (s : State) (repository : Repository) (name : Name) → text_held (rows_of_state s) repository name ≡ file s repository name

-- ---- what is told of the inventory

abbrev pub VersionsAreTold : Type 0
VersionsAreTold = (s : State) (vehicle : Name) → version_told (rows_of_state s) vehicle ≡ version_of s vehicle

abbrev pub EcusAreTold : Type 0
EcusAreTold = (s : State) (vehicle : Name) → ecus_told (rows_of_state s) vehicle ≡ ecus_of s vehicle

abbrev pub InstalledIsTold : Type 0
InstalledIsTold = (s : State) (ecu : Name) → installed_told (rows_of_state s) ecu ≡ installed s ecu

abbrev pub AssignedIsTold : Type 0
AssignedIsTold = (s : State) (vehicle : Name) → plan_told (rows_of_state s) vehicle ≡ assigned_to s vehicle

-- the row of each ECU, of any vehicle, tells the second hash that the text of its last report has
abbrev pub EcusTellTheirHash : Type 0
EcusTellTheirHash = (name : Name) (v : Vehicle) → AllByRecursion TellsItsHash (rows_of name v).ecus

-- ---- what commands change

-- a founding or a rotation
abbrev pub RootsAreAdded : Type 0
RootsAreAdded = (k : Rules) (s : State) (at version : ℕ) (keys : KeySet) (rows : RootRows)
    → HasRootRows (stamped k (with_root k s at keys) at version) rows
    → with_root_rows (rows_of_state s) rows ≡ rows_of_state (stamped k (with_root k s at keys) at version)

-- a refresh
abbrev pub FilesAreReplaced : Type 0
FilesAreReplaced = (k : Rules) (s : State) (at version : ℕ) (rows : RegisterRows)
    → HasRegisterRows (stamped k s at version) rows → with_register_rows (rows_of_state s) rows ≡ rows_of_state (stamped k s at version)

-- an image
abbrev pub ImagesAreAdded : Type 0
ImagesAreAdded = (k : Rules) (s : State) (at version : ℕ) (image : ImageData) (rows : RegisterRows)
    → HasRegisterRows (stamped k (with_image s image) at version) rows
    → with_image_rows (rows_of_state s) image rows ≡ rows_of_state (stamped k (with_image s image) at version)

-- a vehicle whose name is new
abbrev pub VehiclesAreAdded : Type 0
VehiclesAreAdded = (s : State) (new : NewVehicleData) → table.get s.vehicles new.vehicle ≡ None
    → with_vehicle_rows (rows_of_state s) (rows_of new.vehicle (added new)) ≡ rows_of_state (with_vehicle s new)

-- an ECU of a vehicle, by another one whose name no ECU has or had: no report of the new one was accepted
abbrev pub EcusAreReplaced : Type 0
EcusAreReplaced = (k : Rules) (s : State) (r : Replacement) (v : Vehicle) → IsSound k s → table.get s.vehicles r.vehicle ≡ Some v
    → is_taken s r.ecu.ecu ≡ false → with_replaced_rows (rows_of_state s) r ≡ rows_of_state (with_replacement s r v)

-- a campaign, opened or closed
abbrev pub CampaignsAreWritten : Type 0
CampaignsAreWritten = (s : State) (campaign : CampaignData) → with_campaign_row (rows_of_state s) campaign ≡ rows_of_state (with_campaign s campaign)

-- an accepted manifest
abbrev pub ManifestsAreAdded : Type 0
ManifestsAreAdded = (s : State) (name : Name) (v : Vehicle) (e : Entry) (rows : AcceptedRows) → table.get s.vehicles name ≡ Some v
    → HasAcceptedRows name v e rows → with_accepted_rows (rows_of_state s) rows ≡ rows_of_state (with_entry s name v e)
