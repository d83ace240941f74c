-- The rows of a state: all that is kept of it, one row for each thing.
use Rattle.std.specs.Prelude.{ℕ, List, [], Option, None, option_map, unwrap_or, map}
use Rattle.std.specs.List.{enumerate_from}
use Rattle.std.specs.FinMap as table
use Rattle.up_canon.specs.Names.{Name, Table}
use Rattle.up_plan.specs.Campaigns.{CampaignData}
use Rattle.up_plan.specs.Images.{ImageData}
use Rattle.up_metadata.specs.declared.role_files.RoleTexts.{RoleTexts}
use Rattle.up_metadata.specs.declared.keys.RepoKeys.{RepoKeys}
use Rattle.up_machine.specs.declared.rows.EcuRow.{EcuRow}
use Rattle.up_machine.specs.declared.rows.Founding.{Founding}
use Rattle.up_machine.specs.declared.rows.Kept.{Kept}
use Rattle.up_machine.specs.declared.rows.VehicleRows.{VehicleRows}
use Rattle.up_machine.specs.declared.vehicle.NewEcu.{NewEcu}
use Rattle.up_machine.specs.State.{Chain, Entry, Vehicle, State, no_keys}
use Rattle.up_machine.specs.Rows.{founding_row, rows_of, kept_row}
use Rattle.up_rows.specs.Tables.{each_value}

-- the founding, the texts of each repository's root versions in order, the registered images, the image repository's other files, the
-- campaigns, the vehicles with their ECUs, for each vehicle a row for each accepted manifest in the order of acceptance, and the
-- identifiers of its replaced ECUs in the order of their replacement
pub record StateRows : Type 0 where
  pub founding : Option Founding
  pub director : List (List ℕ)
  pub image : List (List ℕ)
  pub images : Table ImageData
  pub files : Option RoleTexts
  pub campaigns : Table CampaignData
  pub vehicles : Table VehicleRows
  pub kept : Name → List Kept
  pub retired : Name → List Name

-- nothing is founded
abbrev pub no_rows : StateRows
no_rows = record { founding = None; director = []; image = []; images = table.empty; files = None; campaigns = table.empty; vehicles = table.empty; kept = λ name. []; retired = λ name. [] }

-- ---- the rows of a state

-- the rows kept for a vehicle's entries, replies included; none of an unknown vehicle
abbrev pub kept_rows : State → Name → List Kept
kept_rows s name =
    unwrap_or (option_map (λ v. map (λ e. kept_row name e.0 e.1) (enumerate_from 1 v.entries)) (table.get s.vehicles name)) []

-- the identifiers of a vehicle's replaced ECUs; none of an unknown vehicle
abbrev pub retired_names : State → Name → List Name
retired_names s name = unwrap_or (option_map (λ v. v.retired) (table.get s.vehicles name)) []

abbrev pub rows_of_state : State → StateRows
rows_of_state s = record {
  founding = founding_row s;
  director = s.director.texts;
  image = s.image.texts;
  images = s.images;
  files = s.files;
  campaigns = s.campaigns;
  vehicles = each_value rows_of s.vehicles;
  kept = kept_rows s;
  retired = retired_names s;
}

-- ---- the state of rows

-- the root versions' texts, with the founding's keys of the last one
abbrev pub chain_of_rows : (Founding → RepoKeys) → Option Founding → List (List ℕ) → Chain
chain_of_rows keys founding texts = record { texts = texts; keys = unwrap_or (option_map keys founding) no_keys }

abbrev pub ecu_of : EcuRow → NewEcu
ecu_of row = record { ecu = row.ecu; hardware = row.hardware; public = row.public }

abbrev pub entry_of : Kept → Entry
entry_of row = record { counter = row.counter; signed = row.signed; at = row.at; root = row.root; plan = row.plan; reply = row.reply }

abbrev pub vehicle_of_rows : (Name → List Kept) → (Name → List Name) → Name → VehicleRows → Vehicle
vehicle_of_rows kept retired name rows =
    record { primary = rows.vehicle.primary; ecus = map ecu_of rows.ecus; retired = retired name; entries = map entry_of (kept name) }

abbrev pub state_of_rows : StateRows → State
state_of_rows rows = record {
  director = chain_of_rows (λ f. f.keys.director) rows.founding rows.director;
  image = chain_of_rows (λ f. f.keys.image) rows.founding rows.image;
  files = rows.files;
  images = rows.images;
  image_version = unwrap_or (option_map (λ row. row.image_version) rows.founding) 0;
  targets_version = unwrap_or (option_map (λ row. row.targets_version) rows.founding) 0;
  stamp = unwrap_or (option_map (λ row. row.stamp) rows.founding) 0;
  campaigns = rows.campaigns;
  vehicles = each_value (vehicle_of_rows rows.kept rows.retired) rows.vehicles;
}
