-- What the parts of a write change of the rows of the tables.
use Rattle.std.specs.Prelude.{◌≡◌, true, ℕ, ◌≤◌, ◌<◌, ◌^◌, ◌++◌, List, [], ◌∷◌, All, Some, length, map, string_bytes}
use Rattle.std.specs.List.{list_all}
use Rattle.sqlite.specs.State.{State as Connected}
use Rattle.sqlite.specs.Order.{Row}
use Rattle.up_canon.specs.Names.{Name, is_file_name, is_ident}
use Rattle.up_plan.specs.Campaigns.{CampaignData}
use Rattle.up_plan.specs.Images.{ImageData}
use Rattle.up_machine.specs.Files.{numbered_root_name}
use Rattle.up_machine.specs.declared.decision.AcceptedRows.{AcceptedRows}
use Rattle.up_machine.specs.declared.decision.RootRows.{RootRows}
use Rattle.up_machine.specs.declared.rows.Kept.{Kept}
use Rattle.up_machine.specs.declared.rows.VehicleRows.{VehicleRows}
use Rattle.up_rows.specs.StateRows.{StateRows}
use Rattle.up_tables.specs.declared.role_key.RoleKeyRow.{RoleKeyRow}
use Rattle.up_tables.specs.Forms.{FitImageRepository, FitMeta, FitRoleKey, role_key_row}
use Rattle.up_tables.specs.Lines.{EcuLine, ecu_row, vehicle_line, AreSameEcus, AreDistinct, set_ecus}
use Rattle.up_tables.specs.Listed.{TableRows, ListsTables}
use Rattle.up_tables.specs.Rows.{changed_at, with_only}
use Rattle.up_roles.specs.declared.repository.Repository.TheVariants.{Director, Image}
use Rattle.up_columns.specs.CampaignColumns.{items_column, reach_column}
use Rattle.up_columns.specs.Columns.{names_column, needs_column}
use Rattle.up_columns.specs.PlanColumns.{plan_column}
use Rattle.up_columns.specs.Typed.{is_typed_item, is_typed_need, is_typed_plan, is_typed_reach}
use Rattle.up_store.specs.declared.files.ServedFile.{ServedFile}
use Rattle.up_store.specs.declared.image_rows.ImageColumns.{ImageColumns}
use Rattle.up_store.specs.declared.numbers.Numbers.{Numbers}
use Rattle.up_store.specs.Fitting.{IsRecorded}
use Rattle.up_store.specs.Lines.{repository_lines, set_lines, sha512_lines, ecu_lines}
use Rattle.up_store.specs.Listing.{ListsRows}
use Rattle.up_store.specs.Shown.{numbers_told}
use Rattle.up_store.specs.Typed.{IsTypedFounding}
use Rattle.up_store.specs.Writes.{FitsAccepted, FitsVehicle}

-- the column of a kept manifest's plan, whose numbers fit their columns
pub record IsMadeOfKept (new : Kept) (plan : List ℕ) : Type 0 where
  pub is : plan ≡ plan_column new.plan
  pub typed : is_typed_plan new.plan ≡ true
  pub version : new.version < 2 ^ 63
  pub root : new.root < 2 ^ 63

-- numbers that fit their columns
pub record FitNumbers (numbers : Numbers) : Type 0 where
  pub meta : FitMeta numbers.meta
  pub own : FitImageRepository numbers.own

-- the founding's numbers, rows of keys, and the names of the Root files of both repositories, made of a root version
pub record AreMadeOfRoot (new : RootRows) (numbers : Numbers) (keys : List RoleKeyRow) (name image_name : Name) : Type 0 where
  pub numbers_are : numbers ≡ numbers_told (Some new.founding)
  pub fit_numbers : FitNumbers numbers
  pub typed : IsTypedFounding new.founding
  pub keys_are : map role_key_row keys ≡ repository_lines new.founding.root Director new.founding.keys.director
      ++ repository_lines new.founding.image_root Image new.founding.keys.image
  pub fit : All FitRoleKey keys
  pub name_is : name ≡ numbered_root_name new.founding.root
  pub image_name_is : image_name ≡ numbered_root_name new.founding.image_root

-- the columns of an image's lists, and those of a campaign, of names and filenames
pub record IsMadeOfImage (new : ImageData) (of_hardware of_needs of_conflicts : List ℕ) : Type 0 where
  pub hardware : of_hardware ≡ names_column new.hardware
  pub needs : of_needs ≡ needs_column new.needs
  pub conflicts : of_conflicts ≡ names_column new.conflicts
  pub idents : list_all is_ident new.hardware ≡ true
  pub typed_needs : list_all is_typed_need new.needs ≡ true
  pub file_names : list_all is_file_name new.conflicts ≡ true

-- these are the columns of its lists
abbrev pub HasColumns : ImageData → ImageColumns → Type 0
HasColumns image lists = IsMadeOfImage image (string_bytes lists.hardware) (string_bytes lists.needs) (string_bytes lists.conflicts)

pub record IsMadeOfCampaign (new : CampaignData) (of_reach of_items : List ℕ) : Type 0 where
  pub reach : of_reach ≡ reach_column new.reach
  pub items : of_items ≡ items_column new.items
  pub typed_reach : is_typed_reach new.reach ≡ true
  pub typed_items : list_all is_typed_item new.items ≡ true

-- the founding's numbers
abbrev pub with_numbers : Numbers → TableRows → TableRows
with_numbers n rows =
    record rows {
      root = n.meta.root;
      image_version = n.meta.image_version;
      stamp = n.meta.stamp;
      image_root = n.own.root;
      targets_version = n.own.targets;
    }

-- no other keys than these
abbrev pub with_key_lines : List Row → TableRows → TableRows
with_key_lines keys rows = record rows { role_keys = keys }

-- no file stands twice
abbrev pub HasFilesOnce : TableRows → Type 0
HasFilesOnce rows = (repository name : List ℕ) → length (rows.files repository name) ≤ 1

-- the texts of these files
abbrev pub with_files : List ServedFile → TableRows → TableRows
with_files files rows = record rows { files = set_lines files rows.files }

-- its second hash, where it has one
abbrev pub with_sha512_line : ImageData → TableRows → TableRows
with_sha512_line image rows = record rows { sha512s = changed_at image.file (λ were. were ++ sha512_lines image.file image.sha512) rows.sha512s }

-- the vehicle is there, with the same ECUs, none twice
pub record IsReported (new : VehicleRows) (rows : TableRows) : Type 0 where
  pub primary : Name
  pub version : ℕ
  pub last : ℕ
  pub vehicle : rows.vehicles new.vehicle.vehicle ≡ vehicle_line new.vehicle.vehicle primary version last ∷ []
  pub olds : List EcuLine
  pub there : rows.ecus new.vehicle.vehicle ≡ map ecu_row olds
  pub same : AreSameEcus olds (ecu_lines new.vehicle.vehicle 0 new.ecus)
  pub distinct : AreDistinct (ecu_lines new.vehicle.vehicle 0 new.ecus)

-- the rows of a vehicle that is there, and of its ECUs
abbrev pub with_reported : VehicleRows → TableRows → TableRows
with_reported new rows = record rows {
  vehicles = with_only new.vehicle.vehicle (vehicle_line new.vehicle.vehicle new.vehicle.primary new.vehicle.version new.vehicle.last) rows.vehicles;
  ecus = set_ecus new.vehicle.vehicle (ecu_lines new.vehicle.vehicle 0 new.ecus) rows.ecus;
}

-- what the tables list fits such rows, with the same Primary, and the numbers fit their columns
pub record MayReport (new : VehicleRows) (s : Connected) : Type 0 where
  pub rows : TableRows
  pub lists : ListsTables rows s.now.trees
  pub reported : IsReported new rows
  pub primary : reported.primary ≡ new.vehicle.primary
  pub fits : FitsVehicle new

-- what the tables list fits an accepted manifest, and its numbers fit their columns
pub record MayAccept (new : AcceptedRows) (s : Connected) : Type 0 where
  pub rows : StateRows
  pub lists : ListsRows rows s.now.trees
  pub recorded : IsRecorded new rows
  pub fits : FitsAccepted new
