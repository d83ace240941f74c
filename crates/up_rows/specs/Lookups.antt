-- What is looked up among the rows of a state.
use Rattle.std.specs.Prelude.{ℕ, ◌==◌, Bool, List, Option, None, option_and_then, option_map, if◌then◌else◌, map, find, codes, bytes_eq}
use Rattle.std.specs.List.{list_any}
use Rattle.std.specs.Option.{option_or}
use Rattle.std.specs.FinMap as table
use Rattle.up_canon.specs.Names.{Name}
use Rattle.up_manifest.specs.declared.report.Installed.{Installed}
use Rattle.up_plan.specs.declared.assigned.Plan.{Plan}
use Rattle.up_roles.specs.declared.repository.Repository.{Repository}
use Rattle.up_roles.specs.declared.repository.Repository.TheVariants.{Director, Image}
use Rattle.up_metadata.specs.declared.role_files.RoleTexts.{RoleTexts}
use Rattle.up_machine.specs.declared.rows.EcuRow.{EcuRow}
use Rattle.up_machine.specs.declared.rows.Kept.{Kept}
use Rattle.up_machine.specs.declared.rows.VehicleRows.{VehicleRows}
use Rattle.up_machine.specs.State.{last_text}
use Rattle.up_machine.specs.Files.{File, numbered_roots, texts_in}
use Rattle.up_machine.specs.Vehicles.{is_among}
use Rattle.up_rows.specs.StateRows.{StateRows}

-- ---- accepted manifests

-- the vehicle's row with this counter
abbrev pub kept_with : Name → ℕ → StateRows → Option Kept
kept_with name counter rows = find (λ row. row.counter == counter) (rows.kept name)

-- the vehicle's row with its greatest counter; none of an unknown vehicle
abbrev pub latest_kept : Name → StateRows → Option Kept
latest_kept name rows = option_and_then (λ v. kept_with name v.vehicle.last rows) (table.get rows.vehicles name)

-- ---- ECUs

-- an ECU of the name stands among these rows
abbrev pub stands_among : Name → List EcuRow → Bool
stands_among ecu rows = list_any (λ row. bytes_eq row.ecu ecu) rows

-- the first of the vehicles in which the ECU stands
abbrev pub owner_among : Name → List VehicleRows → Option VehicleRows
owner_among ecu vehicles = find (λ rows. stands_among ecu rows.ecus) vehicles

-- the first of the vehicles in which an ECU of the name was replaced
abbrev pub last_owner : Name → StateRows → Option Name
last_owner ecu rows = find (λ vehicle. is_among ecu (rows.retired vehicle)) (table.keys rows.vehicles)

-- the vehicle in which the ECU stands, else the one in which it was replaced
abbrev pub owner_found : Name → StateRows → Option Name
owner_found ecu rows = option_or (option_map (λ v. v.vehicle.vehicle) (owner_among ecu (table.values rows.vehicles))) (last_owner ecu rows)

-- the image in the first of these rows that is the ECU's
abbrev pub installed_among : Name → List EcuRow → Option Installed
installed_among ecu rows = option_and_then (λ row. row.installed) (find (λ row. bytes_eq row.ecu ecu) rows)

-- ---- files

-- the texts of a repository's root versions
abbrev pub root_texts : Repository → StateRows → List (List ℕ)
root_texts Director rows = rows.director
root_texts Image rows = rows.image

-- the text of the first of these files of this name
abbrev pub text_named : Name → List File → Option (List ℕ)
text_named name files = option_map (λ f. f.1) (find (λ f. bytes_eq f.0 name) files)

-- the text of a root version's file of this name; `root.json` is the last one's
abbrev pub root_named : Name → List (List ℕ) → Option (List ℕ)
root_named name texts = option_or (if bytes_eq (codes "root.json") name then last_text texts else None) (text_named name (numbered_roots texts))

-- the text of one of the image repository's other files
abbrev pub text_among : Option RoleTexts → Name → Option (List ℕ)
text_among texts name = text_named name (texts_in texts)

-- the text of a file of this name
abbrev pub other_text : Repository → Option RoleTexts → Name → Option (List ℕ)
other_text Director texts name = None
other_text Image texts name = text_among texts name

abbrev pub text_held : StateRows → Repository → Name → Option (List ℕ)
text_held rows repository name = option_or (root_named name (root_texts repository rows)) (other_text repository rows.files name)

-- ---- what is told of the inventory

abbrev pub version_told : StateRows → Name → Option ℕ
version_told rows vehicle = option_map (λ v. v.vehicle.version) (table.get rows.vehicles vehicle)

abbrev pub ecus_told : StateRows → Name → Option (List Name)
ecus_told rows vehicle = option_map (λ v. map (λ row. row.ecu) v.ecus) (table.get rows.vehicles vehicle)

-- of the vehicle in which the ECU stands
abbrev pub installed_told : StateRows → Name → Option Installed
installed_told rows ecu = option_and_then (λ v. installed_among ecu v.ecus) (owner_among ecu (table.values rows.vehicles))

-- of the vehicle's row with its greatest counter
abbrev pub plan_told : StateRows → Name → Option Plan
plan_told rows vehicle = option_map (λ row. row.plan) (latest_kept vehicle rows)
