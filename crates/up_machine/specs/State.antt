-- The state of the plain machine, and what is read off it. What was published is kept as it was published, and nothing else that can be
-- computed from the rest. No part of it depends on the scheme.
use Rattle.std.specs.Prelude.{ℕ, ◌-◌, ◌==◌, ◌||◌, max, List, [], ◌∷◌, Bool, Option, None, option_map, option_and_then, if◌then◌else◌, is_some, length, find, bytes_eq, slice_get}
use Rattle.std.specs.List.{list_any}
use Rattle.std.specs.FinMap as table
use Rattle.up_canon.specs.Names.{Name, Table}
use Rattle.up_manifest.specs.declared.report.Installed.{Installed}
use Rattle.up_manifest.specs.declared.report.SignedReport.{SignedReport}
use Rattle.up_manifest.specs.declared.manifest.Manifest.{Manifest}
use Rattle.up_manifest.specs.Manifests.{manifest_of}
use Rattle.up_plan.specs.declared.assigned.Plan.{Plan}
use Rattle.up_plan.specs.Campaigns.{CampaignData}
use Rattle.up_plan.specs.Images.{ImageData}
use Rattle.up_roles.specs.declared.repository.Repository.{Repository}
use Rattle.up_roles.specs.declared.repository.Repository.TheVariants.{Director, Image}
use Rattle.up_metadata.specs.declared.keys.RoleSecrets.{RoleSecrets}
use Rattle.up_metadata.specs.declared.keys.RepoKeys.{RepoKeys}
use Rattle.up_metadata.specs.declared.keys.KeySet.{KeySet}
use Rattle.up_metadata.specs.declared.role_files.RoleTexts.{RoleTexts}
use Rattle.up_machine.specs.declared.vehicle.NewEcu.{NewEcu}
use Rattle.up_machine.specs.Vehicles.{NewVehicleData, has_ecu, is_among}

-- ---- the state

-- a repository: the texts of its root versions, the i-th that of version i, and the keys of the last one
pub record Chain : Type 0 where
  pub texts : List (List ℕ)
  pub keys : RepoKeys

-- an accepted manifest: its counter and canonical signed text, the moment and the root version at that moment, the plan, and the text
-- of the reply
pub record Entry : Type 0 where
  pub counter : ℕ
  pub signed : List ℕ
  pub at : ℕ
  pub root : ℕ
  pub plan : Plan
  pub reply : List ℕ

-- a vehicle of the inventory: its Primary, its ECUs in inventory order, the identifiers of those that were replaced, and its accepted
-- manifests in the order of acceptance
pub record Vehicle : Type 0 where
  pub primary : Name
  pub ecus : List NewEcu
  pub retired : List Name
  pub entries : List Entry

-- both repositories, and the image repository's other files; its version is that of its Snapshot and its Timestamp, which were made at the
-- stamp, and its Targets have a version of their own. Before founding there are no files, and these numbers are 0
pub record State : Type 0 where
  pub director : Chain
  pub image : Chain
  pub files : Option RoleTexts
  pub images : Table ImageData
  pub image_version : ℕ
  pub targets_version : ℕ
  pub stamp : ℕ
  pub campaigns : Table CampaignData
  pub vehicles : Table Vehicle

-- a role of no keys
abbrev pub no_role : RoleSecrets
no_role = record { keys = []; threshold = 0 }

abbrev pub no_keys : RepoKeys
no_keys = record { root = no_role; targets = no_role; snapshot = no_role; timestamp = no_role }

-- before founding
abbrev pub no_chain : Chain
no_chain = record { texts = []; keys = no_keys }

-- nothing is founded
abbrev pub empty_state : State
empty_state = record { director = no_chain; image = no_chain; files = None; images = table.empty; image_version = 0; targets_version = 0; stamp = 0; campaigns = table.empty; vehicles = table.empty }

-- the i-th, counted from 1
abbrev pub nth : {A : Type 0} → List A → ℕ → Option A
nth xs i = if i == 0 then None else slice_get xs (i - 1)

-- ---- both repositories

-- they are founded at once
abbrev pub is_founded : State → Bool
is_founded s = is_some s.files

abbrev pub chain_of : Repository → State → Chain
chain_of Director s = s.director
chain_of Image s = s.image

-- how many root versions the Director has, and how many the image repository
abbrev pub root_number : State → ℕ
root_number s = length s.director.texts

abbrev pub image_root_number : State → ℕ
image_root_number s = length s.image.texts

-- the last of these texts; none of none
abbrev pub last_text : List (List ℕ) → Option (List ℕ)
last_text texts = nth texts (length texts)

-- the keys of the last root version
abbrev pub key_set : State → KeySet
key_set s = record { director = s.director.keys; image = s.image.keys }

-- none before founding
abbrev pub keys_before : State → Option KeySet
keys_before s = option_map (λ files. key_set s) s.files

-- ---- a vehicle's version, last counter, plan and reports

-- the vehicle's version: how many manifests were accepted
abbrev pub version : List Entry → ℕ
version entries = length entries

-- the greatest counter, 0 before the first manifest
abbrev pub last_counter : List Entry → ℕ
last_counter [] = 0
last_counter (e ∷ entries) = max e.counter (last_counter entries)

-- the entry with the greatest counter
abbrev pub newest : List Entry → Option Entry
newest entries = find (λ e. e.counter == last_counter entries) entries

-- what is assigned to the vehicle
abbrev pub plan_for : Vehicle → Option Plan
plan_for v = option_map (λ e. e.plan) (newest v.entries)

-- the report of the ECU among these
abbrev pub report_of : Name → List SignedReport → Option SignedReport
report_of ecu reports = find (λ r. bytes_eq r.report.ecu ecu) reports

abbrev pub last_manifest : List Entry → Option Manifest
last_manifest entries = option_and_then (λ e. manifest_of e.signed) (newest entries)

-- the report of the ECU that was accepted last
unfoldable pub last_report : Vehicle → Name → Option SignedReport
last_report v ecu = option_and_then (λ m. report_of ecu m.reports) (last_manifest v.entries)

-- the image that the ECU reported last
abbrev pub installed_on : Vehicle → Name → Option Installed
installed_on v ecu = option_map (λ r. r.report.image) (last_report v ecu)

-- ---- the inventory

-- a vehicle that is added: none of its ECUs was replaced, and none of its manifests was accepted
abbrev pub added : NewVehicleData → Vehicle
added new = record { primary = new.primary; ecus = new.ecus; retired = []; entries = [] }

-- whether the name is that of an ECU of the vehicle, or of one that was replaced
abbrev pub is_taken_in : Name → Vehicle → Bool
is_taken_in ecu v = has_ecu ecu v.ecus || is_among ecu v.retired

-- whether it is that of an ECU of any vehicle
abbrev pub is_recorded : State → Name → Bool
is_recorded s ecu = list_any (λ v. has_ecu ecu v.ecus) (table.values s.vehicles)

-- whether it is that of an ECU of any vehicle that was replaced
abbrev pub is_retired : State → Name → Bool
is_retired s ecu = list_any (λ v. is_among ecu v.retired) (table.values s.vehicles)

-- whether it is either
abbrev pub is_taken : State → Name → Bool
is_taken s ecu = list_any (is_taken_in ecu) (table.values s.vehicles)
