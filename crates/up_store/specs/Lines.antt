-- Rows of the tables, column by column, as they are kept of a state.
use Rattle.std.specs.Prelude.{ℕ, suc, pos, List, [], ◌∷◌, ◌++◌, Option, Some, None, option_map, option_and_then, unwrap_or, map, codes}
use Rattle.std.specs.List.{enumerate_from}
use Rattle.sqlite.specs.Values.{or_null}
use Rattle.sqlite.specs.declared.types.Value.TheVariants.{Int, Text, Blob}
use Rattle.sqlite.specs.Order.{Row}
use Rattle.up_canon.specs.Names.{Name}
use Rattle.up_roles.specs.declared.repository.Repository.{Repository}
use Rattle.up_roles.specs.declared.repository.Repository.TheVariants.{Director, Image}
use Rattle.up_plan.specs.Campaigns.{CampaignData}
use Rattle.up_plan.specs.Images.{ImageData}
use Rattle.up_metadata.specs.declared.role_files.RoleTexts.{RoleTexts}
use Rattle.up_metadata.specs.declared.keys.RoleSecrets.{RoleSecrets}
use Rattle.up_metadata.specs.declared.keys.RepoKeys.{RepoKeys}
use Rattle.up_machine.specs.Files.{numbered_root_name}
use Rattle.up_machine.specs.declared.decision.RootRows.{RootRows}
use Rattle.up_machine.specs.declared.rows.Founding.{Founding}
use Rattle.up_machine.specs.declared.rows.EcuRow.{EcuRow}
use Rattle.up_machine.specs.declared.rows.VehicleRow.{VehicleRow}
use Rattle.up_machine.specs.declared.rows.VehicleRows.{VehicleRows}
use Rattle.up_machine.specs.declared.rows.Kept.{Kept}
use Rattle.up_columns.specs.Columns.{names_column, needs_column}
use Rattle.up_columns.specs.CampaignColumns.{reach_column, items_column}
use Rattle.up_columns.specs.PlanColumns.{plan_column}
use Rattle.up_tables.specs.Lines.{EcuLine, ecu_row, campaign_line, vehicle_line, retired_line, sha512_line, yes_or_no}
use Rattle.up_tables.specs.Rows.{with_only_at}
use Rattle.up_store.specs.declared.campaign_rows.CampaignShown.{CampaignShown}
use Rattle.up_store.specs.declared.image_rows.ImageShown.{ImageShown}
use Rattle.up_store.specs.declared.keys.RoleKey.{RoleKey}
use Rattle.up_store.specs.declared.files.ServedFile.{ServedFile}
use Rattle.up_store.specs.declared.second_hashes.SecondHash.{SecondHash}

-- ---- meta: the numbers of the founding; zeros before it

abbrev pub founding_number : (Founding → ℕ) → Option Founding → ℕ
founding_number part founding = unwrap_or (option_map part founding) 0

-- ---- role_key: the keys of a role in the order given, the places counted from 0

abbrev pub key_row : RoleKey → Row
key_row k = Int (pos k.root) ∷ Text k.repository ∷ Text k.role ∷ Int (pos k.place) ∷ Blob k.secret ∷ Int (pos k.threshold) ∷ []

abbrev pub repository_word : Repository → List ℕ
repository_word Director = codes "director"
repository_word Image = codes "image"

abbrev pub role_lines : ℕ → Repository → List ℕ → RoleSecrets → List Row
role_lines root repository role keys =
    map (λ key. Int (pos root) ∷ Text (repository_word repository) ∷ Text role ∷ Int (pos key.0) ∷ Blob key.1 ∷ Int (pos keys.threshold) ∷ [])
    (enumerate_from 0 keys.keys)

abbrev pub repository_lines : ℕ → Repository → RepoKeys → List Row
repository_lines root repository keys =
    role_lines root repository (codes "root") keys.root ++ role_lines root repository (codes "targets") keys.targets
    ++ role_lines root repository (codes "snapshot") keys.snapshot ++ role_lines root repository (codes "timestamp") keys.timestamp

-- of the last root version of each repository, the director's first; none before founding
abbrev pub founding_lines : Option Founding → List Row
founding_lines None = []
founding_lines (Some f) = repository_lines f.root Director f.keys.director ++ repository_lines f.image_root Image f.keys.image

-- ---- repo_file: a file that is served

abbrev pub file_row : ServedFile → Row
file_row f = Text f.repository ∷ Text f.name ∷ Text f.body ∷ []

abbrev pub file_line : Repository → Name → List ℕ → ServedFile
file_line repository name body = record { repository = repository_word repository; name = name; body = body }

abbrev pub file_lines : Repository → Name → Option (List ℕ) → List Row
file_lines repository name None = []
file_lines repository name (Some body) = file_row (file_line repository name body) ∷ []

-- each of the files, in turn, has its text alone
abbrev pub set_lines : List ServedFile → (List ℕ → List ℕ → List Row) → List ℕ → List ℕ → List Row
set_lines [] rows_of = rows_of
set_lines (f ∷ fs) rows_of = set_lines fs (with_only_at f.repository f.name (file_row f) rows_of)

-- the Root files of a new version, which is the latest, too
abbrev pub root_file_lines : RootRows → List ServedFile
root_file_lines new =
    file_line Director (numbered_root_name new.founding.root) new.director ∷ file_line Director (codes "root.json") new.director
    ∷ file_line Image (numbered_root_name new.founding.image_root) new.image ∷ file_line Image (codes "root.json") new.image ∷ []

-- the image repository's files that are made together
abbrev pub role_file_lines : RoleTexts → List ServedFile
role_file_lines texts =
    file_line Image (codes "targets.json") texts.targets ∷ file_line Image (codes "snapshot.json") texts.snapshot
    ∷ file_line Image (codes "timestamp.json") texts.timestamp ∷ []

-- ---- image, campaign, vehicle: the row of a name, or none

abbrev pub image_line : ImageData → Row
image_line i =
    Text i.file ∷ Int (pos i.length) ∷ Blob i.sha256 ∷ Text (names_column i.hardware) ∷ Int (pos i.release)
    ∷ Text (needs_column i.needs) ∷ Text (names_column i.conflicts) ∷ []

abbrev pub image_lines : Option ImageData → List Row
image_lines None = []
image_lines (Some i) = image_line i ∷ []

-- as it is read, its lists still texts
abbrev pub image_shown_line : ImageShown → Row
image_shown_line i =
    Text i.file ∷ Int (pos i.length) ∷ Blob i.sha256 ∷ Text i.hardware ∷ Int (pos i.release) ∷ Text i.needs ∷ Text i.conflicts ∷ []

abbrev pub line_of_campaign : CampaignData → Row
line_of_campaign c = campaign_line c.name (reach_column c.reach) (items_column c.items) (yes_or_no c.running)

abbrev pub campaign_lines : Option CampaignData → List Row
campaign_lines None = []
campaign_lines (Some c) = line_of_campaign c ∷ []

-- as it is read, its reach and its items still texts
abbrev pub campaign_shown_line : CampaignShown → Row
campaign_shown_line c = campaign_line c.name c.reach c.items (yes_or_no c.running)

abbrev pub row_of_vehicle : VehicleRow → Row
row_of_vehicle row = vehicle_line row.vehicle row.primary row.version row.last

abbrev pub vehicle_lines : Option VehicleRows → List Row
vehicle_lines None = []
vehicle_lines (Some v) = row_of_vehicle v.vehicle ∷ []

-- ---- image_sha512: the second hash of an image, or none

abbrev pub second_hash : Option ImageData → Option (List ℕ)
second_hash image = option_and_then (λ i. i.sha512) image

abbrev pub hash_line : SecondHash → Row
hash_line h = sha512_line h.file h.sha512

abbrev pub sha512_lines : Name → Option (List ℕ) → List Row
sha512_lines file None = []
sha512_lines file (Some hash) = sha512_line file hash ∷ []

-- ---- ecu: the ECUs of a vehicle in inventory order, the places counted from 0

abbrev pub ecu_line : Name → ℕ → EcuRow → EcuLine
ecu_line vehicle place row = record {
  ecu = row.ecu;
  vehicle = vehicle;
  place = pos place;
  hardware = row.hardware;
  public_key = row.public;
  file = or_null (λ i. Text i.file) row.installed;
  size = or_null (λ i. Int (pos i.length)) row.installed;
  hash = or_null (λ i. Blob i.sha256) row.installed;
  counter = pos row.counter;
  report = or_null (λ t. Text t) row.report;
}

-- what a read shows of it: all columns but the vehicle and the place
abbrev pub ecu_shown : EcuRow → Row
ecu_shown row =
    Text row.ecu ∷ Text row.hardware ∷ Blob row.public ∷ or_null (λ i. Text i.file) row.installed ∷ or_null (λ i. Int (pos i.length)) row.installed
    ∷ or_null (λ i. Blob i.sha256) row.installed ∷ Int (pos row.counter) ∷ or_null (λ t. Text t) row.report ∷ []

abbrev pub ecu_lines : Name → ℕ → List EcuRow → List EcuLine
ecu_lines vehicle place [] = []
ecu_lines vehicle place (row ∷ rows) = ecu_line vehicle place row ∷ ecu_lines vehicle (suc place) rows

abbrev pub ecus_lines : Name → Option VehicleRows → List Row
ecus_lines name None = []
ecus_lines name (Some v) = map ecu_row (ecu_lines name 0 v.ecus)

-- ---- retired: the ECUs of a vehicle that were replaced, in the order of their replacement

abbrev pub retired_lines : Name → List Name → List Row
retired_lines vehicle ecus = map (λ ecu. retired_line ecu vehicle) ecus

-- ---- kept: an accepted manifest

abbrev pub kept_line : Kept → Row
kept_line row =
    Text row.vehicle ∷ Int (pos row.counter) ∷ Int (pos row.version) ∷ Int (pos row.at) ∷ Int (pos row.root)
    ∷ Text row.signed ∷ Text (plan_column row.plan) ∷ Text row.reply ∷ []
