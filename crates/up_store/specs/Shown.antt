-- What rows of tables are read as.
use Rattle.std.specs.Prelude.{◌≡◌, ◌==◌, ℕ, ◌&&◌, Bool, List, Option, Some, map, filter, find, option_map, option_and_then, unwrap_or, bytes_eq, codes}
use Rattle.up_manifest.specs.Manifests.{report_sha512_of}
use Rattle.up_metadata.specs.declared.keys.RoleSecrets.{RoleSecrets}
use Rattle.up_metadata.specs.declared.keys.RepoKeys.{RepoKeys}
use Rattle.up_canon.specs.Names.{Name}
use Rattle.up_plan.specs.Campaigns.{CampaignData}
use Rattle.up_plan.specs.Images.{ImageData}
use Rattle.up_plan.specs.declared.campaign.Item.{Item}
use Rattle.up_plan.specs.declared.campaign.Reach.{Reach}
use Rattle.up_plan.specs.declared.image.Need.{Need}
use Rattle.up_machine.specs.declared.rows.Founding.{Founding}
use Rattle.up_machine.specs.declared.rows.VehicleRow.{VehicleRow}
use Rattle.up_tables.specs.declared.image_repository.ImageRepositoryRow.{ImageRepositoryRow}
use Rattle.up_tables.specs.declared.meta.MetaRow.{MetaRow}
use Rattle.up_tables.specs.declared.repo_file.FileRow.{FileRow as FileShown}
use Rattle.up_store.specs.declared.keys.RoleKey.{RoleKey}
use Rattle.up_store.specs.declared.numbers.Numbers.{Numbers}
use Rattle.up_tables.specs.declared.vehicle.VehicleRow.{VehicleRow as VehicleShown}
use Rattle.up_store.specs.declared.files.ServedFile.{ServedFile}
use Rattle.up_store.specs.Lines.{founding_number}

-- ---- vehicles

abbrev pub vehicle_read : VehicleShown → VehicleRow
vehicle_read shown = record {
  vehicle = shown.vehicle.now;
  primary = shown.primary_ecu.now;
  version = shown.version;
  last = shown.last_counter;
}

-- the second hash that the text of a report has, which no column has of its own
abbrev pub reported_sha512 : Option (List ℕ) → Option (List ℕ)
reported_sha512 report = option_and_then report_sha512_of report

-- ---- files

abbrev pub file_read : FileShown → ServedFile
file_read shown = record { repository = shown.repository.now; name = shown.name.now; body = shown.body.now }

-- ---- the founding

-- zeros before it
abbrev pub meta_told : Option Founding → MetaRow
meta_told founding = record {
  root = founding_number (λ f. f.root) founding;
  image_version = founding_number (λ f. f.image_version) founding;
  stamp = founding_number (λ f. f.stamp) founding;
}

-- the image repository's own, likewise
abbrev pub own_told : Option Founding → ImageRepositoryRow
own_told founding = record {
  root = founding_number (λ f. f.image_root) founding;
  targets = founding_number (λ f. f.targets_version) founding;
}

abbrev pub numbers_told : Option Founding → Numbers
numbers_told founding = record { meta = meta_told founding; own = own_told founding }

-- ---- keys

-- the row is of this role of this repository, in this root version
abbrev pub is_key_of : ℕ → List ℕ → List ℕ → RoleKey → Bool
is_key_of root repository role row = bytes_eq row.repository repository && (bytes_eq row.role role && (row.root == root))

abbrev pub secrets_of : ℕ → List ℕ → List ℕ → List RoleKey → List (List ℕ)
secrets_of root repository role rows = map (λ row. row.secret) (filter (is_key_of root repository role) rows)

-- the first of its rows has it; of no row it is 0
abbrev pub threshold_of : ℕ → List ℕ → List ℕ → List RoleKey → Option ℕ
threshold_of root repository role rows = option_map (λ row. row.threshold) (find (is_key_of root repository role) rows)

pub record IsRoleOf (root : ℕ) (repository role : List ℕ) (rows : List RoleKey) (keys : RoleSecrets) : Type 0 where
  pub secrets : keys.keys ≡ secrets_of root repository role rows
  pub threshold : unwrap_or (threshold_of root repository role rows) 0 ≡ keys.threshold

pub record AreKeysOf (number : ℕ) (repository : List ℕ) (rows : List RoleKey) (keys : RepoKeys) : Type 0 where
  pub root : IsRoleOf number repository (codes "root") rows keys.root
  pub targets : IsRoleOf number repository (codes "targets") rows keys.targets
  pub snapshot : IsRoleOf number repository (codes "snapshot") rows keys.snapshot
  pub timestamp : IsRoleOf number repository (codes "timestamp") rows keys.timestamp

-- the founding has these numbers and the keys of these rows
pub record IsFoundingOf (row : MetaRow) (own : ImageRepositoryRow) (rows : List RoleKey) (read : Option Founding) : Type 0 where
  pub founding : Founding
  pub is : read ≡ Some founding
  pub numbers : meta_told (Some founding) ≡ row
  pub own_numbers : own_told (Some founding) ≡ own
  pub director : AreKeysOf row.root (codes "director") rows founding.keys.director
  pub image : AreKeysOf own.root (codes "image") rows founding.keys.image

-- ---- images and campaigns, of what was read of their rows

abbrev pub image_made : Name → ℕ → List ℕ → Option (List ℕ) → List Name → ℕ → List Need → List Name → ImageData
image_made file size sha256 sha512 hardware release needs conflicts =
    record {
      file = file;
      length = size;
      sha256 = sha256;
      sha512 = sha512;
      hardware = hardware;
      release = release;
      needs = needs;
      conflicts = conflicts;
    }

abbrev pub campaign_made : Name → Reach → List Item → Bool → CampaignData
campaign_made name reach items running = record { name = name; reach = reach; items = items; running = running }
