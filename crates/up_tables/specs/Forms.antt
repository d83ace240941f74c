-- Rows as values, column by column, and which of their numbers fit a column.
use Rattle.std.specs.Prelude.{◌<◌, ◌^◌, ℕ, pos, List, [], ◌∷◌, filter, map}
use Rattle.sqlite.specs.declared.types.Value.TheVariants.{Int, Text, Blob}
use Rattle.sqlite.specs.Order.{Row}
use Rattle.up_tables.specs.declared.image.ImageRow.{ImageRow}
use Rattle.up_tables.specs.declared.kept.KeptRow.{KeptRow}
use Rattle.up_tables.specs.declared.repo_file.FileRow.{FileRow}
use Rattle.up_tables.specs.Rows.{columns_at, has_number, with_only_at}
use Rattle.up_tables.specs.declared.vehicle.VehicleRow.{VehicleRow}
use Rattle.up_tables.specs.Lines.{meta_row, image_repository_row, campaign_line, vehicle_line, yes_or_no}
use Rattle.up_tables.specs.declared.image_repository.ImageRepositoryRow.{ImageRepositoryRow}
use Rattle.up_tables.specs.declared.meta.MetaRow.{MetaRow}
use Rattle.up_tables.specs.declared.role_key.RoleKeyRow.{RoleKeyRow}
use Rattle.up_tables.specs.declared.campaign.CampaignRow.{CampaignRow}

-- an image: what it is, the hardware that it is for, and its needs and conflicts as texts
abbrev pub image_row : ImageRow → Row
image_row i =
    Text i.file.now ∷ Int (pos i.length) ∷ Blob i.sha256.now ∷ Text i.hardware.now ∷ Int (pos i.release_count)
    ∷ Text i.needs.now ∷ Text i.conflicts.now ∷ []

abbrev pub image_places : List ℕ
image_places = 0 ∷ 1 ∷ 2 ∷ 3 ∷ 4 ∷ 5 ∷ 6 ∷ []

pub record FitImage (i : ImageRow) : Type 0 where
  pub length : i.length < 2 ^ 63
  pub release_count : i.release_count < 2 ^ 63

abbrev pub sha512_places : List ℕ
sha512_places = 0 ∷ 1 ∷ []

abbrev pub campaign_row : CampaignRow → Row
campaign_row c = campaign_line c.name.now c.reach.now c.items.now (yes_or_no c.running)

abbrev pub campaign_places : List ℕ
campaign_places = 0 ∷ 1 ∷ 2 ∷ 3 ∷ []

-- those that run
abbrev pub running_shown : List Row → List Row
running_shown rows = map (columns_at campaign_places) (filter (has_number 3 (pos 1)) rows)

abbrev pub vehicle_row : VehicleRow → Row
vehicle_row v = vehicle_line v.vehicle.now v.primary_ecu.now v.version v.last_counter

abbrev pub vehicle_places : List ℕ
vehicle_places = 0 ∷ 1 ∷ 2 ∷ 3 ∷ []

pub record FitVehicle (v : VehicleRow) : Type 0 where
  pub version : v.version < 2 ^ 63
  pub last_counter : v.last_counter < 2 ^ 63

-- an accepted manifest: when it came, under which root version, and what was planned and answered
abbrev pub kept_row : KeptRow → Row
kept_row k =
    Text k.vehicle.now ∷ Int (pos k.counter) ∷ Int (pos k.version) ∷ Int (pos k.moment) ∷ Int (pos k.root)
    ∷ Text k.signed.now ∷ Text k.plan_text.now ∷ Text k.reply.now ∷ []

abbrev pub kept_places : List ℕ
kept_places = 0 ∷ 1 ∷ 2 ∷ 3 ∷ 4 ∷ 5 ∷ 6 ∷ 7 ∷ []

pub record FitKept (k : KeptRow) : Type 0 where
  pub counter : k.counter < 2 ^ 63
  pub version : k.version < 2 ^ 63
  pub moment : k.moment < 2 ^ 63
  pub root : k.root < 2 ^ 63

-- a file that is served
abbrev pub file_row : FileRow → Row
file_row f = Text f.repository.now ∷ Text f.name.now ∷ Text f.body.now ∷ []

abbrev pub file_places : List ℕ
file_places = 0 ∷ 1 ∷ 2 ∷ []

-- each of the files, in turn, has its text alone
abbrev pub set_files : List FileRow → (List ℕ → List ℕ → List Row) → List ℕ → List ℕ → List Row
set_files [] rows_of = rows_of
set_files (f ∷ fs) rows_of = set_files fs (with_only_at f.repository.now f.name.now (file_row f) rows_of)

-- the row of `meta` with these numbers, and what a read of it is of
abbrev pub meta_of : MetaRow → Row
meta_of m = meta_row m.root m.image_version m.stamp

abbrev pub meta_values : MetaRow → Row
meta_values m = Int (pos m.root) ∷ Int (pos m.image_version) ∷ Int (pos m.stamp) ∷ []

pub record FitMeta (m : MetaRow) : Type 0 where
  pub root : m.root < 2 ^ 63
  pub image_version : m.image_version < 2 ^ 63
  pub stamp : m.stamp < 2 ^ 63

-- the row of `image_repository` with these numbers
abbrev pub image_repository_of : ImageRepositoryRow → Row
image_repository_of r = image_repository_row r.root r.targets

abbrev pub image_repository_values : ImageRepositoryRow → Row
image_repository_values r = Int (pos r.root) ∷ Int (pos r.targets) ∷ []

pub record FitImageRepository (r : ImageRepositoryRow) : Type 0 where
  pub root : r.root < 2 ^ 63
  pub targets : r.targets < 2 ^ 63

-- a key of a role in a root version, at its place there, with the role's threshold
abbrev pub role_key_row : RoleKeyRow → Row
role_key_row k =
    Int (pos k.root) ∷ Text k.repository.now ∷ Text k.role.now ∷ Int (pos k.place) ∷ Blob k.secret.now ∷ Int (pos k.threshold) ∷ []

abbrev pub role_key_places : List ℕ
role_key_places = 0 ∷ 1 ∷ 2 ∷ 3 ∷ 4 ∷ 5 ∷ []

-- what a read of keys shows of them
abbrev pub keys_shown : List Row → List Row
keys_shown all = map (columns_at role_key_places) all

pub record FitRoleKey (k : RoleKeyRow) : Type 0 where
  pub root : k.root < 2 ^ 63
  pub place : k.place < 2 ^ 63
  pub threshold : k.threshold < 2 ^ 63
