-- What the types of rows say of them: each stands under its own name, its names, counts, moments and hashes are such, its members are within
-- their limits and its texts in UTF-8, what is kept as JSON can be read again, the text of an ECU's last report has the second hash of the
-- installed image, and an ECU was replaced in a vehicle that is there.
use Rattle.std.specs.Prelude.{◌≡◌, ◌⊎◌, ◌≤◌, ◌<◌, ◌^◌, [], Some, None, IfSome, IsUtf8, true, length}
use Rattle.std.specs.List.{AllByRecursion, list_all}
use Rattle.std.specs.FinMap as table
use Rattle.up_canon.specs.Canon.{max_count}
use Rattle.up_canon.specs.Moments.{last_moment}
use Rattle.up_canon.specs.Names.{Name, is_ident, is_file_name}
use Rattle.up_manifest.specs.declared.report.Installed.{Installed}
use Rattle.up_plan.specs.Campaigns.{CampaignData, campaign_fits}
use Rattle.up_plan.specs.Images.{ImageData, image_fits}
use Rattle.up_metadata.specs.declared.keys.RoleSecrets.{RoleSecrets}
use Rattle.up_metadata.specs.declared.keys.RepoKeys.{RepoKeys}
use Rattle.up_metadata.specs.declared.keys.KeySet.{KeySet}
use Rattle.up_metadata.specs.declared.role_files.RoleTexts.{RoleTexts}
use Rattle.up_machine.specs.State.{no_role}
use Rattle.up_machine.specs.declared.rows.VehicleRow.{VehicleRow}
use Rattle.up_machine.specs.declared.rows.VehicleRows.{VehicleRows}
use Rattle.up_machine.specs.declared.rows.EcuRow.{EcuRow}
use Rattle.up_machine.specs.declared.rows.Founding.{Founding}
use Rattle.up_machine.specs.declared.rows.Kept.{Kept}
use Rattle.up_rows.specs.SecondHashes.{TellsItsHash}
use Rattle.up_rows.specs.StateRows.{StateRows}
use Rattle.up_store.specs.declared.campaign_rows.CampaignShown.{CampaignShown}
use Rattle.up_store.specs.declared.image_rows.ImageShown.{ImageShown}
use Rattle.up_store.specs.declared.keys.RoleKey.{RoleKey}
use Rattle.up_store.specs.declared.files.ServedFile.{ServedFile}
use Rattle.up_store.specs.declared.second_hashes.SecondHash.{SecondHash}
use Rattle.up_columns.specs.Typed.{is_typed_need, is_typed_item, is_typed_reach, is_typed_plan}

-- ---- keys

-- a role has a key, or nothing at all is held of it: a threshold stands in the rows of keys alone
abbrev pub HasKeys : RoleSecrets → Type 0
HasKeys role = (1 ≤ length role.keys) ⊎ (role ≡ no_role)

pub record HaveKeys (keys : RepoKeys) : Type 0 where
  pub root : HasKeys keys.root
  pub targets : HasKeys keys.targets
  pub snapshot : HasKeys keys.snapshot
  pub timestamp : HasKeys keys.timestamp

pub record EachHasKeys (keys : KeySet) : Type 0 where
  pub director : HaveKeys keys.director
  pub image : HaveKeys keys.image

-- a threshold is a number of 32 bits
abbrev pub IsTypedRole : RoleSecrets → Type 0
IsTypedRole role = role.threshold < 2 ^ 32

pub record AreTypedKeys (keys : RepoKeys) : Type 0 where
  pub root : IsTypedRole keys.root
  pub targets : IsTypedRole keys.targets
  pub snapshot : IsTypedRole keys.snapshot
  pub timestamp : IsTypedRole keys.timestamp

-- ---- the founding, root versions, files

-- its numbers are such as a column holds
pub record IsTypedFounding (founding : Founding) : Type 0 where
  pub director : AreTypedKeys founding.keys.director
  pub image : AreTypedKeys founding.keys.image
  pub stamp : founding.stamp ≤ last_moment
  pub root : founding.root < 2 ^ 63
  pub image_root : founding.image_root < 2 ^ 63
  pub image_version : founding.image_version < 2 ^ 63
  pub targets_version : founding.targets_version < 2 ^ 63

pub record AreTypedTexts (texts : RoleTexts) : Type 0 where
  pub targets : IsUtf8 texts.targets
  pub snapshot : IsUtf8 texts.snapshot
  pub timestamp : IsUtf8 texts.timestamp

-- its texts are in UTF-8
pub record IsTypedFile (f : ServedFile) : Type 0 where
  pub repository : IsUtf8 f.repository
  pub name : IsUtf8 f.name
  pub body : IsUtf8 f.body

-- the texts of a key's row
pub record IsTypedKey (k : RoleKey) : Type 0 where
  pub repository : IsUtf8 k.repository
  pub role : IsUtf8 k.role

-- ---- images, campaigns

-- under its own filename, and within an image's limits; its lists are of names, filenames and counts
pub record IsTypedImage (file : Name) (image : ImageData) : Type 0 where
  pub named : image.file ≡ file
  pub file_name : is_file_name image.file ≡ true
  pub size : image.length ≤ max_count
  pub sha256 : length image.sha256 ≡ 32
  pub sha512 : IfSome image.sha512 (λ hash. length hash ≡ 64)
  pub hardware : list_all is_ident image.hardware ≡ true
  pub release : image.release ≤ max_count
  pub needs : list_all is_typed_need image.needs ≡ true
  pub conflicts : list_all is_file_name image.conflicts ≡ true
  pub fits : image_fits image ≡ true

-- the same of its row, its lists still texts
pub record IsTypedImageRow (i : ImageShown) : Type 0 where
  pub file : is_file_name i.file ≡ true
  pub size : i.length ≤ max_count
  pub sha256 : length i.sha256 ≡ 32
  pub hardware : IsUtf8 i.hardware
  pub release : i.release ≤ max_count
  pub needs : IsUtf8 i.needs
  pub conflicts : IsUtf8 i.conflicts

-- under its own name, and within a campaign's limits
pub record IsTypedCampaign (name : Name) (campaign : CampaignData) : Type 0 where
  pub named : campaign.name ≡ name
  pub ident : is_ident campaign.name ≡ true
  pub reach : is_typed_reach campaign.reach ≡ true
  pub items : list_all is_typed_item campaign.items ≡ true
  pub fits : campaign_fits campaign ≡ true

-- the same of its row, its reach and its items still texts
pub record IsTypedCampaignRow (c : CampaignShown) : Type 0 where
  pub name : is_ident c.name ≡ true
  pub reach : IsUtf8 c.reach
  pub items : IsUtf8 c.items

-- the second hash of an image, of 64 bytes
pub record IsTypedHash (h : SecondHash) : Type 0 where
  pub file : IsUtf8 h.file
  pub whole : length h.sha512 ≡ 64

-- ---- vehicles

pub record IsTypedInstalled (installed : Installed) : Type 0 where
  pub file : is_file_name installed.file ≡ true
  pub size : installed.length ≤ max_count
  pub sha256 : length installed.sha256 ≡ 32

pub record IsTypedEcu (row : EcuRow) : Type 0 where
  pub ecu : is_ident row.ecu ≡ true
  pub hardware : is_ident row.hardware ≡ true
  pub installed : IfSome row.installed IsTypedInstalled
  pub counter : row.counter ≤ max_count
  pub report : IfSome row.report IsUtf8

-- the same, whose report tells the second hash of what is installed
abbrev pub IsToldEcu : EcuRow → Type 0
IsToldEcu row = IsTypedEcu row × TellsItsHash row

pub record IsTypedVehicleRow (row : VehicleRow) : Type 0 where
  pub vehicle : is_ident row.vehicle ≡ true
  pub primary : is_ident row.primary ≡ true
  pub last : row.last ≤ max_count

-- under its own name; no column keeps the second hash of an installed image, so that its ECU's report tells it
pub record IsTypedVehicle (name : Name) (rows : VehicleRows) : Type 0 where
  pub named : rows.vehicle.vehicle ≡ name
  pub row : IsTypedVehicleRow rows.vehicle
  pub ecus : AllByRecursion IsTypedEcu rows.ecus
  pub tell : AllByRecursion TellsItsHash rows.ecus

-- ---- accepted manifests

-- the kept row of a vehicle: its plan is of names and filenames
pub record IsTypedKept (vehicle : Name) (row : Kept) : Type 0 where
  pub named : row.vehicle ≡ vehicle
  pub ident : is_ident row.vehicle ≡ true
  pub counter : row.counter ≤ max_count
  pub moment : row.at ≤ last_moment
  pub signed : IsUtf8 row.signed
  pub plan : is_typed_plan row.plan ≡ true
  pub reply : IsUtf8 row.reply

-- ---- all rows

pub record AreTyped (rows : StateRows) : Type 0 where
  pub founding : IfSome rows.founding IsTypedFounding
  pub keys : IfSome rows.founding (λ f. EachHasKeys f.keys)
  pub director : AllByRecursion IsUtf8 rows.director
  pub image : AllByRecursion IsUtf8 rows.image
  pub images : (file : Name) (image : ImageData) → table.get rows.images file ≡ Some image → IsTypedImage file image
  pub files : IfSome rows.files AreTypedTexts
  pub campaigns : (name : Name) (campaign : CampaignData) → table.get rows.campaigns name ≡ Some campaign → IsTypedCampaign name campaign
  pub vehicles : (name : Name) (vehicle : VehicleRows) → table.get rows.vehicles name ≡ Some vehicle → IsTypedVehicle name vehicle
  pub kept : (name : Name) → AllByRecursion (IsTypedKept name) (rows.kept name)
  pub retired : (name : Name) → table.get rows.vehicles name ≡ None → rows.retired name ≡ []
