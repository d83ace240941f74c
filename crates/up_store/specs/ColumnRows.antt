-- Rows with columns that hold lists or a plan: which value each is of.
use Rattle.std.specs.Prelude.{◌≡◌, ℕ, List, Some, Result, IfErr, if◌then◌else◌, filter, map, bytes_eq}
use Rattle.std.specs.FinMap as table
use Rattle.up_canon.specs.Names.{Name, Table}
use Rattle.up_canon.specs.Refusals.{is_memory}
use Rattle.up_canon.specs.Steps.{if_passes}
use Rattle.up_canon.specs.declared.refusal.Refusal.{Refusal}
use Rattle.up_plan.specs.Campaigns.{CampaignData}
use Rattle.up_plan.specs.Images.{ImageData}
use Rattle.up_rows.specs.StateRows.{StateRows}
use Rattle.up_columns.specs.Columns.{names_column, needs_column}
use Rattle.up_columns.specs.CampaignColumns.{reach_column, items_column}
use Rattle.up_store.specs.declared.campaign_rows.CampaignShown.{CampaignShown}
use Rattle.up_store.specs.declared.image_rows.ImageShown.{ImageShown}
use Rattle.up_store.specs.declared.second_hashes.SecondHash.{SecondHash}
use Rattle.up_tables.specs.declared.values.StoreFault.{StoreFault}
use Rattle.up_tables.specs.declared.values.StoreFault.TheVariants.{Memory, Store}
use Rattle.up_store.specs.Lines.{campaign_shown_line, hash_line, image_lines, image_shown_line, second_hash, sha512_lines, campaign_lines}
use Rattle.up_store.specs.Typed.{IsTypedImage, IsTypedCampaign}

-- want of memory by itself, every fault of a column alike
abbrev pub column_fault : Refusal → StoreFault
column_fault refused = if is_memory refused then Memory else Store

-- ---- one row

-- all but its second hash, which stands in a table of its own
pub record IsImage (shown : ImageShown) (image : ImageData) : Type 0 where
  pub file : shown.file ≡ image.file
  pub length : shown.length ≡ image.length
  pub sha256 : shown.sha256 ≡ image.sha256
  pub hardware : shown.hardware ≡ names_column image.hardware
  pub release : shown.release ≡ image.release
  pub needs : shown.needs ≡ needs_column image.needs
  pub conflicts : shown.conflicts ≡ names_column image.conflicts

pub record IsCampaign (shown : CampaignShown) (campaign : CampaignData) : Type 0 where
  pub name : shown.name ≡ campaign.name
  pub reach : shown.reach ≡ reach_column campaign.reach
  pub items : shown.items ≡ items_column campaign.items
  pub running : shown.running ≡ campaign.running

-- ---- what is told of a row that stands for a value that fits, and else a fault

abbrev pub OfImage : ImageShown → (ImageData → Type 0) → Type 0
OfImage shown told = (file : Name) (image : ImageData) → IsTypedImage file image → IsImage shown image → told image

abbrev pub OfCampaign : CampaignShown → (CampaignData → Type 0) → Type 0
OfCampaign shown told = (name : Name) (campaign : CampaignData) → IsTypedCampaign name campaign → IsCampaign shown campaign → told campaign

-- want of memory is the one fault
abbrev pub OnlyMemory : {A : Type 0} → Result A StoreFault → Type 0
OnlyMemory result = IfErr result (λ fault. fault ≡ Memory)

-- ---- the rows of a table, read whole

-- of each name the row of the image, or none
pub record AreImages (shown : List ImageShown) (images : Table ImageData) : Type 0 where
  pub typed : (file : Name) (image : ImageData) → table.get images file ≡ Some image → IsTypedImage file image
  pub each : (name : Name) → image_lines (table.get images name) ≡ map image_shown_line (filter (λ i. bytes_eq i.file name) shown)

-- of each name the row of its image's second hash, or none
abbrev pub AreSha512s : List SecondHash → Table ImageData → Type 0
AreSha512s shown images =
    (name : Name) → sha512_lines name (second_hash (table.get images name)) ≡ map hash_line (filter (λ i. bytes_eq i.file name) shown)

-- of each name its image's second hash, or none
abbrev pub AreHashesOf : Table (List ℕ) → Table ImageData → Type 0
AreHashesOf hashes images = (name : Name) → table.get hashes name ≡ second_hash (table.get images name)

-- of each name the row of the campaign where it runs, or none
pub record AreRunning (shown : List CampaignShown) (campaigns : Table CampaignData) : Type 0 where
  pub typed : (name : Name) (campaign : CampaignData) → table.get campaigns name ≡ Some campaign → IsTypedCampaign name campaign
  pub each : (name : Name) → campaign_lines (if_passes (λ c. c.running) (table.get campaigns name))
      ≡ map campaign_shown_line (filter (λ c. bytes_eq c.name name) shown)

-- ---- what is written

-- one more image under its name
abbrev pub with_image : StateRows → ImageData → StateRows
with_image rows image = record rows { images = table.insert rows.images image.file image }
