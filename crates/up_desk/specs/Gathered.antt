-- The rows that rules read: images that are looked up one after another, by the files that name them, and the rows of a command.
use Rattle.std.specs.Prelude.{◌≡◌, List, [], ◌∷◌, Option, None, Some, is_some, map}
use Rattle.std.specs.FinMap as table
use Rattle.up_canon.specs.Names.{Name, Table}
use Rattle.up_plan.specs.declared.campaign.Item.{Item}
use Rattle.up_plan.specs.Campaigns.{CampaignData}
use Rattle.up_plan.specs.Images.{ImageData}
use Rattle.up_machine.specs.Decisions.{named_in}
use Rattle.up_machine.specs.Rows.{founding_row}
use Rattle.up_machine.specs.State.{State}
use Rattle.up_desk.specs.declared.campaigns.OpeningRows.{OpeningRows}

-- an image under its filename, if there is one
abbrev pub with_image_found : Table ImageData → Name → Option ImageData → Table ImageData
with_image_found images file None = images
with_image_found images file (Some image) = table.insert images file image

-- what is registered under this filename, among the others
abbrev pub with_found : Table ImageData → Table ImageData → Name → Table ImageData
with_found registered images file = with_image_found images file (table.get registered file)

-- each of these images is registered
abbrev pub IsPart : Table ImageData → Table ImageData → Type 0
IsPart registered images = (file : Name) (image : ImageData) → table.get images file ≡ Some image → table.get registered file ≡ Some image

-- what is registered under each of these filenames, among the others
abbrev pub gathered : Table ImageData → List Name → Table ImageData → Table ImageData
gathered registered [] images = images
gathered registered (file ∷ files) images = gathered registered files (with_found registered images file)

-- ---- the files that are named

abbrev pub item_files : List Item → List Name
item_files items = map (λ i. i.file) items

-- ---- the rows of a command

-- those of opening a campaign
pub record AreOpeningRows (s : State) (campaign : CampaignData) (rows : OpeningRows) : Type 0 where
  pub founded : rows.founded ≡ is_some (founding_row s)
  pub old : rows.old ≡ table.get s.campaigns campaign.name
  pub known : rows.known.items ≡ map (table.contains_key s.vehicles) (named_in campaign.reach)
  pub images : rows.images ≡ gathered s.images (item_files campaign.items) table.empty
