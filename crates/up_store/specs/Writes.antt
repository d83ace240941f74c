-- Which statements write what is given to the store, in their order; what they make of the database, and that it refuses one of them.
use Rattle.std.specs.Prelude.{◌≡◌, ◌<◌, ◌^◌, ◌++◌, ℕ, pos, List, [], ◌∷◌, Option, Some, map, length}
use Rattle.sqlite.specs.declared.types.Value.TheVariants.{Int, Text, Blob}
use Rattle.sqlite.specs.Effect.{Database}
use Rattle.sqlite.specs.Order.{Row}
use Rattle.up_roles.specs.declared.repository.Repository.TheVariants.{Director, Image}
use Rattle.up_plan.specs.Campaigns.{CampaignData}
use Rattle.up_plan.specs.Images.{ImageData}
use Rattle.up_machine.specs.declared.decision.AcceptedRows.{AcceptedRows}
use Rattle.up_machine.specs.declared.decision.RegisterRows.{RegisterRows}
use Rattle.up_machine.specs.declared.decision.RootRows.{RootRows}
use Rattle.up_machine.specs.declared.rows.Founding.{Founding}
use Rattle.up_machine.specs.declared.rows.VehicleRows.{VehicleRows}
use Rattle.up_machine.specs.declared.vehicle.Replacement.{Replacement}
use Rattle.up_rows.specs.Changes.{with_root_rows, with_register_rows, with_image_rows, with_vehicle_rows, with_replaced_rows}
use Rattle.up_rows.specs.Changes.{with_campaign_row, with_accepted_rows}
use Rattle.up_rows.specs.StateRows.{StateRows}
use Rattle.up_tables.specs.Lines.{retired_line}
use Rattle.up_tables.specs.Texts.{update_image_repository_text, insert_image_text, insert_sha512_text, insert_campaign_text, close_campaign_text, insert_vehicle_text}
use Rattle.up_tables.specs.Texts.{insert_retired_text, insert_kept_text, update_meta_text, replace_ecu_text, insert_ecu_text, update_ecu_text}
use Rattle.up_tables.specs.Texts.{delete_role_keys_text, insert_role_key_text, upsert_file_text, upsert_vehicle_text}
use Rattle.up_tables.specs.Tried.{RefusesOne}
use Rattle.up_store.specs.declared.files.ServedFile.{ServedFile}
use Rattle.up_store.specs.Fitting.{IsNextRoot, IsSameRoot, IsNewImage, IsNewVehicle, IsReplacement, IsNewCampaign, IsClosing, IsRecorded}
use Rattle.up_store.specs.Lines.{file_row, root_file_lines, role_file_lines, repository_lines, image_lines, sha512_lines}
use Rattle.up_store.specs.Lines.{campaign_lines, vehicle_lines, ecus_lines, kept_line}

-- ---- the statements of each write

-- the text, with each of these rows in turn
abbrev pub each_with : List ℕ → List Row → List (List ℕ × Row)
each_with text rows = map (λ values. (text, values)) rows

abbrev pub founding_writes : Founding → List (List ℕ × Row)
founding_writes f =
    (update_meta_text, Int (pos f.root) ∷ Int (pos f.image_version) ∷ Int (pos f.stamp) ∷ [])
    ∷ (update_image_repository_text, Int (pos f.image_root) ∷ Int (pos f.targets_version) ∷ []) ∷ []

-- all keys that were there go, and these come
abbrev pub key_line_writes : List Row → List (List ℕ × Row)
key_line_writes lines = (delete_role_keys_text, []) ∷ each_with insert_role_key_text lines

abbrev pub key_writes : Founding → List (List ℕ × Row)
key_writes f = key_line_writes (repository_lines f.root Director f.keys.director ++ repository_lines f.image_root Image f.keys.image)

abbrev pub file_writes : List ServedFile → List (List ℕ × Row)
file_writes files = each_with upsert_file_text (map file_row files)

-- the founding's numbers, and the image repository's files
abbrev pub register_writes : RegisterRows → List (List ℕ × Row)
register_writes new = founding_writes new.founding ++ file_writes (role_file_lines new.files)

-- the founding's numbers, its keys, the Root files, and the image repository's files
abbrev pub root_writes : RootRows → List (List ℕ × Row)
root_writes new =
    founding_writes new.founding ++ key_writes new.founding ++ file_writes (root_file_lines new) ++ file_writes (role_file_lines new.files)

abbrev pub image_row_writes : ImageData → List (List ℕ × Row)
image_row_writes image = each_with insert_image_text (image_lines (Some image)) ++ each_with insert_sha512_text (sha512_lines image.file image.sha512)

-- the image, its second hash where it has one, and what changes with the register
abbrev pub image_writes : ImageData → RegisterRows → List (List ℕ × Row)
image_writes image new = image_row_writes image ++ register_writes new

abbrev pub campaign_writes : CampaignData → List (List ℕ × Row)
campaign_writes new = each_with insert_campaign_text (campaign_lines (Some new))

abbrev pub close_writes : CampaignData → List (List ℕ × Row)
close_writes closed = each_with close_campaign_text ((Text closed.name ∷ []) ∷ [])

-- the vehicle, and its ECUs in inventory order
abbrev pub vehicle_writes : VehicleRows → List (List ℕ × Row)
vehicle_writes new =
    each_with insert_vehicle_text (vehicle_lines (Some new)) ++ each_with insert_ecu_text (ecus_lines new.vehicle.vehicle (Some new))

-- the same of a vehicle that is there
abbrev pub reported_writes : VehicleRows → List (List ℕ × Row)
reported_writes new =
    each_with upsert_vehicle_text (vehicle_lines (Some new)) ++ each_with update_ecu_text (ecus_lines new.vehicle.vehicle (Some new))

-- what was reported, and the row that is kept
abbrev pub accept_writes : AcceptedRows → List (List ℕ × Row)
accept_writes new = reported_writes new.vehicle ++ each_with insert_kept_text (kept_line new.kept ∷ [])

-- the new ECU in the old one's place, and the old one's identifier
abbrev pub replace_writes : Replacement → List (List ℕ × Row)
replace_writes new =
    each_with replace_ecu_text ((Text new.ecu.ecu ∷ Text new.ecu.hardware ∷ Blob new.ecu.public ∷ Text new.old ∷ []) ∷ [])
    ++ each_with insert_retired_text (retired_line new.old new.vehicle ∷ [])

-- ---- numbers that columns hold: a call refuses greater ones itself

pub record FitsFounding (new : Founding) : Type 0 where
  pub root : new.root < 2 ^ 63
  pub image_root : new.image_root < 2 ^ 63
  pub image_version : new.image_version < 2 ^ 63
  pub targets_version : new.targets_version < 2 ^ 63

-- the version, and the places of the ECUs
pub record FitsVehicle (new : VehicleRows) : Type 0 where
  pub version : new.vehicle.version < 2 ^ 63
  pub ecus : length new.ecus < 2 ^ 63

pub record FitsAccepted (new : AcceptedRows) : Type 0 where
  pub vehicle : FitsVehicle new.vehicle
  pub version : new.kept.version < 2 ^ 63
  pub root : new.kept.root < 2 ^ 63

-- ---- from rows to the next

-- these statements write what fits the rows and makes `next` of them
pub data AreWrites (rows next : StateRows) (these : List (List ℕ × Row)) : Type 0 where
  root : (new : RootRows) → IsNextRoot new rows → next ≡ with_root_rows rows new → these ≡ root_writes new → AreWrites rows next these
  register : (new : RegisterRows) → IsSameRoot new rows → next ≡ with_register_rows rows new → these ≡ register_writes new → AreWrites rows next these
  image : (new : ImageData) (files : RegisterRows) → IsNewImage new files rows → next ≡ with_image_rows rows new files
      → these ≡ image_writes new files → AreWrites rows next these
  campaign : (new : CampaignData) → IsNewCampaign new rows → next ≡ with_campaign_row rows new
      → these ≡ campaign_writes new → AreWrites rows next these
  close : (closed : CampaignData) → IsClosing closed rows → next ≡ with_campaign_row rows closed
      → these ≡ close_writes closed → AreWrites rows next these
  vehicle : (new : VehicleRows) → IsNewVehicle new rows → next ≡ with_vehicle_rows rows new → these ≡ vehicle_writes new → AreWrites rows next these
  replacement : (new : Replacement) → IsReplacement new rows → next ≡ with_replaced_rows rows new
      → these ≡ replace_writes new → AreWrites rows next these
  manifest : (new : AcceptedRows) → IsRecorded new rows → next ≡ with_accepted_rows rows new → these ≡ accept_writes new → AreWrites rows next these

-- the database refuses one of such statements
pub record RefusesToWrite (rows next : StateRows) (limit : Option ℕ) (db : Database) : Type 0 where
  pub these : List (List ℕ × Row)
  pub write : AreWrites rows next these
  pub refused : RefusesOne limit these db
