-- Levels, wanted images and plans, over the lists of registered images and of campaigns.
use Rattle.std.specs.Prelude.{ℕ, ◌&&◌, ◌||◌, ◌==◌, ◌++◌, List, [], ◌∷◌, Bool, true, false, cond, not, nat_lt, nat_le, Option, Some, None, option_map, unwrap_or, filter, flat_map, map, find, bytes_eq}
use Rattle.std.specs.List.{list_all, list_any, best_of}
use Rattle.std.specs.Ordering.{nat_cmp, is_lt}
use Rattle.std.specs.Cmp.Lexicographic.{slice_cmp}
use Rattle.up_canon.specs.Names.{Name}
use Rattle.up_canon.specs.Steps.{if_passes, first_or_none}
use Rattle.up_manifest.specs.declared.report.Installed.{Installed}
use Rattle.up_plan.specs.declared.assigned.Fitted.{Fitted}
use Rattle.up_plan.specs.declared.assigned.Assigned.{Assigned}
use Rattle.up_plan.specs.declared.assigned.Cause.{Cause}
use Rattle.up_plan.specs.declared.assigned.Cause.TheVariants.{Need as UnmetNeed, Conflict as UnmetConflict}
use Rattle.up_plan.specs.declared.assigned.Plan.{Plan}
use Rattle.up_plan.specs.declared.campaign.Item.{Item}
use Rattle.up_plan.specs.declared.campaign.Reach.{Reach}
use Rattle.up_plan.specs.declared.campaign.Reach.TheVariants.{All, Named}
use Rattle.up_plan.specs.declared.image.Need.{Need}
use Rattle.up_plan.specs.Campaigns.{CampaignData}
use Rattle.up_plan.specs.Images.{ImageData}

-- ---- level

-- the image may be installed on the hardware
abbrev pub is_for : Name → ImageData → Bool
is_for hardware image = list_any (bytes_eq hardware) image.hardware

-- second hashes disagree only where both are there
abbrev pub agrees : Option (List ℕ) → Option (List ℕ) → Bool
agrees None b = true
agrees (Some a) None = true
agrees (Some a) (Some b) = bytes_eq a b

-- the registered image is the one reported, by its filename, its length and its hashes, and is for the hardware
abbrev pub is_reported : Name → Installed → ImageData → Bool
is_reported hardware installed image =
    bytes_eq image.file installed.file && (image.length == installed.length) && bytes_eq image.sha256 installed.sha256
    && agrees image.sha512 installed.sha512 && is_for hardware image

-- the registered image of what the ECU reports
abbrev pub reported_image : List ImageData → Fitted → Option ImageData
reported_image images e = find (is_reported e.hardware e.image) images

-- its release counter; 0 where the report is of no registered image
abbrev pub level : List ImageData → Fitted → ℕ
level images e = unwrap_or (option_map (λ image. image.release) (reported_image images e)) 0

-- ---- wanted image

abbrev pub reaches : Name → Reach → Bool
reaches vehicle All = true
reaches vehicle (Named vehicles) = list_any (bytes_eq vehicle) vehicles

-- the items of running campaigns that reach the vehicle
abbrev pub items_for : List CampaignData → Name → List Item
items_for campaigns vehicle = flat_map (λ c. c.items) (filter (λ c. c.running && reaches vehicle c.reach) campaigns)

abbrev pub is_offered : List Item → Name → ImageData → Bool
is_offered items hardware image = list_any (λ i. bytes_eq i.hardware hardware && bytes_eq i.file image.file) items

-- the registered images that these items have for the hardware
abbrev pub offered : List ImageData → List Item → Name → List ImageData
offered images items hardware = filter (is_offered items hardware) images

-- of the greater release counter, or of the same and the lesser filename
abbrev pub is_above : ImageData → ImageData → Bool
is_above a b = nat_lt b.release a.release || ((a.release == b.release) && is_lt (slice_cmp nat_cmp a.file b.file))

-- the greatest so far, and one more
abbrev pub greater : Option ImageData → ImageData → ImageData
greater None image = image
greater (Some best) image = cond (is_above image best) image best

abbrev pub greatest : List ImageData → Option ImageData
greatest [] = None
greatest (image ∷ images) = Some (best_of is_above image images)

-- the greatest that is offered, if it is above the level
abbrev pub wanted : List ImageData → List Item → Fitted → Option ImageData
wanted images items e = if_passes (λ image. nat_lt (level images e) image.release) (greatest (offered images items e.hardware))

-- ---- resulting set

-- an ECU as it is where each ECU gets its wanted image: whether it is updated, its file, its level, and its registered image
pub record Resulting : Type 0 where
  pub ecu : Name
  pub hardware : Name
  pub updated : Bool
  pub file : Name
  pub level : ℕ
  pub image : Option ImageData

abbrev pub with_wanted : List ImageData → Fitted → Option ImageData → Resulting
with_wanted images e (Some image) =
    record { ecu = e.ecu; hardware = e.hardware; updated = true; file = image.file; level = image.release; image = Some image }
with_wanted images e None =
    record { ecu = e.ecu; hardware = e.hardware; updated = false; file = e.image.file; level = level images e; image = reported_image images e }

abbrev pub resulting : List ImageData → List Item → List Fitted → List Resulting
resulting images items fitted = map (λ e. with_wanted images e (wanted images items e)) fitted

-- ---- needs and conflicts

-- each ECU with the hardware has at least the release
abbrev pub is_met : List Resulting → Need → Bool
is_met set need = list_all (λ r. not (bytes_eq r.hardware need.hardware) || nat_le need.release r.level) set

-- no ECU has the file
abbrev pub is_apart : List Resulting → Name → Bool
is_apart set file = list_all (λ r. not (bytes_eq r.file file)) set

-- an image's needs that aren't met, and then its conflicts
abbrev pub unmet_by : List Resulting → Name → Option ImageData → List Cause
unmet_by set ecu None = []
unmet_by set ecu (Some image) =
    map (λ need. UnmetNeed ecu need.hardware) (filter (λ need. not (is_met set need)) image.needs)
    ++ map (λ file. UnmetConflict ecu file) (filter (λ file. not (is_apart set file)) image.conflicts)

-- those of all ECUs, in inventory order
abbrev pub unmet : List Resulting → List Cause
unmet set = flat_map (λ r. unmet_by set r.ecu r.image) set

-- ---- plan

-- the ECUs that are updated, with their files
abbrev pub updates : List Resulting → List Assigned
updates set = map (λ r. record { ecu = r.ecu; file = r.file }) (filter (λ r. r.updated) set)

-- all updates, unless there is a cause against one
abbrev pub plan_with : List Assigned → Option Cause → Plan
plan_with [] cause = record { assigned = []; withheld = None }
plan_with (a ∷ rest) None = record { assigned = a ∷ rest; withheld = None }
plan_with (a ∷ rest) (Some cause) = record { assigned = []; withheld = Some cause }

abbrev pub plan_from : List Resulting → Plan
plan_from set = plan_with (updates set) (first_or_none (unmet set))

-- the plan for the vehicle's ECUs in inventory order
unfoldable pub plan_of : List ImageData → List CampaignData → Name → List Fitted → Plan
plan_of images campaigns vehicle fitted = plan_from (resulting images (items_for campaigns vehicle) fitted)
