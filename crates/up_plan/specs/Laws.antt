-- What plans promise, in an operator's words.
use Rattle.std.specs.Prelude.{◌≡◌, ◌<◌, ◌≤◌, ◌&&◌, ◌++◌, ◌⊎◌, List, [], ◌∷◌, Bool, true, false, Option, Some, None, MatchOption, IsSome, filter, map, flat_map}
use Rattle.std.specs.List.{All, Contains, list_all}
use Rattle.std.specs.List.Sorted.{IsPermutation}
use Rattle.up_canon.specs.Names.{Name}
use Rattle.up_plan.specs.declared.assigned.Fitted.{Fitted}
use Rattle.up_plan.specs.declared.assigned.Assigned.{Assigned}
use Rattle.up_plan.specs.declared.assigned.Cause.{Cause}
use Rattle.up_plan.specs.declared.assigned.Cause.TheVariants.{Need as UnmetNeed, Conflict as UnmetConflict}
use Rattle.up_plan.specs.declared.campaign.Item.{Item}
use Rattle.up_plan.specs.Campaigns.{CampaignData}
use Rattle.up_plan.specs.Images.{ImageData}
use Rattle.up_plan.specs.Planning.{Resulting, is_above, is_apart, is_met, items_for, level, plan_of, reaches, resulting, wanted}

-- ---- what an ECU wants

-- a running campaign that reaches the vehicle has an item of the image for the hardware
pub record IsOffered (campaigns : List CampaignData) (vehicle hardware : Name) (image : ImageData) : Type 0 where
  pub campaign : CampaignData
  pub item : Item
  pub opened : Contains campaigns campaign
  pub running : campaign.running ≡ true
  pub reached : reaches vehicle campaign.reach ≡ true
  pub listed : Contains campaign.items item
  pub hardware_is : item.hardware ≡ hardware
  pub file_is : item.file ≡ image.file

-- the image is registered, offered for the ECU and above its level, and no registered image that is offered is above it
pub record IsDue (images : List ImageData) (campaigns : List CampaignData) (vehicle : Name) (e : Fitted) (image : ImageData) : Type 0 where
  pub known : Contains images image
  pub offer : IsOffered campaigns vehicle e.hardware image
  pub newer : level images e < image.release
  pub none_above : (other : ImageData) → Contains images other → IsOffered campaigns vehicle e.hardware other → is_above other image ≡ false

-- no registered image that is offered for the ECU is above its level
abbrev pub HasNothingDue : List ImageData → List CampaignData → Name → Fitted → Type 0
HasNothingDue images campaigns vehicle e = (image : ImageData) → Contains images image → IsOffered campaigns vehicle e.hardware image → image.release ≤ level images e

abbrev pub WantedIsDue : Type 0
WantedIsDue = (images : List ImageData) (campaigns : List CampaignData) (vehicle : Name) (e : Fitted)
    → MatchOption (wanted images (items_for campaigns vehicle) e) (HasNothingDue images campaigns vehicle e) (IsDue images campaigns vehicle e)

-- ---- what is assigned

-- an ECU of the vehicle with the file of an image that is due to it
pub record IsUpdate (images : List ImageData) (campaigns : List CampaignData) (vehicle : Name) (fitted : List Fitted) (a : Assigned) : Type 0 where
  pub e : Fitted
  pub image : ImageData
  pub present : Contains fitted e
  pub ecu_is : a.ecu ≡ e.ecu
  pub file_is : a.file ≡ image.file
  pub due : IsDue images campaigns vehicle e image

abbrev pub AssignedIsDue : Type 0
AssignedIsDue = (images : List ImageData) (campaigns : List CampaignData) (vehicle : Name) (fitted : List Fitted)
    → All (IsUpdate images campaigns vehicle fitted) (plan_of images campaigns vehicle fitted).assigned

-- each ECU that wants an image has it
abbrev pub GetsAll : List ImageData → List CampaignData → Name → List Fitted → List Assigned → Type 0
GetsAll images campaigns vehicle fitted assigned =
    (e : Fitted) (image : ImageData) → Contains fitted e → wanted images (items_for campaigns vehicle) e ≡ Some image → Contains assigned (record { ecu = e.ecu; file = image.file })

abbrev pub AllOrNone : Type 0
AllOrNone = (images : List ImageData) (campaigns : List CampaignData) (vehicle : Name) (fitted : List Fitted) →
    let assigned = (plan_of images campaigns vehicle fitted).assigned in
    (assigned ≡ []) ⊎ GetsAll images campaigns vehicle fitted assigned

-- ---- what is withheld

-- each need and conflict of an ECU's resulting image, in order, and whether it is met
abbrev pub demands_by : List Resulting → Name → Option ImageData → List (Cause × Bool)
demands_by set ecu None = []
demands_by set ecu (Some image) =
    map (λ need. (UnmetNeed ecu need.hardware, is_met set need)) image.needs ++ map (λ file. (UnmetConflict ecu file, is_apart set file)) image.conflicts

-- those of all ECUs where each gets its wanted image, in inventory order
abbrev pub demands : List ImageData → List CampaignData → Name → List Fitted → List (Cause × Bool)
demands images campaigns vehicle fitted =
    let set = resulting images (items_for campaigns vehicle) fitted in
    flat_map (λ r. demands_by set r.ecu r.image) set

abbrev pub AllMet : List (Cause × Bool) → Type 0
AllMet ds = All (λ d. d.1 ≡ true) ds

-- the cause isn't met, and all before it are
pub record IsFirstUnmet (cause : Cause) (ds : List (Cause × Bool)) : Type 0 where
  pub before : List (Cause × Bool)
  pub after : List (Cause × Bool)
  pub order : ds ≡ before ++ (cause, false) ∷ after
  pub met : AllMet before

abbrev pub WithheldIsFirstUnmet : Type 0
WithheldIsFirstUnmet = (images : List ImageData) (campaigns : List CampaignData) (vehicle : Name) (fitted : List Fitted) (cause : Cause) →
    let plan = plan_of images campaigns vehicle fitted in
    plan.withheld ≡ Some cause → (plan.assigned ≡ []) × IsFirstUnmet cause (demands images campaigns vehicle fitted)

abbrev pub WithheldHasCause : Type 0
WithheldHasCause = (images : List ImageData) (campaigns : List CampaignData) (vehicle : Name) (fitted : List Fitted) (e : Fitted) (image : ImageData) →
    let plan = plan_of images campaigns vehicle fitted in
    Contains fitted e → wanted images (items_for campaigns vehicle) e ≡ Some image → plan.assigned ≡ [] → IsSome plan.withheld

abbrev pub NothingWanted : Type 0
NothingWanted = (images : List ImageData) (campaigns : List CampaignData) (vehicle : Name) (fitted : List Fitted)
    → ((e : Fitted) → Contains fitted e → wanted images (items_for campaigns vehicle) e ≡ None)
    → plan_of images campaigns vehicle fitted ≡ record { assigned = []; withheld = None }

-- ---- where something is assigned

abbrev pub AssignedIsConsistent : Type 0
AssignedIsConsistent = (images : List ImageData) (campaigns : List CampaignData) (vehicle : Name) (fitted : List Fitted) (a : Assigned)
    → Contains (plan_of images campaigns vehicle fitted).assigned a → AllMet (demands images campaigns vehicle fitted)

-- ---- what changes nothing

-- a campaign that is closed or for other vehicles
abbrev pub OthersChangeNothing : Type 0
OthersChangeNothing = (images : List ImageData) (before after : List CampaignData) (c : CampaignData) (vehicle : Name) (fitted : List Fitted)
    → (c.running && reaches vehicle c.reach) ≡ false → plan_of images (before ++ c ∷ after) vehicle fitted ≡ plan_of images (before ++ after) vehicle fitted

abbrev pub CampaignsInAnyOrder : Type 0
CampaignsInAnyOrder = (images : List ImageData) (campaigns others : List CampaignData) (vehicle : Name) (fitted : List Fitted)
    → IsPermutation campaigns others → plan_of images campaigns vehicle fitted ≡ plan_of images others vehicle fitted

-- images of one filename are one
abbrev pub HasDistinctFiles : List ImageData → Type 0
HasDistinctFiles images = (a b : ImageData) → Contains images a → Contains images b → a.file ≡ b.file → a ≡ b

abbrev pub ImagesInAnyOrder : Type 0
ImagesInAnyOrder = (images others : List ImageData) (campaigns : List CampaignData) (vehicle : Name) (fitted : List Fitted)
    → HasDistinctFiles images → IsPermutation images others → plan_of images campaigns vehicle fitted ≡ plan_of others campaigns vehicle fitted

-- an image whose filename fails a test that the files of the vehicle's items and of the reported images pass
abbrev pub OtherImagesChangeNothing : Type 0
OtherImagesChangeNothing = (p : Name → Bool) (images others : List ImageData) (campaigns : List CampaignData) (vehicle : Name) (fitted : List Fitted)
    → list_all (λ i. p i.file) (items_for campaigns vehicle) ≡ true → list_all (λ e. p e.image.file) fitted ≡ true
    → filter (λ image. p image.file) images ≡ filter (λ image. p image.file) others → plan_of images campaigns vehicle fitted ≡ plan_of others campaigns vehicle fitted
