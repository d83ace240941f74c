-- What each command decides, by what is read within its session.
use Rattle.std.specs.Prelude.{◌≡◌, ◌+◌, ℕ, List, Result, ⊤}
use Rattle.std.specs.Borrow.{MutBor}
use Rattle.sqlite.specs.Held.{Held}
use Rattle.sqlite_trees.specs.declared.store.Store.{Ghosts}
use Rattle.up_canon.specs.Names.{Name}
use Rattle.up_canon.specs.declared.refusal.Refusal.{Refusal}
use Rattle.up_sign.specs.Schemes.{Rules}
use Rattle.up_roles.specs.declared.repository.Repository.{Repository}
use Rattle.up_metadata.specs.declared.keys.KeySet.{KeySet}
use Rattle.up_plan.specs.Campaigns.{CampaignData}
use Rattle.up_plan.specs.Images.{ImageData}
use Rattle.up_machine.specs.declared.decision.Decision.{Decision}
use Rattle.up_machine.specs.declared.decision.RegisterRows.{RegisterRows}
use Rattle.up_machine.specs.declared.decision.RootRows.{RootRows}
use Rattle.up_machine.specs.declared.rows.VehicleRows.{VehicleRows}
use Rattle.up_machine.specs.declared.vehicle.Replacement.{Replacement}
use Rattle.up_machine.specs.Decisions.{GivesClosed, GivesDecision, GivesFile, GivesReplacement, GivesRows, HasRegisterRows, HasRootRows}
use Rattle.up_machine.specs.Inventory.{decide_close, decide_open, decide_replace, decide_vehicle, with_campaign, with_vehicle}
use Rattle.up_machine.specs.Repositories.{decide_fetch, decide_found, decide_image, decide_refresh, decide_rotate}
use Rattle.up_machine.specs.Repositories.{stamped, with_image, with_root}
use Rattle.up_machine.specs.Rows.{rows_of}
use Rattle.up_machine.specs.State.{added}
use Rattle.up_machine.specs.Vehicles.{NewVehicleData}
use Rattle.up_records.specs.Sessions.{DecidesIn}

-- ---- roots

-- the rows of the first root version
abbrev pub DecidesFound : {S : Type 0} → Ghosts S → Rules → ℕ → KeySet → MutBor (Held S) → MutBor (Held S) → Result RootRows Refusal → Type 0
DecidesFound g k at keys old new result = DecidesIn g k (λ _. ⊤)
    (λ s. GivesRows (HasRootRows (stamped k (with_root k s at keys) at 1)) (stamped k (with_root k s at keys) at 1))
    (λ s. decide_found k s at keys) old new result

-- those of the next one
abbrev pub DecidesRotate : {S : Type 0} → Ghosts S → Rules → ℕ → KeySet → MutBor (Held S) → MutBor (Held S) → Result RootRows Refusal → Type 0
DecidesRotate g k at keys old new result = DecidesIn g k (λ _. ⊤)
    (λ s. GivesRows (HasRootRows (stamped k (with_root k s at keys) at (s.image_version + 1))) (stamped k (with_root k s at keys) at (s.image_version + 1)))
    (λ s. decide_rotate k s at keys) old new result

-- ---- the register of images

-- an image is there already, or the rows with it
abbrev pub DecidesImage : {S : Type 0} → Ghosts S → Rules → ℕ → ImageData → MutBor (Held S) → MutBor (Held S) → Result (Decision RegisterRows) Refusal → Type 0
DecidesImage g k at image old new result = DecidesIn g k (λ _. ⊤)
    (λ s. GivesDecision (HasRegisterRows (stamped k (with_image s image) at (s.image_version + 1))) s (stamped k (with_image s image) at (s.image_version + 1)))
    (λ s. decide_image k s at image) old new result

-- the rows of new files
abbrev pub DecidesRefresh : {S : Type 0} → Ghosts S → Rules → ℕ → ℕ → MutBor (Held S) → MutBor (Held S) → Result RegisterRows Refusal → Type 0
DecidesRefresh g k at version old new result = DecidesIn g k (λ _. ⊤)
    (λ s. GivesRows (HasRegisterRows (stamped k s at version)) (stamped k s at version)) (λ s. decide_refresh k s at version) old new result

-- ---- the inventory

-- a vehicle is there already, or its rows
abbrev pub DecidesVehicle : {S : Type 0} → Ghosts S → Rules → ℕ → NewVehicleData → MutBor (Held S) → MutBor (Held S) → Result (Decision VehicleRows) Refusal → Type 0
DecidesVehicle g k at new_vehicle old new result = DecidesIn g k (λ _. ⊤)
    (λ s. GivesDecision (λ rows. rows ≡ rows_of new_vehicle.vehicle (added new_vehicle)) s (with_vehicle s new_vehicle))
    (λ s. decide_vehicle k s at new_vehicle) old new result

-- an ECU may be replaced
abbrev pub DecidesReplace : {S : Type 0} → Ghosts S → Rules → ℕ → Replacement → MutBor (Held S) → MutBor (Held S) → Result ⊤ Refusal → Type 0
DecidesReplace g k at replacement old new result = DecidesIn g k (λ _. ⊤)
    (λ s. GivesReplacement s replacement) (λ s. decide_replace k s at replacement) old new result

-- ---- campaigns

-- a campaign is there already, or may be opened
abbrev pub DecidesOpen : {S : Type 0} → Ghosts S → Rules → ℕ → CampaignData → MutBor (Held S) → MutBor (Held S) → Result (Decision CampaignData) Refusal → Type 0
DecidesOpen g k at campaign old new result =
    DecidesIn g k (λ _. ⊤) (λ s. GivesDecision (λ row. row ≡ campaign) s (with_campaign s campaign)) (λ s. decide_open s at campaign) old new result

-- a campaign is closed already, or is as it is closed
abbrev pub DecidesClose : {S : Type 0} → Ghosts S → Rules → ℕ → Name → MutBor (Held S) → MutBor (Held S) → Result (Decision CampaignData) Refusal → Type 0
DecidesClose g k at name old new result = DecidesIn g k (λ _. ⊤)
    (λ s. GivesClosed s name) (λ s. decide_close s at name) old new result

-- ---- files

-- the text of a file
abbrev pub DecidesFile : {S : Type 0} → Ghosts S → Rules → ℕ → Repository → Name → MutBor (Held S) → MutBor (Held S) → Result (List ℕ) Refusal → Type 0
DecidesFile g k at repository name old new result = DecidesIn g k (λ _. ⊤)
    (λ s. GivesFile s) (λ s. decide_fetch s at repository name) old new result
