-- The decision on a manifest in steps: who sent it, whether it was there before, and what is new.
use Rattle.std.specs.Prelude.{◌≡◌, ◌≤◌, List, true, Option, Some, is_some, Result, Ok, Err, IfOk, IsTrue}
use Rattle.std.specs.FinMap as table
use Rattle.up_canon.specs.Names.{Table}
use Rattle.up_canon.specs.declared.refusal.Refusal.{Refusal}
use Rattle.up_canon.specs.declared.refusal.Refusal.TheVariants.{Memory}
use Rattle.up_sign.specs.Schemes.{Rules}
use Rattle.up_manifest.specs.declared.manifest.Incoming.{Incoming}
use Rattle.up_manifest.specs.declared.manifest.Manifest.{Manifest}
use Rattle.up_plan.specs.declared.campaign.Item.{Item}
use Rattle.up_plan.specs.Images.{ImageData}
use Rattle.up_plan.specs.Offers.{OffersSame}
use Rattle.up_plan.specs.Planning.{items_for}
use Rattle.up_machine.specs.declared.rows.Founding.{Founding}
use Rattle.up_machine.specs.declared.rows.VehicleRows.{VehicleRows}
use Rattle.up_machine.specs.State.{State}
use Rattle.up_machine.specs.Deliveries.{Received, receive_manifest}
use Rattle.up_machine.specs.Decisions.{DeliveryData, files_named, AreImagesOf}
use Rattle.up_machine.specs.ManifestRows.{check_primary, repeated}
use Rattle.up_machine.specs.Rows.{founding_row, vehicle_rows}
use Rattle.up_machine.specs.RowsFit.{founding_fits, rows_fit}

-- a founding and the rows of a vehicle
pub record SenderData : Type 0 where
  pub founding : Founding
  pub vehicle : VehicleRows

-- they are those of the state, and no check up to the Primary's signature refuses the manifest
pub record IsSenderOf (k : Rules) (s : State) (incoming : Incoming) (sender : SenderData) : Type 0 where
  pub founding : founding_row s ≡ Some sender.founding
  pub vehicle : vehicle_rows s incoming.manifest.vehicle ≡ Some sender.vehicle
  pub received : Received
  pub receives : receive_manifest k s incoming ≡ Ok received

-- who sent it, or the refusal that is due up to the Primary's signature
abbrev pub GivesSender : Rules → State → Incoming → Result SenderData Refusal → Type 0
GivesSender k s incoming (Ok sender) = IsSenderOf k s incoming sender
GivesSender k s incoming (Err r) = receive_manifest k s incoming ≡ Err r

-- where memory is taken: the rows are there, no check up to the Primary's signature refuses the manifest, and where its counter isn't above
-- the last one, the vehicle has accepted the same signed text
pub record TakesMemory (k : Rules) (incoming : Incoming) (rows : DeliveryData) : Type 0 where
  pub sender : SenderData
  pub founding : rows.founding ≡ Some sender.founding
  pub vehicle : rows.vehicle ≡ Some sender.vehicle
  pub sent : check_primary k sender.vehicle incoming ≡ Ok tt
  pub again : incoming.manifest.counter ≤ sender.vehicle.vehicle.last → is_some (repeated incoming rows.kept) ≡ true

-- what an answer asks of them: keys that can sign, and rows that fit
pub record CanAnswer (k : Rules) (sender : SenderData) : Type 0 where
  pub keys : IsTrue (founding_fits k sender.founding)
  pub rows : IsTrue (rows_fit sender.vehicle)

-- What the first step answers, given a founding's row and a vehicle's, where they are there.
pub record DecidesSender (k : Rules) (incoming : Incoming) (row : Option Founding) (rows : Option VehicleRows) (r : Result SenderData Refusal) : Type 0 where
  -- over the rows of a state it says who sent it, or the refusal that is due
  pub from : (s : State) → row ≡ founding_row s → rows ≡ vehicle_rows s incoming.manifest.vehicle → GivesSender k s incoming r
  -- the rest of the decision can be made of what it gives
  pub can : IfOk r (CanAnswer k)
  -- it takes no memory
  pub memory : r ≡ Err Memory → ⊥
  -- whom it gives has signed the manifest
  pub passed : IfOk r (λ sender. check_primary k sender.vehicle incoming ≡ Ok tt)
  -- it gives these very rows
  pub given : IfOk r (λ sender. (row ≡ Some sender.founding) × (rows ≡ Some sender.vehicle))

-- the images and items are those of the state that the plan for this manifest needs: the items offer what those of the state's
-- campaigns for its vehicle do, and of the images those of the files that the latter and the reports name count alone
pub record ArePlanned (s : State) (manifest : Manifest) (images : Table ImageData) (items : List Item) : Type 0 where
  pub images_are : AreImagesOf (files_named (table.values s.campaigns) manifest.vehicle manifest.reports) images s.images
  pub items_are : OffersSame items (items_for (table.values s.campaigns) manifest.vehicle)
