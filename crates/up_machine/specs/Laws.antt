-- The laws of the plain machine over single commands and over runs.
use Rattle.std.specs.Prelude.{◌≡◌, ℕ, ◌≤◌, List, ◌++◌, false, Some, IsTrue, slice_get}
use Rattle.std.specs.List.{All, AllByRecursion, Contains}
use Rattle.std.specs.FinMap as table
use Rattle.up_canon.specs.Canon.{max_count}
use Rattle.up_canon.specs.Names.{Name}
use Rattle.up_sign.specs.Schemes.{Rules}
use Rattle.up_plan.specs.declared.assigned.Assigned.{Assigned}
use Rattle.up_plan.specs.declared.assigned.Fitted.{Fitted}
use Rattle.up_plan.specs.Images.{ImageData}
use Rattle.up_plan.specs.Planning.{is_for, plan_of}
use Rattle.up_machine.specs.declared.command.Command.{Command}
use Rattle.up_machine.specs.declared.answer.Answer.TheVariants.{Refused, Already}
use Rattle.up_machine.specs.declared.answer.Reply.{Reply}
use Rattle.up_canon.specs.declared.refusal.Refusal.{Refusal}
use Rattle.up_machine.specs.Commands.{is_command}
use Rattle.up_machine.specs.State.{Chain, Entry, Vehicle, State, empty_state, version, last_counter, is_taken_in, is_recorded, is_retired}
use Rattle.up_machine.specs.Replies.{kept_reply}
use Rattle.up_machine.specs.Machine.{Timed, step, run}
use Rattle.up_machine.specs.Sound.{CountersRise, IsSound}

-- ---- refusals

-- a refusal changes nothing, and neither does `Already`
abbrev pub RefusalsChangeNothing : Type 0
RefusalsChangeNothing = (k : Rules) (s : State) (at : ℕ) (c : Command) (r : Refusal) → (step k s at c).answer ≡ Refused r → (step k s at c).next ≡ s

abbrev pub AlreadyChangesNothing : Type 0
AlreadyChangesNothing = (k : Rules) (s : State) (at : ℕ) (c : Command) → (step k s at c).answer ≡ Already → (step k s at c).next ≡ s

-- ---- soundness

abbrev pub EmptyIsSound : Type 0
EmptyIsSound = (k : Rules) → IsSound k empty_state

abbrev pub StepsStaySound : Type 0
StepsStaySound = (k : Rules) (s : State) (at : ℕ) (c : Command) → IsTrue (is_command c) → IsSound k s → IsSound k (step k s at c).next

abbrev pub RunsStaySound : Type 0
RunsStaySound = (k : Rules) (s : State) (ts : List Timed) → AllByRecursion (λ t. IsTrue (is_command t.command)) ts → IsSound k s → IsSound k (run k s ts)

-- ---- counters

-- where counters rise, at most one entry has a given counter
abbrev pub CountersTellEntries : Type 0
CountersTellEntries = (entries : List Entry) (i j : ℕ) (e f : Entry) → CountersRise entries
    → slice_get entries i ≡ Some e → slice_get entries j ≡ Some f → e.counter ≡ f.counter → i ≡ j

-- a vehicle's version is at most its last counter, and so a count
abbrev pub VersionsAreCounts : Type 0
VersionsAreCounts = (k : Rules) (s : State) (name : Name) (v : Vehicle) → IsSound k s → table.get s.vehicles name ≡ Some v
    → (version v.entries ≤ last_counter v.entries) × (last_counter v.entries ≤ max_count)

-- ---- later states

-- a vehicle keeps its Primary, its entries and the names of replaced ECUs only grow, and each name that was taken is taken still
pub record IsLaterVehicle (v later : Vehicle) : Type 0 where
  pub primary : later.primary ≡ v.primary
  pub more_entries : List Entry
  pub entries : later.entries ≡ v.entries ++ more_entries
  pub more_retired : List Name
  pub retired : later.retired ≡ v.retired ++ more_retired
  pub taken : (ecu : Name) → IsTrue (is_taken_in ecu v) → IsTrue (is_taken_in ecu later)

-- the texts of root versions stay, and more may follow
abbrev pub IsLaterChain : Chain → Chain → Type 0
IsLaterChain chain later = (more : List (List ℕ)) × (later.texts ≡ chain.texts ++ more)

-- root versions and images are only added, and each vehicle stays, with all that was accepted of it
pub record IsLater (s later : State) : Type 0 where
  pub director : IsLaterChain s.director later.director
  pub image : IsLaterChain s.image later.image
  pub images : (file : Name) (image : ImageData) → table.get s.images file ≡ Some image → table.get later.images file ≡ Some image
  pub vehicles : (name : Name) (v : Vehicle) → table.get s.vehicles name ≡ Some v
      → (w : Vehicle) × (table.get later.vehicles name ≡ Some w) × IsLaterVehicle v w

abbrev pub LaterIsReflexive : Type 0
LaterIsReflexive = (s : State) → IsLater s s

abbrev pub LaterIsTransitive : Type 0
LaterIsTransitive = (s t u : State) → IsLater s t → IsLater t u → IsLater s u

abbrev pub StepsGrow : Type 0
StepsGrow = (k : Rules) (s : State) (at : ℕ) (c : Command) → IsLater s (step k s at c).next

abbrev pub RunsGrow : Type 0
RunsGrow = (k : Rules) (s : State) (ts : List Timed) → IsLater s (run k s ts)

-- ---- replaced ECUs

-- the name of a replaced ECU stays one
abbrev pub RetiredStayRetired : Type 0
RetiredStayRetired = (k : Rules) (s : State) (ts : List Timed) (ecu : Name) → IsTrue (is_retired s ecu) → IsTrue (is_retired (run k s ts) ecu)

-- no ECU of any vehicle has it
abbrev pub RetiredAreNoEcus : Type 0
RetiredAreNoEcus = (k : Rules) (s : State) (ecu : Name) → IsSound k s → IsTrue (is_retired s ecu) → is_recorded s ecu ≡ false

-- and none ever has it again
abbrev pub RetiredAreNeverRecorded : Type 0
RetiredAreNeverRecorded = (k : Rules) (s : State) (ts : List Timed) (ecu : Name) → AllByRecursion (λ t. IsTrue (is_command t.command)) ts → IsSound k s
    → IsTrue (is_retired s ecu) → is_recorded (run k s ts) ecu ≡ false

-- ---- assigned images

-- an ECU of the vehicle with the file of an image that is registered and may be installed on its hardware
pub record FitsItsEcu (s : State) (fitted : List Fitted) (a : Assigned) : Type 0 where
  pub e : Fitted
  pub image : ImageData
  pub present : Contains fitted e
  pub ecu_is : a.ecu ≡ e.ecu
  pub known : table.get s.images a.file ≡ Some image
  pub hardware : IsTrue (is_for e.hardware image)

-- so is each image that is assigned in a sound state, whatever is reported
abbrev pub AssignedFitTheirEcus : Type 0
AssignedFitTheirEcus = (k : Rules) (s : State) (vehicle : Name) (fitted : List Fitted) → IsSound k s
    → All (FitsItsEcu s fitted) (plan_of (table.values s.images) (table.values s.campaigns) vehicle fitted).assigned

-- ---- kept replies

-- a kept reply is the same in each later state
abbrev pub KeptRepliesStay : Type 0
KeptRepliesStay = (s later : State) (vehicle : Name) (number : ℕ) (reply : Reply) → IsLater s later
    → kept_reply s vehicle number ≡ Some reply → kept_reply later vehicle number ≡ Some reply

-- and so after each run
abbrev pub KeptRepliesOutlastRuns : Type 0
KeptRepliesOutlastRuns = (k : Rules) (s : State) (ts : List Timed) (vehicle : Name) (number : ℕ) (reply : Reply)
    → kept_reply s vehicle number ≡ Some reply → kept_reply (run k s ts) vehicle number ≡ Some reply
