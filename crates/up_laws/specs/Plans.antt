-- Which ECUs get images: each one of the vehicle, none twice. And so no reply names an ECU twice.
use Rattle.std.specs.Prelude.{◌≡◌, ℕ, ◌≤◌, List, Some, None, IsTrue, length, map, bytes_eq}
use Rattle.std.specs.List.{AllByRecursion, list_all, list_any}
use Rattle.std.specs.FinMap as table
use Rattle.up_canon.specs.Names.{Name, first_repeated, are_distinct}
use Rattle.up_sign.specs.Schemes.{Rules}
use Rattle.up_roles.specs.declared.targets.Target.{Target}
use Rattle.up_roles.specs.Targets.{ecus_of}
use Rattle.up_plan.specs.declared.assigned.Fitted.{Fitted}
use Rattle.up_plan.specs.declared.assigned.Plan.{Plan}
use Rattle.up_plan.specs.declared.campaign.Item.{Item}
use Rattle.up_plan.specs.Campaigns.{CampaignData}
use Rattle.up_plan.specs.Images.{ImageData}
use Rattle.up_plan.specs.Planning.{plan_of}
use Rattle.up_metadata.specs.declared.keys.KeySet.{KeySet}
use Rattle.up_machine.specs.State.{Entry, Vehicle, State, empty_state, nth, is_taken_in}
use Rattle.up_machine.specs.Replies.{reply_metadata}
use Rattle.up_machine.specs.Machine.{Timed, step, run}
use Rattle.up_machine.specs.declared.command.Command.{Command}
use Rattle.up_machine.specs.Commands.{is_command}
use Rattle.up_machine.specs.Sound.{IsSound}

-- ---- one plan

-- the ECUs that a plan assigns images to, in its order
abbrev pub assigned_ecus : Plan → List Name
assigned_ecus plan = map (λ a. a.ecu) plan.assigned

-- the names of ECUs, in inventory order
abbrev pub fitted_ecus : List Fitted → List Name
fitted_ecus fitted = map (λ e. e.ecu) fitted

-- images for some of these ECUs, at most one for each
pub record IsPlanOf (fitted : List Fitted) (plan : Plan) : Type 0 where
  pub once : first_repeated (assigned_ecus plan) ≡ None
  pub few : length plan.assigned ≤ length fitted
  pub known : IsTrue (list_all (λ a. list_any (λ e. bytes_eq e.ecu a.ecu) fitted) plan.assigned)

-- so is the plan for distinct ECUs, whatever they report and whatever is registered and offered
abbrev pub PlansAreOfTheirEcus : Type 0
PlansAreOfTheirEcus = (images : List ImageData) (campaigns : List CampaignData) (vehicle : Name) (fitted : List Fitted)
    → first_repeated (fitted_ecus fitted) ≡ None → IsPlanOf fitted (plan_of images campaigns vehicle fitted)

-- ---- the plans of a state

-- images for at most 32 ECUs of the vehicle, at most one for each; some of the ECUs may have been replaced since
pub record IsPlanFor (v : Vehicle) (plan : Plan) : Type 0 where
  pub once : first_repeated (assigned_ecus plan) ≡ None
  pub few : length plan.assigned ≤ 32
  pub known : IsTrue (list_all (λ a. is_taken_in a.ecu v) plan.assigned)

-- Each accepted manifest's plan is one for its vehicle. A sound state may lack this, since soundness says of plans only that their
-- images are registered; the states that commands reach have it.
abbrev pub HasOwnPlans : State → Type 0
HasOwnPlans s = (name : Name) (v : Vehicle) → table.get s.vehicles name ≡ Some v → AllByRecursion (λ e. IsPlanFor v e.plan) v.entries

abbrev pub EmptyHasOwnPlans : Type 0
EmptyHasOwnPlans = HasOwnPlans empty_state

abbrev pub StepsKeepOwnPlans : Type 0
StepsKeepOwnPlans = (k : Rules) (s : State) (at : ℕ) (c : Command) → IsSound k s → HasOwnPlans s → HasOwnPlans (step k s at c).next

abbrev pub RunsKeepOwnPlans : Type 0
RunsKeepOwnPlans = (k : Rules) (s : State) (ts : List Timed) → AllByRecursion (λ t. IsTrue (is_command t.command)) ts
    → IsSound k s → HasOwnPlans s → HasOwnPlans (run k s ts)

-- ---- the targets of replies

-- targets for at most 32 ECUs of the vehicle, at most one for each
pub record AreTargetsFor (v : Vehicle) (targets : List Target) : Type 0 where
  pub once : IsTrue (are_distinct (ecus_of targets))
  pub few : length targets ≤ 32
  pub known : IsTrue (list_all (λ name. is_taken_in name v) (ecus_of targets))

-- so are those of the reply to each accepted manifest, and so of a repeat's, whatever was replaced since
abbrev pub RepliesNameEcusOnce : Type 0
RepliesNameEcusOnce = (s : State) (keys : KeySet) (vehicle : Name) (v : Vehicle) (number : ℕ) (e : Entry) → HasOwnPlans s
    → table.get s.vehicles vehicle ≡ Some v → nth v.entries number ≡ Some e
    → AreTargetsFor v (reply_metadata s keys vehicle number e.at e.plan).targets
