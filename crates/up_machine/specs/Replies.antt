-- The Director's replies to accepted manifests.
use Rattle.std.specs.Prelude.{ℕ, ◌++◌, List, Option, Some, option_map, option_and_then, length, filter_map, codes, decimal}
use Rattle.std.specs.FinMap as table
use Rattle.serde_json.specs.Data.{string}
use Rattle.up_canon.specs.Canon.{text}
use Rattle.up_canon.specs.Names.{Name}
use Rattle.up_sign.specs.Schemes.{Rules}
use Rattle.up_roles.specs.declared.repository.Repository.TheVariants.{Director}
use Rattle.up_roles.specs.declared.targets.Target.{Target}
use Rattle.up_plan.specs.declared.assigned.Assigned.{Assigned}
use Rattle.up_plan.specs.declared.assigned.Plan.{Plan}
use Rattle.up_metadata.specs.declared.keys.KeySet.{KeySet}
use Rattle.up_metadata.specs.declared.role_files.RoleTexts.{RoleTexts}
use Rattle.up_metadata.specs.Files.{MetadataSet, role_texts}
use Rattle.up_machine.specs.declared.answer.Reply.{Reply}
use Rattle.up_machine.specs.State.{Entry, State, nth, root_number, key_set}
use Rattle.up_machine.specs.Files.{target_of}

-- ---- what is made

-- the target for an ECU that an image is assigned to
abbrev pub assigned_target : State → Assigned → Option Target
assigned_target s a = option_map (target_of (Some a.ecu)) (table.get s.images a.file)

-- the Director's files for a vehicle: of this version and moment, by these keys, of what the plan assigns
abbrev pub reply_metadata : State → KeySet → Name → ℕ → ℕ → Plan → MetadataSet
reply_metadata s keys vehicle number at plan = record {
  repository = Director;
  keys = keys;
  vehicle = Some vehicle;
  version = number;
  at = at;
  targets = filter_map (assigned_target s) plan.assigned;
}

-- the three files as they are, in one object
abbrev pub reply_json : Name → ℕ → ℕ → RoleTexts → List ℕ
reply_json vehicle number root files =
    codes "{\"root\":" ++ decimal root ++ codes ",\"snapshot\":" ++ files.snapshot ++ codes ",\"targets\":" ++ files.targets
    ++ codes ",\"timestamp\":" ++ files.timestamp ++ codes ",\"vehicle\":" ++ text (string vehicle) ++ codes ",\"version\":" ++ decimal number ++ codes "}"

-- by the keys of the last root version
unfoldable pub reply_text : Rules → State → Name → ℕ → ℕ → Plan → List ℕ
reply_text k s vehicle number at plan =
    reply_json vehicle number (root_number s) (role_texts k (reply_metadata s (key_set s) vehicle number at plan))

-- ---- what is kept

-- the reply to the vehicle's entry of this number
abbrev pub reply_to : Name → ℕ → Entry → Reply
reply_to vehicle number e = record {
  vehicle = vehicle;
  version = number;
  targets = length e.plan.assigned;
  withheld = e.plan.withheld;
  text = e.reply;
}

-- the kept reply: that to the vehicle's entry of this number, counted from 1; none where there is no such entry
abbrev pub kept_reply : State → Name → ℕ → Option Reply
kept_reply s vehicle number =
    option_and_then (λ v. option_map (reply_to vehicle number) (nth v.entries number)) (table.get s.vehicles vehicle)
