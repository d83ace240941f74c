-- The state: what was published is kept as it was published. No part of it depends on the scheme.
use Rattle.std.specs.Prelude.{ℕ, ◌==◌, List, Bool, Option, is_some, length}
use Rattle.up_canon.specs.Names.{Table}
use Rattle.up_plan.specs.Campaigns.{CampaignData}
use Rattle.up_plan.specs.Images.{ImageData}
use Rattle.up_metadata.specs.declared.keys.RoleSecrets.{RoleSecrets}
use Rattle.up_metadata.specs.declared.role_files.RoleTexts.{RoleTexts}
pub use Rattle.up_machine.specs.State.{Chain}
use Rattle.up_machine.specs.State.{Vehicle, last_text}

-- ---- keys

abbrev pub is_offline : RoleSecrets → Bool
is_offline role = length role.keys == 0

-- ---- the state

-- the image repository's version is that of its Snapshot and its Timestamp, which were made at the stamp; its Targets have a version of their own
pub record State : Type 0 where
  pub director : Chain
  pub image : Chain
  pub files : Option RoleTexts
  pub images : Table ImageData
  pub image_version : ℕ
  pub targets_version : ℕ
  pub stamp : ℕ
  pub campaigns : Table CampaignData
  pub vehicles : Table Vehicle

-- both repositories are founded at once
abbrev pub is_founded : State → Bool
is_founded s = is_some s.files

-- how many root versions there are
abbrev pub root_number : Chain → ℕ
root_number chain = length chain.texts

-- the text of the last one; none before founding
abbrev pub last_root : Chain → Option (List ℕ)
last_root chain = last_text chain.texts
