-- What commands publish: each Root, each other file and each reply is what is made, byte for byte, of the keys and moments of the root
-- versions so far. Nobody has to know these: what is served is kept.
use Rattle.std.specs.Prelude.{◌≡◌, ℕ, ◌+◌, ◌≤◌, ◌++◌, List, [], ◌∷◌, Option, Some, None, IsTrue, option_map, length}
use Rattle.std.specs.List.{AllByRecursion}
use Rattle.std.specs.FinMap as table
use Rattle.up_canon.specs.Moments.{last_command_moment}
use Rattle.up_canon.specs.Names.{Name}
use Rattle.up_sign.specs.Schemes.{Rules}
use Rattle.up_roles.specs.declared.repository.Repository.{Repository}
use Rattle.up_roles.specs.declared.repository.Repository.TheVariants.{Director, Image}
use Rattle.up_metadata.specs.declared.keys.KeySet.{KeySet}
use Rattle.up_metadata.specs.declared.role_files.RoleTexts.{RoleTexts}
use Rattle.up_metadata.specs.Keys.{key_set_fits}
use Rattle.up_metadata.specs.Files.{Root, root_text, role_texts}
use Rattle.up_machine.specs.declared.answer.Answer.{Answer}
use Rattle.up_machine.specs.declared.answer.Answer.TheVariants.{Done}
use Rattle.up_machine.specs.declared.command.Command.{Command}
use Rattle.up_machine.specs.declared.command.Command.TheVariants.{Found, Rotate}
use Rattle.up_machine.specs.Commands.{is_command}
use Rattle.up_machine.specs.State.{Entry, Vehicle, State, empty_state, nth, keys_before}
use Rattle.up_machine.specs.Files.{image_metadata}
use Rattle.up_machine.specs.Replies.{reply_metadata, reply_json}
use Rattle.up_machine.specs.Machine.{Timed, step, run}
use Rattle.up_machine.specs.Sound.{IsSound}

-- ---- root versions

-- keys that fit, with distinct identifiers and a threshold that they can meet in each role, and a command's moment
pub record IsSoundRoot (k : Rules) (root : Root) : Type 0 where
  pub keys : IsTrue (key_set_fits k root.keys)
  pub moment : root.at ≤ last_command_moment

-- the keys of version i of these
abbrev pub keys_at : List Root → ℕ → Option KeySet
keys_at roots i = option_map (λ root. root.keys) (nth roots i)

-- the texts of these root versions, from this number on, behind these keys
abbrev pub root_texts : Rules → Repository → ℕ → Option KeySet → List Root → List (List ℕ)
root_texts k repository number before [] = []
root_texts k repository number before (root ∷ roots) = root_text k repository number root before ∷ root_texts k repository (number + 1) (Some root.keys) roots

-- ---- what is published

-- the reply to an entry is made of its plan, by the keys of its root version
pub record IsReplyMade (k : Rules) (s : State) (roots : List Root) (vehicle : Name) (number : ℕ) (e : Entry) : Type 0 where
  pub root : Root
  pub there : nth roots e.root ≡ Some root
  pub made : e.reply ≡ reply_json vehicle number e.root (role_texts k (reply_metadata s root.keys vehicle number e.at e.plan))

-- the Roots of these root versions, whose last keys are held, the image repository's files by these, of one version, and the replies
pub record IsMade (k : Rules) (s : State) (roots : List Root) : Type 0 where
  pub each_root : AllByRecursion (IsSoundRoot k) roots
  pub director : s.director.texts ≡ root_texts k Director 1 None roots
  pub image : s.image.texts ≡ root_texts k Image 1 None roots
  pub keys : keys_before s ≡ keys_at roots (length roots)
  pub targets : s.targets_version ≡ s.image_version
  pub files : (files : RoleTexts) → s.files ≡ Some files → files ≡ role_texts k (image_metadata s)
  pub replies : (vehicle : Name) (v : Vehicle) (number : ℕ) (e : Entry) → table.get s.vehicles vehicle ≡ Some v → nth v.entries number ≡ Some e
      → IsReplyMade k s roots vehicle number e

-- ---- the root versions that commands make

-- one for each founding and rotation
abbrev pub root_in : ℕ → Command → List Root
root_in at (Found keys) = record { keys = keys; at = at } ∷ []
root_in at (Rotate keys) = record { keys = keys; at = at } ∷ []
root_in at _ = []

-- where it is done
abbrev pub new_roots : ℕ → Command → Answer → List Root
new_roots at c Done = root_in at c
new_roots at c _ = []

abbrev pub roots_of : Rules → State → List Timed → List Root
roots_of k s [] = []
roots_of k s (t ∷ ts) = let o = step k s t.at t.command in new_roots t.at t.command o.answer ++ roots_of k o.next ts

-- ---- the laws

abbrev pub EmptyIsMade : Type 0
EmptyIsMade = (k : Rules) → IsMade k empty_state []

abbrev pub StepsMake : Type 0
StepsMake = (k : Rules) (s : State) (at : ℕ) (c : Command) (roots : List Root) → IsSound k s → IsMade k s roots
    → IsMade k (step k s at c).next (roots ++ new_roots at c (step k s at c).answer)

-- so every run leaves what is made of the keys and moments of its foundings and rotations
abbrev pub RunsMake : Type 0
RunsMake = (k : Rules) (s : State) (ts : List Timed) (roots : List Root) → AllByRecursion (λ t. IsTrue (is_command t.command)) ts → IsSound k s → IsMade k s roots
    → IsMade k (run k s ts) (roots ++ roots_of k s ts)
