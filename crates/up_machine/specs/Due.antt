-- What is due of a command, before all images are read and its files are made: what a first step of a decision answers, and what the
-- second asks for.
use Rattle.std.specs.Prelude.{◌≡◌, ℕ, ◌≤◌, Some, None, IfSome, IsTrue, Result, Ok, Err}
use Rattle.std.specs.FinMap as table
use Rattle.up_canon.specs.Moments.{last_command_moment}
use Rattle.up_canon.specs.declared.refusal.Refusal.{Refusal}
use Rattle.up_sign.specs.Schemes.{Rules}
use Rattle.up_roles.specs.declared.repository.Repository.TheVariants.{Director, Image}
use Rattle.up_roles.specs.Payload.{version_fits}
use Rattle.up_plan.specs.Images.{ImageData}
use Rattle.up_metadata.specs.declared.keys.KeySet.{KeySet}
use Rattle.up_metadata.specs.Files.{root_text, role_texts}
use Rattle.up_metadata.specs.Keys.{key_set_fits, hashed_key_set, roles_can_sign, all_can_sign}
use Rattle.up_machine.specs.declared.rows.Founding.{Founding}
use Rattle.up_machine.specs.declared.decision.NextRoot.{NextRoot}
use Rattle.up_machine.specs.declared.decision.Decision.{Decision}
use Rattle.up_machine.specs.declared.decision.Decision.TheVariants.{Already, New}
use Rattle.up_machine.specs.State.{State, last_text}
use Rattle.up_machine.specs.Files.{image_metadata}
use Rattle.up_machine.specs.Rows.{founding_row}
use Rattle.up_machine.specs.Deciding.{Outcome, already}
use Rattle.up_machine.specs.Repositories.{decide_new_image}
use Rattle.up_machine.specs.Decisions.{IsDone}

-- ---- what is due of a next state

-- the founding's row with a root version that is due
abbrev pub row_with_root : ℕ → KeySet → NextRoot → Founding
row_with_root at keys new = record {
  root = new.number;
  image_root = new.image_number;
  keys = keys;
  image_version = new.version;
  targets_version = new.version;
  stamp = at;
}

-- the image repository's files are those that are made of the rest
abbrev pub HasNewFiles : Rules → State → Type 0
HasNewFiles k next = next.files ≡ Some (role_texts k (image_metadata next))

-- the last root version is made of these keys at this moment, which stamps the image repository's files too
pub record HasRoot (k : Rules) (next : State) (at : ℕ) (keys : KeySet) (new : NextRoot) : Type 0 where
  pub founding : founding_row next ≡ Some (row_with_root at keys new)
  pub director : last_text next.director.texts ≡ Some (root_text k Director new.number (record { keys = keys; at = at }) new.before)
  pub image : last_text next.image.texts ≡ Some (root_text k Image new.image_number (record { keys = keys; at = at }) new.before)
  pub files : HasNewFiles k next

-- the founding's row
abbrev pub HasFounding : State → Founding → Type 0
HasFounding next founding = founding_row next ≡ Some founding

-- ---- what making files asks of it

-- the keys fit, `hashed` is of these keys, those of the version before can sign, and both repositories' files have their numbers and a
-- command's moment
pub record CanMakeRoot (k : Rules) (at : ℕ) (keys : KeySet) (new : NextRoot) : Type 0 where
  pub keys_fit : IsTrue (key_set_fits k keys)
  pub hashed : new.hashed ≡ hashed_key_set k keys
  pub before : IfSome new.before (λ b. IsTrue (all_can_sign k b))
  pub number : IsTrue (version_fits new.number)
  pub image_number : IsTrue (version_fits new.image_number)
  pub version : IsTrue (version_fits new.version)
  pub moment : at ≤ last_command_moment

-- the image repository's keys can sign, and its files have a version and a command's moment
pub record CanMakeFiles (k : Rules) (founding : Founding) : Type 0 where
  pub keys : IsTrue (roles_can_sign k founding.keys.image)
  pub version : IsTrue (version_fits founding.image_version)
  pub moment : founding.stamp ≤ last_command_moment

-- ---- answers that take no memory

-- what is due of the next state, or the refusal that is due
abbrev pub GivesOutright : {R : Type 0} → (R → Type 0) → State → Result R Refusal → Result Outcome Refusal → Type 0
GivesOutright has next (Ok due) computed = IsDone has next due computed
GivesOutright has next (Err r) computed = computed ≡ Err r

-- of an image, before all images are read: that it is there already, the refusal that is due, or, of a new filename, the founding's row,
-- and that the rest is to be decided
abbrev pub GivesNewImage : Rules → State → ℕ → ImageData → Result (Decision Founding) Refusal → Result Outcome Refusal → Type 0
GivesNewImage k s at image (Ok Already) computed = computed ≡ Ok (already s)
GivesNewImage k s at image (Ok (New founding)) computed = HasFounding s founding × (table.get s.images image.file ≡ None) × (computed ≡ decide_new_image k s at image)
GivesNewImage k s at image (Err r) computed = computed ≡ Err r
