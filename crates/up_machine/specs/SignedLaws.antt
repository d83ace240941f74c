-- Every file that is made is signed for its role.
use Rattle.std.specs.Prelude.{◌≡◌, ℕ, ◌⊎◌, ◌-◌, List, ◌∷◌, Some, option_map, option_to_list}
use Rattle.std.specs.FinMap as table
use Rattle.up_canon.specs.Names.{Name}
use Rattle.up_sign.specs.Schemes.{Rules, IsScheme}
use Rattle.up_roles.specs.declared.repository.Repository.{Repository}
use Rattle.up_roles.specs.declared.repository.Repository.TheVariants.{Director, Image}
use Rattle.up_roles.specs.Root.{root_payload}
use Rattle.up_metadata.specs.declared.role_files.RoleTexts.{RoleTexts}
use Rattle.up_metadata.specs.Files.{Root, root_file, root_text, role_texts}
use Rattle.up_metadata.specs.Signed.{IsSignedFor, root_role, AreSignedFor}
use Rattle.up_machine.specs.State.{Entry, Vehicle, State, nth, chain_of}
use Rattle.up_machine.specs.Files.{image_metadata, file}
use Rattle.up_machine.specs.Replies.{reply_metadata, reply_json}
use Rattle.up_machine.specs.Made.{keys_at, IsMade}

-- root version i is signed for its own root role and for that of the version before
pub record IsSignedRoot (k : Rules) (s : State) (roots : List Root) (repository : Repository) (i : ℕ) (root : Root) : Type 0 where
  pub there : nth (chain_of repository s).texts i ≡ Some (root_text k repository i root (keys_at roots (i - 1)))
  pub signed : IsSignedFor k (root_role repository root.keys ∷ option_to_list (option_map (root_role repository) (keys_at roots (i - 1))))
      (root_payload (root_file k repository i root)) (root_text k repository i root (keys_at roots (i - 1)))

abbrev pub RootsAreSigned : Type 0
RootsAreSigned = (k : Rules) (s : State) (roots : List Root) (repository : Repository) (i : ℕ) (root : Root) → IsScheme k → IsMade k s roots → nth roots i ≡ Some root
    → IsSignedRoot k s roots repository i root

-- the image repository's files are signed for the roles of the last root version
abbrev pub ImageFilesAreSigned : Type 0
ImageFilesAreSigned = (k : Rules) (s : State) (roots : List Root) (files : RoleTexts) → IsScheme k → IsMade k s roots → s.files ≡ Some files
    → (files ≡ role_texts k (image_metadata s)) × AreSignedFor k (image_metadata s)

-- the files in the reply to a vehicle's entry are those of its metadata set, which are signed for the Director's roles of the entry's root version
pub record HasSignedFiles (k : Rules) (s : State) (roots : List Root) (vehicle : Name) (number : ℕ) (e : Entry) : Type 0 where
  pub root : Root
  pub there : nth roots e.root ≡ Some root
  pub made : e.reply ≡ reply_json vehicle number e.root (role_texts k (reply_metadata s root.keys vehicle number e.at e.plan))
  pub signed : AreSignedFor k (reply_metadata s root.keys vehicle number e.at e.plan)

abbrev pub RepliesAreSigned : Type 0
RepliesAreSigned = (k : Rules) (s : State) (roots : List Root) (vehicle : Name) (v : Vehicle) (number : ℕ) (e : Entry) → IsScheme k → IsMade k s roots
    → table.get s.vehicles vehicle ≡ Some v → nth v.entries number ≡ Some e → HasSignedFiles k s roots vehicle number e

-- ---- what Fetch serves

-- a Root file of some version
abbrev pub IsRootText : State → Repository → List ℕ → Type 0
IsRootText s repository served = (i : ℕ) × (nth (chain_of repository s).texts i ≡ Some served)

-- one of the image repository's files
abbrev pub IsImageText : State → List ℕ → Type 0
IsImageText s served = (files : RoleTexts) × (s.files ≡ Some files)
    × ((served ≡ files.targets) ⊎ ((served ≡ files.snapshot) ⊎ (served ≡ files.timestamp)))

abbrev pub IsServedText : State → Repository → List ℕ → Type 0
IsServedText s Director served = IsRootText s Director served
IsServedText s Image served = IsRootText s Image served ⊎ IsImageText s served

-- each text that is served is one of these
abbrev pub ServedFilesAreKnown : Type 0
ServedFilesAreKnown = (s : State) (repository : Repository) (name : Name) (served : List ℕ) → file s repository name ≡ Some served → IsServedText s repository served
