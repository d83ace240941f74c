-- What is published at once, and what comes of it. Each check carries the name of its refusal, in the order of refusals.
use Rattle.std.specs.Prelude.{ℕ, ◌+◌, ◌++◌, List, [], ◌∷◌, Bool, false, option_and_then, Option, Some, None, if◌then◌else◌, not, Result, Ok, Err, codes}
use Rattle.std.specs.FinMap as table
use Rattle.up_canon.specs.Names.{Table}
use Rattle.up_canon.specs.Steps.{◌>>=◌, refuse_if, or_error}
use Rattle.up_canon.specs.declared.refusal.Refusal.TheVariants.{BadShape, ImageTaken}
use Rattle.up_shown.specs.Showing.{Showing}
use Rattle.up_roles.specs.declared.repository.Repository.{Repository}
use Rattle.up_roles.specs.declared.root.RootFile.{RootFile}
use Rattle.up_plan.specs.Images.{ImageData}
use Rattle.up_machine.specs.Repositories.{same_image}
use Rattle.up_brought.specs.declared.brought.BroughtRoot.{BroughtRoot}
use Rattle.up_brought.specs.declared.fault.Fault.{Fault}
use Rattle.up_brought.specs.declared.fault.Fault.TheVariants.{Known, BadSignature}
use Rattle.up_brought.specs.Shown.{files_are_apart}
use Rattle.up_brought.specs.Brought.{root_read, next_keys, check_targets, check_kept}
use Rattle.up_offline.specs.State.{Chain, State, is_offline, root_number, last_root}
use Rattle.up_offline.specs.Making.{Listing, image_targets, made_listing}

-- ---- what is brought

-- what is published at once: Root files, Targets of the image repository, and images that it lists
pub record Publication : Type 0 where
  pub director : Option BroughtRoot
  pub image : Option BroughtRoot
  pub targets : Option (List ℕ)
  pub images : List ImageData

-- ---- root versions

-- a repository with a Root that is brought
unfoldable pub next_chain : Showing → Repository → ℕ → Chain → BroughtRoot → Result Chain Fault
next_chain k repository at chain brought = do
  keys ← next_keys k repository (root_number chain) (last_root chain) at chain.keys brought
  Ok (record { texts = chain.texts ++ brought.text ∷ []; keys = keys })

abbrev pub chain_with : Showing → Repository → ℕ → Chain → Option BroughtRoot → Result Chain Fault
chain_with k repository at chain None = Ok chain
chain_with k repository at chain (Some brought) = next_chain k repository at chain brought

-- no key stands in the last Roots of both repositories
abbrev pub read_apart : Option RootFile → Option RootFile → Bool
read_apart (Some a) (Some b) = files_are_apart a b
read_apart _ _ = false

abbrev pub are_apart : Chain → Chain → Bool
are_apart a b = read_apart (option_and_then root_read (last_root a)) (option_and_then root_read (last_root b))

-- ---- images

-- another image of its filename is registered
abbrev pub is_another : ImageData → Option ImageData → Bool
is_another image None = false
is_another image (Some old) = not (same_image image old)

-- the register with these images
unfoldable pub register : List ImageData → Table ImageData → Result (Table ImageData) Fault
register [] images = Ok images
register (image ∷ more) images = do
  taken ← refuse_if (is_another image (table.get images image.file)) (Known ImageTaken)
  register more (table.insert images image.file image)

-- ---- Targets

-- Targets that are brought
unfoldable pub brought_targets : Showing → State → ℕ → List ℕ → Result Listing Fault
brought_targets k s at text = do
  file ← check_targets k (last_root s.image) (image_targets s) s.targets_version (s.image_version + 1) at text
  Ok (record { text = text; version = file.version })

-- Targets that stay have to be signed for the last Root, and to list the images still
unfoldable pub kept_targets : Showing → State → Result Listing Fault
kept_targets k s = do
  files ← or_error (BadSignature (codes "targets")) s.files
  checked ← check_kept k (last_root s.image) (image_targets s) files.targets
  Ok (record { text = files.targets; version = s.targets_version })

-- the Targets that are served next: brought ones, or those that are there, where their keys are kept offline; else the server makes them
unfoldable pub next_targets : Showing → State → ℕ → Option (List ℕ) → Result Listing Fault
next_targets k s at None = if is_offline s.image.keys.targets then kept_targets k s else Ok (made_listing k.rules s at (s.image_version + 1))
next_targets k s at (Some text) = if is_offline s.image.keys.targets then brought_targets k s at text else Err (Known (BadShape (codes "targets")))
