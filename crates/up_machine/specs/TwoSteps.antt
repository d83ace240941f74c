-- Decisions in two steps. The first tells what is due, over the rows that its rule reads; the second makes the rows of just that, over all
-- images. Both together answer what the plain machine decides.
use Rattle.std.specs.Prelude.{◌≡◌, ℕ, ◌+◌, Bool, Option, Some, None, IfOk, IfSome, IsTrue, is_some, Result, Ok, Err}
use Rattle.std.specs.FinMap as table
use Rattle.std.specs.declared.alloc.AllocError.{AllocError}
use Rattle.up_canon.specs.Names.{Table}
use Rattle.up_canon.specs.declared.refusal.Refusal.{Refusal}
use Rattle.up_canon.specs.declared.refusal.Refusal.TheVariants.{Memory}
use Rattle.up_sign.specs.Schemes.{Rules}
use Rattle.up_plan.specs.Images.{ImageData}
use Rattle.up_machine.specs.declared.command.Command.TheVariants.{Found, Rotate, AddImage, Refresh}
use Rattle.up_metadata.specs.declared.keys.KeySet.{KeySet}
use Rattle.up_machine.specs.declared.rows.Founding.{Founding}
use Rattle.up_machine.specs.declared.decision.NextRoot.{NextRoot}
use Rattle.up_machine.specs.declared.decision.RootRows.{RootRows}
use Rattle.up_machine.specs.declared.decision.RegisterRows.{RegisterRows}
use Rattle.up_machine.specs.declared.decision.Decision.{Decision}
use Rattle.up_machine.specs.declared.decision.Decision.TheVariants.{Already, New}
use Rattle.up_machine.specs.State.{State}
use Rattle.up_machine.specs.Rows.{founding_row}
use Rattle.up_machine.specs.RowsFit.{founding_fits}
use Rattle.up_machine.specs.Sound.{IsSound}
use Rattle.up_machine.specs.Repositories.{stamped, with_root, with_image, decide_found, decide_rotate, decide_image, decide_new_image, decide_refresh}
use Rattle.up_machine.specs.Machine.{decide}
use Rattle.up_machine.specs.Decisions.{GivesRows, GivesDecision, HasRootRows, HasRegisterRows}
use Rattle.up_machine.specs.Due.{HasRoot, HasFounding, HasNewFiles, CanMakeRoot, CanMakeFiles, GivesOutright, GivesNewImage}

-- ---- the next states

-- with the first root version
abbrev pub founded : Rules → State → ℕ → KeySet → State
founded k s at keys = stamped k (with_root k s at keys) at 1

-- with one root version more
abbrev pub rotated : Rules → State → ℕ → KeySet → State
rotated k s at keys = stamped k (with_root k s at keys) at (s.image_version + 1)

-- with one image more
abbrev pub registered : Rules → State → ℕ → ImageData → State
registered k s at image = stamped k (with_image s image) at (s.image_version + 1)

-- ---- what each step says of its answer: the contracts of these functions

-- `decide_found`: of each sound state that is founded or not, as it was told, what is due or the refusal
abbrev pub TellsFounding : Rules → ℕ → KeySet → Bool → Result NextRoot Refusal → Type 0
TellsFounding k at keys is_founded told = (s : State) → IsSound k s → is_founded ≡ is_some (founding_row s)
    → GivesRows (HasRoot k (founded k s at keys) at keys) (founded k s at keys) told (decide_found k s at keys)

-- `decide_rotate`: of each sound state of this founding's row
abbrev pub TellsRotation : Rules → ℕ → KeySet → Option Founding → Result NextRoot Refusal → Type 0
TellsRotation k at keys founding told = (s : State) → IsSound k s → founding ≡ founding_row s
    → GivesRows (HasRoot k (rotated k s at keys) at keys) (rotated k s at keys) told (decide_rotate k s at keys)

-- the same two of keys that fit, whose tests take no memory
abbrev pub TellsFoundingOutright : Rules → ℕ → KeySet → Bool → Result NextRoot Refusal → Type 0
TellsFoundingOutright k at keys is_founded told = (s : State) → IsSound k s → is_founded ≡ is_some (founding_row s)
    → GivesOutright (HasRoot k (founded k s at keys) at keys) (founded k s at keys) told (decide_found k s at keys)

abbrev pub TellsRotationOutright : Rules → ℕ → KeySet → Option Founding → Result NextRoot Refusal → Type 0
TellsRotationOutright k at keys founding told = (s : State) → IsSound k s → founding ≡ founding_row s
    → GivesOutright (HasRoot k (rotated k s at keys) at keys) (rotated k s at keys) told (decide_rotate k s at keys)

-- `root_rows`: the rows of each state of which this is due, with these images
abbrev pub MakesRootRows : Rules → ℕ → KeySet → NextRoot → Table ImageData → Result RootRows AllocError → Type 0
MakesRootRows k at keys new images made = (next : State) → HasRoot k next at keys new → images ≡ next.images → IfOk made (HasRootRows next)

-- `decide_image`: of each state of this founding's row and this image of the filename
abbrev pub TellsImage : ℕ → ImageData → Option Founding → Option ImageData → Result (Decision Founding) Refusal → Type 0
TellsImage at image founding old told = (k : Rules) (s : State) → founding ≡ founding_row s → old ≡ table.get s.images image.file
    → GivesNewImage k s at image told (decide_image k s at image)

-- `decide_new_image`: of each sound state of this founding and these images, which has none of the filename
abbrev pub MakesImageRows : Rules → ℕ → ImageData → Founding → Table ImageData → Result RegisterRows Refusal → Type 0
MakesImageRows k at image founding images made = (s : State) → IsSound k s → HasFounding s founding → images ≡ s.images
    → table.get s.images image.file ≡ None
    → GivesRows (HasRegisterRows (registered k s at image)) (registered k s at image) made (decide_new_image k s at image)

-- `decide_refresh`: of each state of this founding's row
abbrev pub TellsRefresh : ℕ → ℕ → Option Founding → Result Founding Refusal → Type 0
TellsRefresh at version founding told = (k : Rules) (s : State) → founding ≡ founding_row s
    → GivesOutright (HasFounding (stamped k s at version)) (stamped k s at version) told (decide_refresh k s at version)

-- `register_rows`: the rows of each state of which this is due, with these images
abbrev pub MakesRegisterRows : Rules → Founding → Table ImageData → Result RegisterRows AllocError → Type 0
MakesRegisterRows k founding images made = (next : State) → HasFounding next founding → HasNewFiles k next → images ≡ next.images → IfOk made (HasRegisterRows next)

-- ---- both steps

-- memory that was refused is a refusal
abbrev pub or_memory : {R : Type 0} → Result R AllocError → Result R Refusal
or_memory (Ok rows) = Ok rows
or_memory (Err e) = Err Memory

-- the first step's refusal, or what the second makes of what is due
abbrev pub in_two_steps : {D R : Type 0} → Result D Refusal → (D → Result R AllocError) → Result R Refusal
in_two_steps (Ok due) make = or_memory (make due)
in_two_steps (Err r) make = Err r

abbrev pub new_rows : {R : Type 0} → Result R Refusal → Result (Decision R) Refusal
new_rows (Ok rows) = Ok (New rows)
new_rows (Err r) = Err r

-- the same of what may be there already, where the second step may refuse too
abbrev pub unless_there : {D R : Type 0} → Result (Decision D) Refusal → (D → Result R Refusal) → Result (Decision R) Refusal
unless_there (Ok Already) make = Ok Already
unless_there (Ok (New due)) make = new_rows (make due)
unless_there (Err r) make = Err r

-- ---- the laws
-- Over the rows of a sound state both steps together answer the rows of the plain machine's next state, `Already`, or the refusal that is
-- due, unless memory was refused. What the first step tells has what the second asks for.

abbrev pub FoundedInTwoSteps : Type 0
FoundedInTwoSteps = (k : Rules) (s : State) (at : ℕ) (keys : KeySet) (told : Result NextRoot Refusal) (make : NextRoot → Result RootRows AllocError)
    → IsSound k s
    → TellsFounding k at keys (is_some (founding_row s)) told
    → IfOk told (CanMakeRoot k at keys)
    → ((new : NextRoot) → CanMakeRoot k at keys new → MakesRootRows k at keys new s.images (make new))
    → GivesRows (HasRootRows (founded k s at keys)) (founded k s at keys) (in_two_steps told make) (decide k s at (Found keys))

abbrev pub RotatedInTwoSteps : Type 0
RotatedInTwoSteps = (k : Rules) (s : State) (at : ℕ) (keys : KeySet) (told : Result NextRoot Refusal) (make : NextRoot → Result RootRows AllocError)
    → IsSound k s
    → TellsRotation k at keys (founding_row s) told
    → (IfSome (founding_row s) (λ f. IsTrue (founding_fits k f)) → IfOk told (CanMakeRoot k at keys))
    → ((new : NextRoot) → CanMakeRoot k at keys new → MakesRootRows k at keys new s.images (make new))
    → GivesRows (HasRootRows (rotated k s at keys)) (rotated k s at keys) (in_two_steps told make) (decide k s at (Rotate keys))

abbrev pub RegisteredInTwoSteps : Type 0
RegisteredInTwoSteps = (k : Rules) (s : State) (at : ℕ) (image : ImageData) (told : Result (Decision Founding) Refusal)
    (make : Founding → Result RegisterRows Refusal)
    → IsSound k s
    → TellsImage at image (founding_row s) (table.get s.images image.file) told
    → ((founding : Founding) → told ≡ Ok (New founding) → founding_row s ≡ Some founding)
    → ((founding : Founding) → IsTrue (founding_fits k founding) → MakesImageRows k at image founding s.images (make founding))
    → GivesDecision (HasRegisterRows (registered k s at image)) s (registered k s at image) (unless_there told make) (decide k s at (AddImage image))

abbrev pub RefreshedInTwoSteps : Type 0
RefreshedInTwoSteps = (k : Rules) (s : State) (at version : ℕ) (told : Result Founding Refusal) (make : Founding → Result RegisterRows AllocError)
    → IsSound k s
    → TellsRefresh at version (founding_row s) told
    → (IfSome (founding_row s) (λ f. IsTrue (founding_fits k f)) → IfOk told (CanMakeFiles k))
    → ((founding : Founding) → CanMakeFiles k founding → MakesRegisterRows k founding s.images (make founding))
    → GivesRows (HasRegisterRows (stamped k s at version)) (stamped k s at version) (in_two_steps told make) (decide k s at (Refresh version))
