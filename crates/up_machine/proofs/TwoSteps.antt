-- What both steps of a decision come to.
use Rattle.std.proofs.Common.{◌≡◌, ℕ, Bool, true, false, Option, Some, None, Result, Ok, Err, refl, sym, ◌∙◌, subst}
use Rattle.std.specs.Prelude.{⊤, IfOk, IfSome, IsTrue, MatchBool}
use Rattle.std.specs.FinMap as table
use Rattle.std.specs.declared.alloc.AllocError.{AllocError}
use Rattle.up_canon.specs.Refusals.{is_memory}
use Rattle.up_canon.specs.declared.refusal.Refusal.{Refusal}
use Rattle.up_sign.specs.Schemes.{Rules}
use Rattle.up_plan.specs.Images.{ImageData}
use Rattle.up_machine.specs.declared.rows.Founding.{Founding}
use Rattle.up_machine.specs.declared.decision.Decision.{Decision}
use Rattle.up_machine.specs.declared.decision.Decision.TheVariants.{Already, New}
use Rattle.up_machine.specs.State.{State}
use Rattle.up_machine.specs.Rows.{founding_row}
use Rattle.up_machine.specs.RowsFit.{founding_fits}
use Rattle.up_machine.specs.Sound.{IsSound}
use Rattle.up_machine.specs.Deciding.{Outcome, done}
use Rattle.up_machine.specs.Decisions.{GivesRows, GivesDecision, HasRootRows, HasRegisterRows}
use Rattle.up_machine.specs.Due.{HasRoot, HasFounding, CanMakeRoot, CanMakeFiles, GivesOutright, GivesNewImage}
use Rattle.up_machine.specs.Repositories.{stamped, decide_found, decide_rotate, decide_image, decide_new_image, decide_refresh}
use Rattle.up_machine.specs.TwoSteps.{founded, rotated, registered, or_memory, in_two_steps, new_rows, unless_there}
use Rattle.up_machine.specs.TwoSteps.{FoundedInTwoSteps, RotatedInTwoSteps, RegisteredInTwoSteps, RefreshedInTwoSteps}
use Rattle.up_machine.proofs.SoundRows.{founding_fits_in}

-- ---- what is due, and its rows

rows_made : {R : Type 0} (has : R → Type 0) (next : State) (made : Result R AllocError) (computed : Result Outcome Refusal)
    → computed ≡ Ok (done next) → IfOk made has → GivesRows has next (or_memory made) computed
rows_made has next (Ok rows) computed is h = (is, h)
rows_made has next (Err e) computed is h = tt

-- what is due of the next state, or the refusal that is due, unless memory was refused
both : {D R : Type 0} (due can : D → Type 0) (has : R → Type 0) (next : State) (told : Result D Refusal) (make : D → Result R AllocError)
    (computed : Result Outcome Refusal) → GivesRows due next told computed → IfOk told can → ((new : D) → can new → due new → IfOk (make new) has)
    → GivesRows has next (in_two_steps told make) computed
both due can has next (Ok new) make computed is fits made = rows_made has next (make new) computed is.0 (made new fits is.1)
both due can has next (Err r) make computed is fits made = is

-- the same where the first step takes no memory
unless_memory : (b : Bool) {X : Type 0} → X → MatchBool b ⊤ X
unless_memory true h = tt
unless_memory false h = h

both_outright : {D R : Type 0} (due can : D → Type 0) (has : R → Type 0) (next : State) (told : Result D Refusal) (make : D → Result R AllocError)
    (computed : Result Outcome Refusal) → GivesOutright due next told computed → IfOk told can → ((new : D) → can new → due new → IfOk (make new) has)
    → GivesRows has next (in_two_steps told make) computed
both_outright due can has next (Ok new) make computed is fits made = rows_made has next (make new) computed is.0 (made new fits is.1)
both_outright due can has next (Err r) make computed is fits made = unless_memory (is_memory r) is

-- ---- images

image_made : {R : Type 0} (has : R → Type 0) (s next : State) (made : Result R Refusal) (computed decided : Result Outcome Refusal)
    → computed ≡ decided → GivesRows has next made decided → GivesDecision has s next (new_rows made) computed
image_made has s next (Ok rows) computed decided is h = (is ∙ h.0, h.1)
image_made has s next (Err r) computed decided is h = subst (λ o. MatchBool (is_memory r) ⊤ (o ≡ Err r)) (sym is) h

both_of_image : {R : Type 0} (has : R → Type 0) (k : Rules) (s next : State) (at : ℕ) (image : ImageData) (told : Result (Decision Founding) Refusal)
    (make : Founding → Result R Refusal) (computed : Result Outcome Refusal) → GivesNewImage k s at image told computed
    → ((founding : Founding) → told ≡ Ok (New founding) → HasFounding s founding → table.get s.images image.file ≡ None
    → GivesRows has next (make founding) (decide_new_image k s at image))
    → GivesDecision has s next (unless_there told make) computed
both_of_image has k s next at image (Ok Already) make computed is made = is
both_of_image has k s next at image (Ok (New founding)) make computed is made =
    image_made has s next (make founding) computed (decide_new_image k s at image) is.2 (made founding refl is.0 is.1)
both_of_image has k s next at image (Err r) make computed is made = unless_memory (is_memory r) is

-- ---- the founding's row of a sound state

if_there : (k : Rules) (s : State) (o : Option Founding) → IsSound k s → founding_row s ≡ o → IfSome o (λ f. IsTrue (founding_fits k f))
if_there k s None sound is = tt
if_there k s (Some f) sound is = founding_fits_in k s f sound is

row_fits : (k : Rules) (s : State) → IsSound k s → IfSome (founding_row s) (λ f. IsTrue (founding_fits k f))
row_fits k s sound = if_there k s (founding_row s) sound refl

-- ---- the laws

pub founded_in_two_steps : FoundedInTwoSteps
founded_in_two_steps k s at keys told make sound tells fits made =
    let next = founded k s at keys in
    both (HasRoot k next at keys) (CanMakeRoot k at keys) (HasRootRows next) next told make (decide_found k s at keys) (tells s sound refl) fits
    (λ new can due. made new can next due refl)

pub rotated_in_two_steps : RotatedInTwoSteps
rotated_in_two_steps k s at keys told make sound tells fits made =
    let next = rotated k s at keys in
    both (HasRoot k next at keys) (CanMakeRoot k at keys) (HasRootRows next) next told make (decide_rotate k s at keys) (tells s sound refl)
    (fits (row_fits k s sound))
    (λ new can due. made new can next due refl)

pub registered_in_two_steps : RegisteredInTwoSteps
registered_in_two_steps k s at image told make sound tells same made =
    let next = registered k s at image in
    both_of_image (HasRegisterRows next) k s next at image told make (decide_image k s at image) (tells k s refl refl)
    (λ founding is due none. made founding (founding_fits_in k s founding sound (same founding is)) s sound due refl none)

pub refreshed_in_two_steps : RefreshedInTwoSteps
refreshed_in_two_steps k s at version told make sound tells fits made =
    let next = stamped k s at version in
    both_outright (HasFounding next) (CanMakeFiles k) (HasRegisterRows next) next told make (decide_refresh k s at version) (tells k s refl)
    (fits (row_fits k s sound))
    (λ founding can due. made founding can next due refl refl)
