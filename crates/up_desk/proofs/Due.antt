-- What is due of an image, before all images are read.
use Rattle.std.proofs.Common.{◌≡◌, ℕ, None, Result, Err, Ok, subst, sym}
use Rattle.std.specs.Prelude.{IsErrAnd}
use Rattle.std.specs.FinMap as table
use Rattle.up_canon.specs.declared.refusal.Refusal.{Refusal}
use Rattle.up_sign.specs.Schemes.{Rules}
use Rattle.up_plan.specs.Images.{ImageData}
use Rattle.up_machine.specs.declared.decision.Decision.{Decision}
use Rattle.up_machine.specs.declared.decision.Decision.TheVariants.{Already, New}
use Rattle.up_machine.specs.declared.rows.Founding.{Founding}
use Rattle.up_machine.specs.State.{State}
use Rattle.up_machine.specs.Deciding.{Outcome, already}
use Rattle.up_machine.specs.Repositories.{decide_new_image}
use Rattle.up_machine.specs.Decisions.{GivesDecision, GivesRows}
use Rattle.up_machine.specs.Due.{HasFounding, GivesNewImage}

pub when_there : (k : Rules) (s : State) (at : ℕ) (image : ImageData) (d : Decision Founding) (computed : Result Outcome Refusal) → d ≡ Already → GivesNewImage k s at image (Ok d) computed
    → computed ≡ Ok (already s)
when_there k s at image Already computed is h = h
when_there k s at image (New founding) computed is h = cc

-- what is known of an image whose filename is new
pub when_new_image : (k : Rules) (s : State) (at : ℕ) (image : ImageData) (d : Decision Founding) (founding : Founding) (computed : Result Outcome Refusal) → d ≡ New founding → GivesNewImage k s at image (Ok d) computed
    → HasFounding s founding × (table.get s.images image.file ≡ None) × (computed ≡ decide_new_image k s at image)
when_new_image k s at image Already founding computed is h = cc
when_new_image k s at image (New other) founding computed is h = let same : other ≡ founding = cc in (subst (HasFounding s) same h.0, h.1, h.2)

-- the rows with it are what is decided
pub new_rows : {R : Type 0} (k : Rules) (has : R → Type 0) (next s : State) (at : ℕ) (image : ImageData) (d : Decision Founding) (founding : Founding) (computed : Result Outcome Refusal) (made : Result R Refusal) → d ≡ New founding → GivesNewImage k s at image (Ok d) computed
    → (HasFounding s founding → table.get s.images image.file ≡ None → GivesRows has next made (decide_new_image k s at image)) → GivesRows has next made computed
new_rows k has next s at image d founding computed made is h so = let it = when_new_image k s at image d founding computed is h in subst (GivesRows has next made) (sym it.2) (so it.0 it.1)

-- what refuses the rows refuses the decision
pub rows_refused : {R : Type 0} (has : R → Type 0) (s next : State) (result : Result (Decision R) Refusal) (e : Refusal) (computed : Result Outcome Refusal) → IsErrAnd result (λ x. x ≡ e) → GivesRows has next (Err e) computed
    → GivesDecision has s next result computed
rows_refused has s next (Ok d) e computed none h = absurd none
rows_refused has s next (Err r) e computed same h = subst (λ (q : Refusal). GivesRows has next (Err q) computed) (sym same) h
