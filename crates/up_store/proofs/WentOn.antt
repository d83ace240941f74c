-- Parts of a write, one after another: what they carried out, and why the next one tells `Store`.
use Rattle.std.proofs.Common.{◌≡◌, ℕ, List, ◌++◌, Result, Ok, Err, IsTrue, sym, ◌∙◌}
use Rattle.up_store.proofs.Common.{IsErrAnd, Row, Connected, HasCleanDisk, IfClean, IsOpen, HasTables, Steps, BlamesOne, Ran, StoreFault, Store, Went, ran_then, blames_then}

-- so far these statements went through
pub record WentOn (these : List (List ℕ × Row)) (old mid : Connected) : Type 0 where
  pub steps : Steps old mid
  pub went : Went these old mid
  pub opened : IfClean IsOpen mid

pub ran_on : {A E : Type 0} (these those : List (List ℕ × Row)) (old mid new : Connected) (r : Result A E) → WentOn these old mid → Steps mid new → Ran those mid new r → Ran (these ++ those) old new r
ran_on these those old mid new r on steps ran = ran_then these those old mid new on.steps.survives steps.survives r on.went ran

-- the next part failed
pub blames_on : {A : Type 0} (these those : List (List ℕ × Row)) (P Q : Connected → Type 0) (old mid new : Connected) (r : Result A StoreFault) → WentOn these old mid → Steps mid new
    → (HasCleanDisk mid → IsTrue old.is_open → HasTables old → P old → Q mid) → BlamesOne those Q mid new r → BlamesOne (these ++ those) P old new r
blames_on these those P Q old mid new r on steps so blame = blames_then these those old mid new on.steps.survives steps.survives P Q r on.went on.opened so blame

-- a fault that is handed on, and isn't `Store` where P holds
pub never_store : {A : Type 0} (these : List (List ℕ × Row)) (P : Connected → Type 0) (old new : Connected) (r : Result A StoreFault) (f : StoreFault) → IsErrAnd r (λ e. e ≡ f) → (f ≡ Store → P old → ⊥) → BlamesOne these P old new r
never_store these P old new (Ok x) f is never clean = tt
never_store these P old new (Err e) f is never clean = λ told is_open has holds. absurd (never (sym is ∙ told) holds)
