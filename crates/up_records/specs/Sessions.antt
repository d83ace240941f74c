-- What is read within a session, which is a transaction that is under way, and what is decided by it.
use Rattle.std.specs.Prelude.{◌≡◌, false, ⊤, Result, Ok, Err, IfOk, IsTrue, OnOk}
use Rattle.std.specs.Borrow.{MutBor}
use Rattle.sqlite.specs.Held.{Held, state}
use Rattle.sqlite.specs.State.{State as Connected, HasCleanDisk}
use Rattle.sqlite_trees.specs.declared.store.Store.{Ghosts}
use Rattle.up_canon.specs.declared.refusal.Refusal.{Refusal}
use Rattle.up_sign.specs.Schemes.{Rules}
use Rattle.up_machine.specs.Sound.{IsSound}
use Rattle.up_machine.specs.State.{State}
use Rattle.up_rows.specs.StateRows.{rows_of_state}
use Rattle.up_tables.specs.Stands.{IsWithin}
use Rattle.up_tables.specs.Statements.{IsStep, WhereInside}
use Rattle.up_tables.specs.Tables.{up_schema}
use Rattle.up_tables.specs.declared.values.StoreFault.{StoreFault}
use Rattle.up_tables.specs.declared.values.StoreFault.TheVariants.{Store}
use Rattle.up_store.specs.Listing.{ListsRows}
use Rattle.up_records.specs.Connected.{BlamesDisk, GivesOrFails, SeesSame, is_fault}

-- as the transaction sees them, the tables list the rows of the state
abbrev pub SeesState : State → Connected → Type 0
SeesState s = IsWithin up_schema (ListsRows (rows_of_state s))

-- the transaction goes on, and sees what it saw, on a connection that is open if it was
pub record SeesOn (old new : Connected) : Type 0 where
  pub mode : new.in_transaction ≡ old.in_transaction
  pub same : SeesSame old new
  pub still : IsTrue old.is_open → IsTrue new.is_open

-- a read, under such rules: of what it finds this holds in each state that is seen, and `Store` is told only where the disk failed, over a sound
-- state; nothing is written
pub record FindsOn {S A : Type 0} (g : Ghosts S) (rules : Rules → Type 0) (holds : Rules → State → A → Type 0) (old new : MutBor (Held S))
    (result : Result A StoreFault) : Type 0 where
  pub told : HasCleanDisk (state g new.now) → IfOk result (λ found. (k : Rules) → rules k → (s : State) → SeesState s (state g old.now) → holds k s found)
  pub blame : (k : Rules) → rules k → (s : State) → IsSound k s → SeesState s (state g old.now) → BlamesDisk Store (state g old.now) (state g new.now) result
  pub sees : HasCleanDisk (state g new.now) → OnOk result (SeesOn (state g old.now) (state g new.now))
  pub step : IsStep g old new

-- so under any rules
abbrev pub FindsIn : {S A : Type 0} → Ghosts S → (Rules → State → A → Type 0) → MutBor (Held S) → MutBor (Held S) → Result A StoreFault → Type 0
FindsIn g holds old new result = WhereInside g old (FindsOn g (λ _. ⊤) holds old new result)

-- so under these
abbrev pub FindsUnder : {S A : Type 0} → Ghosts S → Rules → (State → A → Type 0) → MutBor (Held S) → MutBor (Held S) → Result A StoreFault → Type 0
FindsUnder g k holds old new result = WhereInside g old (FindsOn g (λ j. j ≡ k) (λ _. holds) old new result)

-- no fault is told
abbrev pub IsDecided : {R : Type 0} → Result R Refusal → Type 0
IsDecided (Ok x) = ⊤
IsDecided (Err r) = is_fault r ≡ false

-- a decision: over each sound state that is seen, and of which this is known, it decides what the rule comes to, or a fault is told; nothing is
-- written
pub record DecidesOn {S R O : Type 0} (g : Ghosts S) (k : Rules) (is_known : State → Type 0) (gives : State → Result R Refusal → Result O Refusal → Type 0)
    (rule : State → Result O Refusal) (old new : MutBor (Held S)) (result : Result R Refusal) : Type 0 where
  pub decided : HasCleanDisk (state g new.now) → (s : State) → IsSound k s → is_known s → SeesState s (state g old.now)
      → GivesOrFails (gives s) (state g old.now) (state g new.now) result (rule s)
  pub sees : HasCleanDisk (state g new.now) → IsDecided result → SeesOn (state g old.now) (state g new.now)
  pub step : IsStep g old new

abbrev pub DecidesIn : {S R O : Type 0} → Ghosts S → Rules → (State → Type 0) → (State → Result R Refusal → Result O Refusal → Type 0) → (State → Result O Refusal)
    → MutBor (Held S) → MutBor (Held S) → Result R Refusal → Type 0
DecidesIn g k is_known gives rule old new result = WhereInside g old (DecidesOn g k is_known gives rule old new result)
