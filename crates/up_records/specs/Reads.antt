-- What a read of records finds, and how it leaves them.
use Rattle.std.specs.Prelude.{◌≡◌, Result, IfOk, IfErr}
use Rattle.sqlite_trees.specs.declared.store.Store.{Ghosts}
use Rattle.up_sign.specs.Schemes.{Rules}
use Rattle.up_machine.specs.Sound.{IsSound}
use Rattle.up_machine.specs.State.{State}
use Rattle.up_tables.specs.declared.values.StoreFault.{StoreFault}
use Rattle.up_tables.specs.declared.values.StoreFault.TheVariants.{Store}
use Rattle.up_records.specs.Connected as connected
use Rattle.up_records.specs.Standing.{Standing, Stored, CanUse, HasCleanDisk, IfClean, ShowsState, Survives, state}

-- a connection that is open was open, and sees the database that it saw
abbrev pub SeesSame : Standing → Standing → Type 0
SeesSame old new = connected.SeesSame old.connection new.connection

-- nothing is written
pub record Reads (k : Rules) (old new : Standing) : Type 0 where
  -- each state that was shown is shown
  pub keeps : (s : State) → IfClean (ShowsState s) old → IfClean (ShowsState s) new
  -- and the connection sees the same
  pub same : (s : State) → IfClean (ShowsState s) old → HasCleanDisk new → SeesSame old new
  -- a crash leaves what it could leave before
  pub survives : Survives old new (λ _. ⊥)
  -- what is kept in memory can be used, if it could be
  pub can : CanUse k old → CanUse k new

-- on a connection that was open, with no limit on the steps of a query, the disk counted a fault
abbrev pub DiskFailed : Standing → Standing → Type 0
DiskFailed old new = connected.DiskFailed old.connection new.connection

-- a read, whichever way it ended: of what it finds this holds in the state
pub record ReadsSuch {A : Type 0} (k : Rules) (holds : State → A → Type 0) (old new : Standing) (result : Result A StoreFault) : Type 0 where
  -- it holds of each state that is shown
  pub told : HasCleanDisk new → IfOk result (λ found. (s : State) → IfClean (ShowsState s) old → holds s found)
  -- `Store` is told only where the disk failed, over a sound state that is shown
  pub blame : HasCleanDisk new → (s : State) → IsSound k s → IfClean (ShowsState s) old → IfErr result (λ f. f ≡ Store → DiskFailed old new)
  -- nothing is written
  pub reads : Reads k old new

-- what it finds is told by the state
abbrev pub ReadsState : {A : Type 0} → Rules → (State → A) → Standing → Standing → Result A StoreFault → Type 0
ReadsState k of_state = ReadsSuch k (λ s found. found ≡ of_state s)

-- ---- reads of records

abbrev pub Finds : {D A : Type 0} → Ghosts D → (Rules → State → A) → Stored D → Stored D → Result A StoreFault → Type 0
Finds g of_state old new result = (k : Rules) → ReadsState k (of_state k) (state g old) (state g new) result
