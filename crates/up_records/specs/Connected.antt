-- What a read over a connection finds, how it leaves the connection, and what is decided by it.
use Rattle.std.specs.Prelude.{◌≡◌, ◌||◌, Bool, true, false, None, Result, Ok, Err, MatchBool, IfOk, IfErr, IsTrue}
use Rattle.sqlite_disk.specs.Disk.{MoreFaults}
use Rattle.sqlite.specs.State.{State as Connected, HasCleanDisk, Survives}
use Rattle.up_canon.specs.Refusals.{is_memory}
use Rattle.up_canon.specs.declared.refusal.Refusal.{Refusal}
use Rattle.up_canon.specs.declared.refusal.Refusal.TheVariants.{Memory, Store}
use Rattle.up_sign.specs.Schemes.{Rules}
use Rattle.up_machine.specs.Sound.{IsSound}
use Rattle.up_machine.specs.State.{State}
use Rattle.up_rows.specs.StateRows.{StateRows}
use Rattle.up_tables.specs.declared.values.StoreFault.{StoreFault}
use Rattle.up_tables.specs.declared.values.StoreFault.TheVariants as fault
use Rattle.up_tables.specs.Stands.{IfClean}
use Rattle.up_store.specs.Connections.{KeepsRows, KeepsState}

-- ---- refusals

-- the database refused, for another cause than memory
abbrev pub is_store : Refusal → Bool
is_store Store = true
is_store _ = false

-- a fault: memory or the database refused
abbrev pub is_fault : Refusal → Bool
is_fault r = is_memory r || is_store r

-- a fault of the store as a refusal
abbrev pub refusal_told : StoreFault → Refusal
refusal_told fault.Memory = Memory
refusal_told fault.Store = Store

-- ---- reads

-- a connection that is open was open, and sees the database that it saw
abbrev pub SeesSame : Connected → Connected → Type 0
SeesSame old new = IsTrue new.is_open → IsTrue old.is_open × (new.now ≡ old.now)

-- nothing is written: the tables list what they listed, and a crash leaves what it could leave before
pub record Reads (old new : Connected) : Type 0 where
  pub kept : (rows : StateRows) → IfClean (KeepsRows rows) old → IfClean (KeepsRows rows) new
  pub same : (rows : StateRows) → IfClean (KeepsRows rows) old → IfClean (SeesSame old) new
  pub survives : Survives old new (λ _. ⊥)

-- on a connection that was open, with no limit on the steps of a query, the disk counted a fault
abbrev pub DiskFailed : Connected → Connected → Type 0
DiskFailed old new = IsTrue old.is_open → old.step_limit ≡ None → MoreFaults old.faults new.faults

-- this error is told only where the disk failed
abbrev pub BlamesDisk : {A E : Type 0} → E → Connected → Connected → Result A E → Type 0
BlamesDisk store old new result = HasCleanDisk new → IfErr result (λ e. e ≡ store → DiskFailed old new)

-- a read, whichever way it ended
pub record Finds {A : Type 0} (of_state : Rules → State → A) (old new : Connected) (result : Result A StoreFault) : Type 0 where
  -- what it finds is told by the state that the tables show
  pub told : HasCleanDisk new → IfOk result (λ found. (k : Rules) (s : State) → IfClean (KeepsState s) old → found ≡ of_state k s)
  -- `Store` is told only where the disk failed, over tables that show a sound state
  pub blame : (k : Rules) (s : State) → IsSound k s → IfClean (KeepsState s) old → BlamesDisk fault.Store old new result
  -- nothing is written
  pub reads : Reads old new

-- ---- decisions

-- the refusal is due, or memory was refused, or the disk failed, which is told as `Store`
abbrev pub IsDueOrFails : {O : Type 0} → Connected → Connected → Refusal → Result O Refusal → Type 0
IsDueOrFails old new r computed = MatchBool (is_fault r) (r ≡ Store → DiskFailed old new) (computed ≡ Err r)

-- what is decided is what a decision gives, but that the disk may fail too
abbrev pub GivesOrFails : {R O : Type 0} → (Result R Refusal → Result O Refusal → Type 0) → Connected → Connected → Result R Refusal
    → Result O Refusal → Type 0
GivesOrFails gives old new (Ok x) computed = gives (Ok x) computed
GivesOrFails gives old new (Err r) computed = IsDueOrFails old new r computed
