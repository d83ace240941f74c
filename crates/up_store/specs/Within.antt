-- What a step of a call does within its transaction, all of it in one relation each.
use Rattle.std.specs.Prelude.{◌≡◌, ⊤, ℕ, List, Result, Ok, Err, IfErr, OnErr, OnOk}
use Rattle.std.specs.Borrow.{MutBor}
use Rattle.sqlite_trees.specs.declared.store.Store.{Ghosts}
use Rattle.sqlite.specs.Held.{Held, state}
use Rattle.sqlite.specs.Order.{Row}
use Rattle.sqlite.specs.State.{State as Connected, HasCleanDisk, IsRolledBack, Survives}
use Rattle.sqlite.specs.Tree.{Trees}
use Rattle.up_rows.specs.StateRows.{StateRows}
use Rattle.up_tables.specs.Ours.{HasFailed}
use Rattle.up_tables.specs.Stands.{IfClean, IsInside, LeavesOnly}
use Rattle.up_tables.specs.Statements.{IsOpenStep, IsStep, OnlyReads, WhereInside}
use Rattle.up_tables.specs.Tried.{BlamesOne, Ran, Undoes}
use Rattle.up_tables.specs.declared.values.StoreFault.{StoreFault}
use Rattle.up_tables.specs.declared.values.StoreFault.TheVariants.{Store}
use Rattle.up_store.specs.Connections.{BlamesWithin, Commits, FindsSuch, NeedsOpen, UndoesOrStays}

-- ---- reads

-- what tables that list rows tell of what is found, what any tables tell, that nothing is written, that the connection was open, when it tells
-- `Store` over rows that fit what the steps before it showed, and that nothing is committed
pub record FoundWithin {S A : Type 0} (g : Ghosts S) (tells : StateRows → A → Type 0) (finds : Connected → Connected → Result A StoreFault → Type 0)
    (fits : StateRows → Type 0) (old new : MutBor (Held S)) (result : Result A StoreFault) : Type 0 where
  pub found : FindsSuch tells (state g old.now) (state g new.now) result
  pub shown : finds (state g old.now) (state g new.now) result
  pub reads : OnlyReads (state g old.now) (state g new.now) result
  pub «open» : NeedsOpen (state g old.now) (state g new.now) result
  pub blame : BlamesWithin fits (state g old.now) (state g new.now) result
  pub step : IsStep g old new

abbrev pub FindsWithin : {S A : Type 0} → Ghosts S → (StateRows → A → Type 0) → (Connected → Connected → Result A StoreFault → Type 0) → (StateRows → Type 0) → MutBor (Held S) → MutBor (Held S) → Result A StoreFault → Type 0
FindsWithin g tells finds fits old new result = WhereInside g old (FoundWithin g tells finds fits old new result)

-- ---- writes

-- what is put, that these statements made it, when it tells `Store`, that want of memory undid the transaction, and that it goes on
pub record PutWithin {S A : Type 0} (g : Ghosts S) (puts : Connected → Connected → Result A StoreFault → Type 0) (these : List (List ℕ × Row))
    (may : Connected → Type 0) (old new : MutBor (Held S)) (result : Result A StoreFault) : Type 0 where
  pub put : puts (state g old.now) (state g new.now) result
  pub ran : Ran these (state g old.now) (state g new.now) result
  pub blame : BlamesOne these may (state g old.now) (state g new.now) result
  pub memory : Undoes (state g new.now) result
  pub step : IsOpenStep g old new result

abbrev pub PutsWithin : {S A : Type 0} → Ghosts S → (Connected → Connected → Result A StoreFault → Type 0) → List (List ℕ × Row) → (Connected → Type 0) → MutBor (Held S) → MutBor (Held S) → Result A StoreFault → Type 0
PutsWithin g puts these may old new result = WhereInside g old (PutWithin g puts these may old new result)

-- the same of a step that makes rows first: where there was no memory for them, nothing was asked of the connection
pub record MadeAndPut {S A : Type 0} (g : Ghosts S) (puts : Connected → Connected → Result A StoreFault → Type 0) (these : List (List ℕ × Row))
    (may : Connected → Type 0) (old new : MutBor (Held S)) (result : Result A StoreFault) : Type 0 where
  pub put : puts (state g old.now) (state g new.now) result
  pub ran : Ran these (state g old.now) (state g new.now) result
  pub blame : BlamesOne these may (state g old.now) (state g new.now) result
  pub memory : UndoesOrStays g old new result
  pub step : IsOpenStep g old new result

abbrev pub MakesAndPuts : {S A : Type 0} → Ghosts S → (Connected → Connected → Result A StoreFault → Type 0) → List (List ℕ × Row) → (Connected → Type 0) → MutBor (Held S) → MutBor (Held S) → Result A StoreFault → Type 0
MakesAndPuts g puts these may old new result = WhereInside g old (MadeAndPut g puts these may old new result)

-- ---- the end of a write

-- what a crash may leave besides what it could leave before: what was put, where it is committed
abbrev pub Committing : Result ⊤ StoreFault → Connected → Trees → Type 0
Committing (Ok x) old trees = trees ≡ old.now.trees
Committing (Err e) old trees = ⊥

-- what its step put is committed, and a crash leaves that alone; the fault of the step is handed on, and its fault or the commit's undoes what
-- was put
pub record EndsWrite (put : Result ⊤ StoreFault) (old new : Connected) (result : Result ⊤ StoreFault) : Type 0 where
  pub told : IfErr put (λ fault. result ≡ Err fault)
  pub committed : OnOk result (IfClean (Commits old) new)
  pub durable : OnOk result (IfClean (LeavesOnly (λ trees. trees ≡ old.now.trees)) new)
  pub undone : OnOk put (IfClean IsInside old) → OnErr result (IfClean (IsRolledBack old) new)
  pub cause : OnOk put (IfClean IsInside old → HasCleanDisk new → IfErr result (λ fault. fault ≡ Store → HasFailed old new))
  pub survives : Survives old new (Committing put old)
