-- What a call that makes, takes or raises the tables leaves, and why it tells a fault, each in one relation.
use Rattle.std.specs.Prelude.{◌≡◌, ◌≢◌, ◌⊎◌, ℕ, List, Bool, false, Result, OnOk, IsTrue}
use Rattle.std.specs.Borrow.{MutBor}
use Rattle.sqlite_trees.specs.declared.store.Store.{Ghosts}
use Rattle.sqlite.specs.declared.error.Error.{Error}
use Rattle.sqlite.specs.Held.{Held, state}
use Rattle.sqlite.specs.Order.{Row}
use Rattle.sqlite.specs.Schema.{Schema}
use Rattle.sqlite.specs.State.{State, HasCleanDisk, Survives}
use Rattle.sqlite.specs.Table.{Table}
use Rattle.sqlite.specs.Tree.{Trees}
use Rattle.up_tables.specs.declared.open.OpenFault.{OpenFault}
use Rattle.up_tables.specs.declared.open.OpenFault.TheVariants.{NotOurs, Store}
use Rattle.up_tables.specs.declared.open.SchemaVersion.{SchemaVersion}
use Rattle.up_tables.specs.Lines.{AreNew}
use Rattle.up_tables.specs.Listed.{TableRows, ListsTables}
use Rattle.up_tables.specs.Making.{FailsToMake, FailsToRaise, IsTaken, ShowsRaised, StopsAtOne, Tries, TriesAnywhere, alone, raising}
use Rattle.up_tables.specs.Ours.{HasFailed, IsHindered, ListsUs, NamesOthers, NamesUs}
use Rattle.up_tables.specs.Stands.{AnyRows, AreEmpty, AreWith, HasNoTables, IfClean, IsAsCommitted, IsWithin, LeavesOnly, Stands}
use Rattle.up_tables.specs.Statements.{IsOpenStep, IsStep, MakesTable, WhereInside}
use Rattle.up_tables.specs.Tables.{up_schema}
use Rattle.up_tables.specs.Versions.{StandsAs}

-- a step that makes tables by these statements: what then holds of the connection, that its error is told for its cause, and that nothing is
-- committed
pub record MadeBy {S : Type 0} (g : Ghosts S) (these : List (List ℕ × Row)) (makes : State → Type 0) (old new : MutBor (Held S))
    (result : Result ℕ Error) : Type 0 where
  pub made : OnOk result (IfClean makes (state g new.now))
  pub tried : HasCleanDisk (state g new.now) → Tries these (state g old.now) (state g new.now) result
  pub step : IsStep g old new

-- the same where those of this schema are there, all empty
abbrev pub MakesBy : {S : Type 0} → Ghosts S → List (List ℕ × Row) → Schema → (State → Type 0) → MutBor (Held S) → MutBor (Held S) → Result ℕ Error → Type 0
MakesBy g these from makes old new result = IfClean (IsWithin from (AreEmpty from)) (state g old.now) → MadeBy g these makes old new result

-- a table is made where those of this schema are there, empty or not; its error is told for its cause, whatever tables there are
pub record Added {S : Type 0} (g : Ghosts S) (schema : Schema) (table : Table) (text : List ℕ) (old new : MutBor (Held S)) (result : Result ℕ Error) : Type 0 where
  pub made : MakesTable schema table (state g old.now) (state g new.now) result
  pub tried : HasCleanDisk (state g new.now) → IsWithin schema AnyRows (state g old.now) → Tries (alone text) (state g old.now) (state g new.now) result
  pub anywhere : HasCleanDisk (state g new.now) → TriesAnywhere (alone text) (state g old.now) (state g new.now) result
  pub step : IsOpenStep g old new result

abbrev pub AddsTable : {S : Type 0} → Ghosts S → Schema → Table → List ℕ → MutBor (Held S) → MutBor (Held S) → Result ℕ Error → Type 0
AddsTable g schema table text old new result = WhereInside g old (Added g schema table text old new result)

-- a step of a raise, by these statements: what it does, that its error is told for its cause, whatever tables there are, and that the transaction
-- goes on
pub record RaisedBy {S : Type 0} (g : Ghosts S) (these : List (List ℕ × Row)) (does : State → State → Result ℕ Error → Type 0) (old new : MutBor (Held S))
    (result : Result ℕ Error) : Type 0 where
  pub raised : does (state g old.now) (state g new.now) result
  pub tried : HasCleanDisk (state g new.now) → TriesAnywhere these (state g old.now) (state g new.now) result
  pub step : IsOpenStep g old new result

abbrev pub RaisesWithin : {S : Type 0} → Ghosts S → List (List ℕ × Row) → (State → State → Result ℕ Error → Type 0) → MutBor (Held S) → MutBor (Held S) → Result ℕ Error → Type 0
RaisesWithin g these does old new result = WhereInside g old (RaisedBy g these does old new result)

-- whatever is answered: no transaction is under way, and a crash leaves what it could leave before, or this
pub record Ends (old new : State) (may : Trees → Type 0) : Type 0 where
  pub mode : new.in_transaction ≡ false
  pub survives : Survives old new may

-- ---- made

-- where there were none, the tables are there, empty but for the row of `meta`, and a crash leaves them alone
pub record IsMade (old new : State) : Type 0 where
  pub made : IfClean (Stands up_schema AreNew) new
  pub durable : IfClean (LeavesOnly (AreWith up_schema AreNew)) new
  pub empty : HasCleanDisk new → HasNoTables old
  pub «open» : HasCleanDisk new → IsTrue old.is_open

-- why they aren't made; what was committed is there still
pub record IsUnmade (old new : State) (fault : OpenFault) : Type 0 where
  pub known : fault ≢ NotOurs
  pub cause : HasCleanDisk new → fault ≡ Store → FailsToMake old new
  pub kept : IfClean (IsAsCommitted old) new

-- ---- taken

-- Whether `meta` names this product, as it does where tables list its rows. Then those rows are listed by the latest version; else what was
-- committed is there still.
pub record Takes (old new : State) (yes : Bool) : Type 0 where
  pub ours : IsTrue yes → HasCleanDisk new → NamesUs old
  pub others : yes ≡ false → HasCleanDisk new → NamesOthers old
  pub listed : HasCleanDisk new → (version : SchemaVersion) → ListsUs version old → IsTrue yes
  pub taken : IsTrue yes → HasCleanDisk new → (version : SchemaVersion) (rows : TableRows) → StandsAs version rows old → Stands up_schema (ListsTables rows) new
  pub ran : IsTrue yes → HasCleanDisk new → IsTaken old new
  pub kept : yes ≡ false → IfClean (IsAsCommitted old) new
  pub «open» : HasCleanDisk new → IsTrue old.is_open

-- why they aren't taken; what was committed is there still
pub record IsUntaken (old new : State) (fault : OpenFault) : Type 0 where
  pub known : fault ≢ NotOurs
  pub cause : HasCleanDisk new → fault ≡ Store → IsHindered old new ⊎ FailsToRaise old
  pub kept : IfClean (IsAsCommitted old) new

-- ---- raised

-- the rows of the older version are listed by the latest, and what its statements make of what was there is shown
pub record IsRaised (version : SchemaVersion) (old new : State) : Type 0 where
  pub raised : HasCleanDisk new → (rows : TableRows) → StandsAs version rows old → Stands up_schema (ListsTables rows) new
  pub ran : HasCleanDisk new → ShowsRaised version old.step_limit old.now new
  pub «open» : HasCleanDisk new → IsTrue old.is_open

-- why they aren't raised; what was committed is there still
pub record IsUnraised (version : SchemaVersion) (old new : State) (fault : OpenFault) : Type 0 where
  pub known : fault ≢ NotOurs
  pub cause : HasCleanDisk new → fault ≡ Store → HasFailed old new ⊎ StopsAtOne old.step_limit (raising version) old.now
  pub kept : IfClean (IsAsCommitted old) new
