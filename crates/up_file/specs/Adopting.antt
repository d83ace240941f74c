-- A database that is taken.
use Rattle.std.specs.Prelude.{◌≡◌, ◌≢◌, ◌⊎◌, false, Result, Err, IfErr}
use Rattle.sqlite.specs.State.{State, HasCleanDisk, Survives}
use Rattle.sqlite.specs.Tree.{Trees}
use Rattle.up_rows.specs.StateRows.{StateRows, no_rows}
use Rattle.up_tables.specs.declared.open.OpenFault.{OpenFault}
use Rattle.up_tables.specs.declared.open.OpenFault.TheVariants.{NotOurs, Store}
use Rattle.up_tables.specs.declared.open.SchemaVersion.{SchemaVersion}
use Rattle.up_tables.specs.Making.{FailsToMake, FailsToRaise, IsTaken, RaisesTo}
use Rattle.up_tables.specs.Ours.{NamesOthers, IsHindered}
use Rattle.up_tables.specs.Stands.{IfClean, IsAsCommitted, HasNoTables, LeavesOnly}
use Rattle.up_store.specs.Connections.{HoldsRows, KeepsAs, KeepsRows, MadeIn, RaisedRows}

-- whatever rows its tables listed, by any version of the schema, the tables list them now, by the latest
abbrev pub KeepsOn : State → State → Type 0
KeepsOn old new = (version : SchemaVersion) (rows : StateRows) → IfClean (KeepsAs version rows) old → KeepsRows rows new

-- It named this product, was raised where its version was an older one, and shows the rows that it had; or it had no tables, of this product or
-- another, and now has those of this product, which show that nothing is founded, also after a crash.
abbrev pub IsAdopted : State → State → Type 0
IsAdopted old new = (IsTaken old new × KeepsOn old new)
    ⊎ (NamesOthers old × HasNoTables old × KeepsRows no_rows new × LeavesOnly (HoldsRows no_rows) new)

-- what a crash may leave of a database that is being taken: tables that were raised, or made where there were none
abbrev pub AdoptedIn : State → Trees → Type 0
AdoptedIn old trees = (RaisedRows old trees × RaisesTo old trees) ⊎ MadeIn old trees

-- why a database is not taken: what keeps it from being adopted, or, of one that doesn't name this product, from being made
abbrev pub FailsToTake : State → State → Type 0
FailsToTake old new = (IsHindered old new ⊎ FailsToRaise old) ⊎ (NamesOthers old × FailsToMake old new)

-- a database is adopted, or its tables are made; and what a crash may leave of it
pub record TakesDatabase (old new : State) : Type 0 where
  pub taken : HasCleanDisk new → IsAdopted old new
  pub crash : Survives old new (AdoptedIn old)

-- why neither is done, and that the connection is handed back as it was committed, with no transaction under way
pub record RefusesDatabase (old new : State) (fault : OpenFault) : Type 0 where
  pub known : fault ≢ NotOurs
  pub cause : fault ≡ Store → HasCleanDisk new → FailsToTake old new
  pub kept : IfClean (IsAsCommitted old) new
  pub mode : new.in_transaction ≡ false
  pub crash : Survives old new (AdoptedIn old)

-- what adopting told is answered, unless it is `NotOurs`; then what making told, of what was handed back
abbrev pub TakesOrMakes : {C S : Type 0} → (Result S (C × OpenFault) → Type 0)
    → (C → Result S (C × OpenFault) → Type 0) → Result S (C × OpenFault) → Type 0
TakesOrMakes {C} {S} Adopts Makes result =
    (Adopts result × IfErr result (λ e. e.1 ≢ NotOurs)) ⊎ ((mid : C) × Adopts (Err (mid, NotOurs)) × Makes mid result)
