-- What making or taking a database leaves, and why it tells a fault, each in one relation.
use Rattle.std.specs.Prelude.{◌≡◌, ◌≢◌, ◌⊎◌, false, IsTrue}
use Rattle.sqlite.specs.State.{State as Connected, HasCleanDisk, Survives}
use Rattle.up_rows.specs.StateRows.{StateRows, no_rows}
use Rattle.up_tables.specs.declared.open.OpenFault.{OpenFault}
use Rattle.up_tables.specs.declared.open.OpenFault.TheVariants.{NotOurs, Store}
use Rattle.up_tables.specs.declared.open.SchemaVersion.{SchemaVersion}
use Rattle.up_tables.specs.Making.{FailsToMake, FailsToRaise, IsTaken, RaisesTo}
use Rattle.up_tables.specs.Ours.{IsHindered, NamesOthers, NamesUs}
use Rattle.up_tables.specs.Stands.{HasNoTables, IfClean, IsAsCommitted, LeavesOnly}
use Rattle.up_store.specs.Connections.{HoldsRows, KeepsAs, KeepsRows, MadeIn, RaisedRows}

-- in a database that had none there are tables that list no rows, and a crash leaves them alone
pub record Creates (old new : Connected) : Type 0 where
  pub made : IfClean (KeepsRows no_rows) new
  pub durable : IfClean (LeavesOnly (HoldsRows no_rows)) new
  pub empty : HasCleanDisk new → HasNoTables old
  pub «open» : HasCleanDisk new → IsTrue old.is_open
  pub crash : Survives old new (MadeIn old)

-- why none are made, `Store` where there are some, and that the connection is handed back as it was committed
pub record FailsToCreate (old new : Connected) (fault : OpenFault) : Type 0 where
  pub known : fault ≢ NotOurs
  pub cause : fault ≡ Store → HasCleanDisk new → FailsToMake old new
  pub full : IsTrue old.is_open → ¬ HasNoTables old → fault ≡ Store
  pub kept : IfClean (IsAsCommitted old) new
  pub mode : new.in_transaction ≡ false
  pub crash : Survives old new (MadeIn old)

-- a database of this product lists the rows that it listed, by the latest version, raised by its statements where it was of an older one
pub record Adopts (old new : Connected) : Type 0 where
  pub ours : HasCleanDisk new → NamesUs old
  pub taken : (version : SchemaVersion) (rows : StateRows) → IfClean (KeepsAs version rows) old → IfClean (KeepsRows rows) new
  pub ran : HasCleanDisk new → IsTaken old new
  pub «open» : HasCleanDisk new → IsTrue old.is_open
  pub crash : Survives old new (λ trees. RaisedRows old trees × RaisesTo old trees)

-- why it isn't taken, never as another's where it lists rows of this product, and that the connection is handed back as it was committed
pub record FailsToAdopt (old new : Connected) (fault : OpenFault) : Type 0 where
  pub others : fault ≡ NotOurs → HasCleanDisk new → NamesOthers old
  pub never : HasCleanDisk new → (version : SchemaVersion) (rows : StateRows) → IfClean (KeepsAs version rows) old → fault ≢ NotOurs
  pub cause : fault ≡ Store → HasCleanDisk new → IsHindered old new ⊎ FailsToRaise old
  pub kept : IfClean (IsAsCommitted old) new
  pub mode : new.in_transaction ≡ false
  pub crash : Survives old new (λ trees. RaisedRows old trees × RaisesTo old trees)
