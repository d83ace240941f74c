-- What records stand on: the connection to the tables, and what is kept of them in memory. They show a state where the tables show it, and
-- what is kept is of that state. New records keep nothing, so they show what the tables show.
use Rattle.std.specs.Prelude.{Option, None, IfSome}
use Rattle.sqlite.specs.Held.{Held}
use Rattle.sqlite.specs.Held as holding
use Rattle.sqlite.specs.State.{State as Connected}
use Rattle.sqlite.specs.State as connected
use Rattle.sqlite.specs.Tree.{Trees}
use Rattle.sqlite_trees.specs.declared.store.Store.{Ghosts}
use Rattle.up_sign.specs.Schemes.{Rules}
use Rattle.up_machine.specs.State.{State}
use Rattle.up_rows.specs.StateRows.{rows_of_state}
use Rattle.up_tables.specs.Stands as stands
use Rattle.up_store.specs.Connections.{HoldsRows}
use Rattle.up_store.specs.Connections as connections
use Rattle.up_records.specs.Catalogs.{CanDecide, Fits}
use Rattle.up_records.specs.declared.catalog.Catalog.{Catalog}

-- a connection, and what is kept of its tables
pub record Stored (D : Type 0) : Type 0 where
  pub held : Held D
  pub catalog : Option Catalog

pub record Standing : Type 1 where
  pub connection : Connected
  pub catalog : Option Catalog

abbrev pub state : {D : Type 0} → Ghosts D → Stored D → Standing
state g r = record { connection = holding.state g r.held; catalog = r.catalog }

-- the same, of a connection and what is kept of its tables
abbrev pub over : {D : Type 0} → Ghosts D → Held D → Option Catalog → Standing
over g held catalog = record { connection = holding.state g held; catalog = catalog }

-- records that keep nothing
abbrev pub bare : {D : Type 0} → Held D → Stored D
bare h = record { held = h; catalog = None }

abbrev pub HasCleanDisk : Standing → Type 0
HasCleanDisk d = connected.HasCleanDisk d.connection

abbrev pub IfClean : (Standing → Type 0) → Standing → Type 0
IfClean P d = HasCleanDisk d → P d

-- the tables show the state, and what is kept in memory is of it
pub record ShowsState (s : State) (d : Standing) : Type 0 where
  pub tables : connections.KeepsState s d.connection
  pub memory : Fits s d.catalog

-- what is kept, if anything, can be used under these rules
abbrev pub CanUse : Rules → Standing → Type 0
CanUse k d = IfSome d.catalog (CanDecide k)

-- what a crash may leave shows the state
abbrev pub HoldsState : State → Trees → Type 0
HoldsState s = HoldsRows (rows_of_state s)

abbrev pub Survives : Standing → Standing → (Trees → Type 0) → Type 0
Survives old new P = connected.Survives old.connection new.connection P

abbrev pub LeavesOnly : (Trees → Type 0) → Standing → Type 0
LeavesOnly P d = stands.LeavesOnly P d.connection
