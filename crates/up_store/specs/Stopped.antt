-- What is found after a crash and an open.
use Rattle.std.specs.Prelude.{IsTrue}
use Rattle.sqlite_disk.specs.declared.Disk.{Ghosts}
use Rattle.sqlite_wal.specs.Recovery.{Image}
use Rattle.sqlite_store.specs.declared.store.FileStore.{FileStore}
use Rattle.sqlite_store.specs.FileStore.{view}
use Rattle.sqlite_store.specs.FileStore as files
use Rattle.sqlite.specs.Files.{file_state, IsOpened}
use Rattle.sqlite.specs.Held.{Held}
use Rattle.sqlite.specs.Start.{FindsIn}
use Rattle.sqlite.specs.State.{State}
use Rattle.up_rows.specs.StateRows.{StateRows}
use Rattle.up_store.specs.Connections.{KeepsRows, HoldsRows}

-- an open found what a crash could leave; and the tables list the rows that this lists
pub record IsFound (old opened : State) : Type 0 where
  pub left : ∥ old.may_leave opened.committed.trees ∥₁
  pub shown : (rows : StateRows) → HoldsRows rows opened.committed.trees → KeepsRows rows opened

-- The program stops, and the files are opened again as a crash left them: what a crash could leave is found.
abbrev pub AreFoundAgain : {D : Type 0} {g : Ghosts D} → Held (FileStore D g) → FileStore D g → Type 0
AreFoundAgain {D} {g} store stopped = IsTrue (view stopped).is_clean → (left : Image) → (files.state stopped).may_leave left
    → (opened : Held (FileStore D g)) → IsOpened opened → FindsIn left (file_state opened) → IsFound (file_state store) (file_state opened)
