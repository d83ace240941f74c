-- Why a close fails, and what is told of it.
use Rattle.std.specs.Prelude.{◌≡◌, Result, Ok, Err}
use Rattle.sqlite_disk.specs.declared.Disk.{Ghosts}
use Rattle.sqlite_disk.specs.declared.Files.{Files}
use Rattle.sqlite_store.specs.declared.store.FileStore.{FileStore}
use Rattle.sqlite_store.specs.FileStore.{files as store_files}
use Rattle.sqlite.specs.State.{HasCleanDisk}
use Rattle.sqlite.specs.Held.{Held}
use Rattle.sqlite.specs.Files.{file_state, IsClosed, FailsToClose}
use Rattle.sqlite.specs.declared.error.Error.{Error}
use Rattle.up_tables.specs.declared.values.StoreFault.{StoreFault}
use Rattle.up_tables.specs.Faults.{store_fault}

-- the files are those of a store of which a crash leaves nothing new; where its disk is clean, the fault stands for an error that the close met there
abbrev pub FailsClosing : {D : Type 0} {g : Ghosts D} → Held (FileStore D g) → StoreFault × Files D → Type 0
FailsClosing {D} {g} c left =
    (last : FileStore D g) × (e : Error) × (left.0 ≡ store_fault e) × (store_files last ≡ (left.1.log, left.1.db)) × IsClosed c last
    × (HasCleanDisk (file_state (record c { store = last })) → FailsToClose c last e)

-- the log and the database file of a store
abbrev pub files_in : {D : Type 0} {g : Ghosts D} → FileStore D g → Files D
files_in it = record { log = (store_files it).0; db = (store_files it).1 }

-- what is told of a close: the files that it gave back, or its error and the files of the store that it left
abbrev pub closed_fault : {D : Type 0} {g : Ghosts D} → Result (Files D) (Error × FileStore D g) → Result (Files D) (StoreFault × Files D)
closed_fault (Ok files) = Ok files
closed_fault (Err left) = Err (store_fault left.0, files_in left.1)
