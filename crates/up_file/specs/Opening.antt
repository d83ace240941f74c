-- What is asked for where a file is opened, and what is told of that.
use Rattle.std.specs.Prelude.{◌≡◌, ◌⊎◌, ◌++◌, ℕ, List, codes, true, false, Result, None, Ok, Err}
use Rattle.std.specs.IoError.{error_kind}
use Rattle.std.specs.declared.io.ErrorKind.{ErrorKind}
use Rattle.sqlite_disk.specs.declared.Disk.{Ghosts}
use Rattle.sqlite_disk.specs.declared.Files.{Files}
use Rattle.sqlite_disk.specs.declared.calls.Calls as calls
use Rattle.sqlite_disk.specs.declared.modelled.Modelled.{Modelled}
use Rattle.sqlite_disk.specs.declared.start.Start as starts
use Rattle.sqlite_std_file.specs.declared.host.Host.{Host}
use Rattle.sqlite_std_file.specs.declared.pair.OpenError.{OpenError}
use Rattle.sqlite_std_file.specs.declared.pair.OpenError.TheVariants as refused
use Rattle.sqlite_std_file.specs.File.{IsFresh}
use Rattle.sqlite.specs.Files.{file_state, FailsToOpenFiles, IsBlankAs, IsCleanLeft, IsOpened, LeavesFiles}
use Rattle.sqlite.specs.Held.{Held}
use Rattle.sqlite.specs.Start.{FindsIn}
use Rattle.sqlite.specs.State.{HasCleanDisk}
use Rattle.sqlite.specs.WalFiles.{image_at}
use Rattle.sqlite.specs.declared.error.Error.{Error}
use Rattle.sqlite.specs.declared.file.Leftover.{Leftover}
use Rattle.sqlite_store.specs.declared.store.FileStore.{FileStore}
use Rattle.sqlite_store.specs.FileStore.{view}
use Rattle.up_program.specs.declared.unopened.Unopened.{Unopened}
use Rattle.up_program.specs.declared.unopened.Unopened.TheVariants.{Memory, Path, Locked, Journal}
use Rattle.up_file.specs.Causes.{IsOfFiles, opening_cause}
use Rattle.up_file.specs.NewFiles.{kind_cause, made_cause}

-- a database in memory, or a URI
abbrev pub NamesNoFile : List ℕ → Type 0
NamesNoFile path = (path ≡ codes ":memory:") ⊎ ((rest : List ℕ) × (path ≡ codes "file:" ++ rest))

-- what is told where files were opened, or were not
abbrev pub opened_cause : {F : Type 0} → Result F OpenError → Result F Unopened
opened_cause (Ok files) = Ok files
opened_cause (Err refused.OutOfMemory) = Err Memory
opened_cause (Err (refused.Io error)) = Err (kind_cause (error_kind error))
opened_cause (Err refused.Busy) = Err Locked
opened_cause (Err refused.HotJournal) = Err Journal

-- the files are opened, and what is told of that is answered
abbrev pub OpensThem : {F : Type 0} → (Result F OpenError → Type 0) → Result F Unopened → Type 0
OpensThem {F} Opens result = (opened : Result F OpenError) × Opens opened × (result ≡ opened_cause opened)

-- why no file was made is told, and nothing is opened
abbrev pub TellsMade : {F : Type 0} → Result (Unit {0}) ErrorKind → Type 0 → Result F Unopened → Type 0
TellsMade made Untouched result = (cause : Unopened) × (made_cause made ≡ Err cause) × Untouched × (result ≡ Err cause)

-- a path that names no file is refused, and nothing is asked; for any other a file is made, and opened where that told no fault
abbrev pub OpensNamed : {F : Type 0} → List ℕ → (Result (Unit {0}) ErrorKind → Type 0) → Type 0 → (Result F OpenError → Type 0) → Type 0
    → Result F Unopened → Type 0
OpensNamed path Makes Unmade Opens Untouched result =
    (NamesNoFile path × Unmade × Untouched × (result ≡ Err Path))
    ⊎ ((NamesNoFile path → ⊥) × (made : Result (Unit {0}) ErrorKind) × Makes made
    × (((made_cause made ≡ Ok tt) × OpensThem Opens result) ⊎ TellsMade made Untouched result))

module _ {S : Type 0} {c : calls.Ghosts Host} {start : starts.Ghosts S} where
  -- the log and the database file, with nothing done to them since they were opened
  abbrev pub AreFresh : Files (Modelled Host S c start) → Type 0
  AreFresh files = IsFresh true files.log × IsFresh false files.db

  -- A connection over files that hold what was found at the start: it is open, finds that, and may go on without a limit. Where they held nothing,
  -- each page of what was made has a sum.
  pub record Connects {g : Ghosts (Modelled Host S c start)} (conn : Held (FileStore (Modelled Host S c start) g)) : Type 0 where
    pub opened : HasCleanDisk (file_state conn) → IsOpened conn
    pub found : HasCleanDisk (file_state conn) → FindsIn (image_at start) (file_state conn)
    pub sums : HasCleanDisk (file_state conn) → IsBlankAs true (image_at start) → (view conn.store).has_sums ≡ true
    pub mode : (file_state conn).in_transaction ≡ false
    pub unlimited : (file_state conn).step_limit ≡ None
    pub shielded : HasCleanDisk (file_state conn) → (file_state conn).IsShielded

  -- Why no connection stands over files, with what is left of them: it is told of the files, never of what they hold. Where their disk is clean, the
  -- cause stands for want of memory, or for an error for which they gave cause; and they hold what they held: a crash leaves of them what it could
  -- leave before, or the same database; of files that had none yet, and nothing else, perhaps an empty one.
  pub record RefusesFiles {g : Ghosts (Modelled Host S c start)} (files : Files (Modelled Host S c start))
      (refused : Unopened × Leftover (Modelled Host S c start) g) : Type 0 where
    pub known : IsOfFiles refused.0
    pub error : Error
    pub told : refused.0 ≡ opening_cause error
    pub cause : IsCleanLeft refused.1 → FailsToOpenFiles files refused.1 error
    pub unharmed : IsCleanLeft refused.1 → LeavesFiles files refused.1
