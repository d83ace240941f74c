-- Why a database isn't opened, and by what that is told.
use Rattle.std.specs.Prelude.{◌≡◌, ⊤, ℤ, pos, List, [], ◌∷◌, codes, int_lt, IsTrue, Result, Ok, Err, IfOk}
use Rattle.sqlite.specs.Order.{Row, column}
use Rattle.sqlite.specs.State.{State, HasCleanDisk, Survives, Shown, CommitsShowing}
use Rattle.sqlite.specs.declared.error.Error.{Error}
use Rattle.sqlite.specs.declared.error.Error.TheVariants.{SqliteFailure}
use Rattle.sqlite.specs.declared.error.ErrorCode.TheVariants.{OutOfMemory, SystemIoFailure, DatabaseCorrupt, DiskFull, TooBig, Closed, OperationInterrupted}
use Rattle.sqlite.specs.declared.types.Value.TheVariants.{Int, Text}
use Rattle.up_program.specs.declared.unopened.Unopened.{Unopened}
use Rattle.up_program.specs.declared.unopened.Unopened.TheVariants.{Memory, Path, Locked, Journal, Damaged, OtherProduct, NewerSchema, OtherScheme}
use Rattle.up_tables.specs.declared.open.OpenFault.{OpenFault}
use Rattle.up_tables.specs.declared.open.OpenFault.TheVariants as fault
use Rattle.up_tables.specs.Ours.{find_meta_text}

-- it is told of the files themselves, not of the database that they hold
abbrev pub IsOfFiles : Unopened → Type 0
IsOfFiles Memory = ⊤
IsOfFiles Path = ⊤
IsOfFiles Locked = ⊤
IsOfFiles Journal = ⊤
IsOfFiles Damaged = ⊤
IsOfFiles OtherProduct = ⊥
IsOfFiles NewerSchema = ⊥
IsOfFiles OtherScheme = ⊥

-- what is told of an error where a connection is made: want of memory by itself, everything else alike
abbrev pub opening_cause : Error → Unopened
opening_cause (SqliteFailure OutOfMemory) = Memory
opening_cause _ = Damaged

-- of an error of the query on `meta`: a database that refuses it is another product's
abbrev pub query_cause : Error → Unopened
query_cause (SqliteFailure OutOfMemory) = Memory
query_cause (SqliteFailure SystemIoFailure) = Damaged
query_cause (SqliteFailure DatabaseCorrupt) = Damaged
query_cause (SqliteFailure DiskFull) = Damaged
query_cause (SqliteFailure TooBig) = Damaged
query_cause (SqliteFailure Closed) = Damaged
query_cause (SqliteFailure OperationInterrupted) = Damaged
query_cause _ = OtherProduct

-- the row names this product
abbrev pub NamesUs : Row → Type 0
NamesUs row = column row 0 ≡ Text (codes "uptane_desk")

-- the row names a schema above the latest that this program knows
abbrev pub NamesNewer : Row → Type 0
NamesNewer row = (number : ℤ) × (column row 1 ≡ Int number) × IsTrue (int_lt (pos 4) number)

-- what is told of the row of `meta`, in a database that isn't taken
abbrev pub RowTells : Row → Unopened → Type 0
RowTells row OtherProduct = ¬ NamesUs row
RowTells row NewerSchema = NamesUs row × NamesNewer row
RowTells row Damaged = NamesUs row × ¬ NamesNewer row
RowTells row _ = ⊥

-- the same of its rows: another number of them than one is another product's
abbrev pub RowsTell : List Row → Unopened → Type 0
RowsTell (row ∷ []) cause = RowTells row cause
RowsTell _ cause = cause ≡ OtherProduct

-- the rows of an answer
abbrev pub rows_in : {X : Type 0} → (X → List Row) → Result X Error → Result (List Row) Error
rows_in items (Ok answer) = Ok (items answer)
rows_in items (Err error) = Err error

-- and of the query's answer
abbrev pub QueryTells : Result (List Row) Error → Unopened → Type 0
QueryTells (Ok rows) cause = RowsTell rows cause
QueryTells (Err error) cause = cause ≡ query_cause error

-- `meta` was asked, which commits nothing but what such a query may, and the cause is told by what it answered
abbrev pub AsksMeta : State → State → Unopened → Type 0
AsksMeta old new cause =
    (found : Result (List Row) Error) × QueryTells found cause
    × (HasCleanDisk new → IfOk found (Shown find_meta_text [] old new)) × Survives old new (CommitsShowing find_meta_text [] old)

-- why a database isn't taken that came back with this fault
abbrev pub TellsCause : State → State → OpenFault → Unopened → Type 0
TellsCause old new fault.Memory cause = cause ≡ Memory
TellsCause old new fault.NotOurs cause = cause ≡ OtherScheme
TellsCause old new fault.Store cause = AsksMeta old new cause
