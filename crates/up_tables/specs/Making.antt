-- By which statements the tables are made, and those of an older version raised; what is then there; and why they are not.
use Rattle.std.specs.Prelude.{◌≡◌, ◌≢◌, ◌++◌, ◌⊎◌, ℕ, false, List, [], ◌∷◌, Option, Result, Ok, Err, codes, IsTrue}
use Rattle.sqlite.specs.declared.error.Error.{Error}
use Rattle.sqlite.specs.Effect.{Database}
use Rattle.sqlite.specs.Listing.{understood}
use Rattle.sqlite.specs.Order.{Row}
use Rattle.sqlite.specs.State.{State}
use Rattle.sqlite.specs.Tree.{Trees}
use Rattle.sqlite_resolve.specs.declared.compiled.Compiled.{Compiled}
use Rattle.sqlite_resolve.specs.declared.error.CompileError.{CompileError}
use Rattle.up_tables.specs.declared.open.OpenFault.TheVariants.{Store}
use Rattle.up_tables.specs.declared.open.SchemaVersion.{SchemaVersion}
use Rattle.up_tables.specs.declared.open.SchemaVersion.TheVariants.{One, Two, Three, Four}
use Rattle.up_tables.specs.Faults.{open_fault}
use Rattle.up_tables.specs.Ours.{HasFailed, IsOlder, NamesVersion}
use Rattle.up_tables.specs.Stands.{HasNoTables, IsAsCommitted, LeavesOnly}
use Rattle.up_tables.specs.Tables.{meta_text, role_key_text, repo_file_text, image_text, campaign_text, vehicle_text, ecu_text, kept_text, retired_text, image_sha512_text, image_repository_text, retired_vehicle_text}
use Rattle.up_tables.specs.Tried.{IsRefused, Makes, MakesOf, RefusesOne}

-- ---- the statements, in their order

-- a statement without values
abbrev pub alone : List ℕ → List (List ℕ × Row)
alone text = (text, []) ∷ []

abbrev pub repositories_making : List (List ℕ × Row)
repositories_making = (meta_text, []) ∷ (role_key_text, []) ∷ (repo_file_text, []) ∷ (image_text, []) ∷ []

abbrev pub inventory_making : List (List ℕ × Row)
inventory_making = (campaign_text, []) ∷ (vehicle_text, []) ∷ (ecu_text, []) ∷ (kept_text, []) ∷ []

abbrev pub later_making : List (List ℕ × Row)
later_making = (retired_text, []) ∷ (image_sha512_text, []) ∷ (image_repository_text, []) ∷ (retired_vehicle_text, []) ∷ []

abbrev pub tables_making : List (List ℕ × Row)
tables_making = repositories_making ++ (inventory_making ++ later_making)

abbrev pub name_text : List ℕ
name_text = codes "INSERT INTO meta (id, app, schema, root, image_version, stamp) VALUES (1, 'uptane_desk', 4, 0, 0, 0)"

abbrev pub first_numbers_text : List ℕ
first_numbers_text = codes "INSERT INTO image_repository (id, root, targets) VALUES (1, 0, 0)"

-- all tables, the row that says whose they are, and the image repository's numbers
abbrev pub making : List (List ℕ × Row)
making = tables_making ++ (alone name_text ++ alone first_numbers_text)

abbrev pub set_schema_text : List ℕ
set_schema_text = codes "UPDATE meta SET schema = 4 WHERE id = 1"

-- both repositories had one number of root versions, and Targets the version of the rest
abbrev pub same_numbers_text : List ℕ
same_numbers_text = codes "INSERT INTO image_repository (id, root, targets) SELECT id, root, image_version FROM meta"

-- secrets of earlier root versions sign nothing any more
abbrev pub drop_keys_text : List ℕ
drop_keys_text = codes "DELETE FROM role_key WHERE root < (SELECT root FROM meta)"

-- what version 4 has and version 3 hasn't, and the number
abbrev pub raising_third : List (List ℕ × Row)
raising_third =
    (image_repository_text, []) ∷ (retired_vehicle_text, []) ∷ (same_numbers_text, []) ∷ (drop_keys_text, []) ∷ (set_schema_text, []) ∷ []

-- of tables of this version, those of the latest
abbrev pub raising : SchemaVersion → List (List ℕ × Row)
raising One = (retired_text, []) ∷ (image_sha512_text, []) ∷ raising_third
raising Two = (image_sha512_text, []) ∷ raising_third
raising Three = raising_third
raising Four = []

-- ---- over any tables

-- The text is no statement over the database, as where a table that it makes is there already. Or it reads the time, which isn't given: no
-- database meets that behind the statement that makes the table, which has no default.
abbrev pub IsNotTaken : List ℕ → Database → Type 0
IsNotTaken text db = ((why : CompileError) × (understood db.schema text ≡ Err why)) ⊎ ((c : Compiled) × (understood db.schema text ≡ Ok c) × (c.formats ≢ []))

-- one of them is no statement, or is refused, behind those before it, which went through
abbrev pub StopsAtOne : Option ℕ → List (List ℕ × Row) → Database → Type 0
StopsAtOne limit [] db = ⊥
StopsAtOne limit (it ∷ more) db =
    (IsNotTaken it.0 db ⊎ IsRefused limit it.0 it.1 db) ⊎ ((mid : Database) × MakesOf limit it.0 it.1 db mid × StopsAtOne limit more mid)

-- ---- what is told of them

-- They all went through. Or the error isn't told as `Store`, or is only where the connection was shut, the disk counted a fault, or the database
-- stops at one of them.
abbrev pub TriesTill : (Option ℕ → List (List ℕ × Row) → Database → Type 0) → List (List ℕ × Row) → State → State → Result ℕ Error → Type 0
TriesTill Stops statements old new (Ok count) = Makes old.step_limit statements old.now new.now
TriesTill Stops statements old new (Err e) = open_fault e ≡ Store → HasFailed old new ⊎ Stops old.step_limit statements old.now

-- over tables that are known, the database refuses one of them behind those before it
abbrev pub Tries : List (List ℕ × Row) → State → State → Result ℕ Error → Type 0
Tries = TriesTill RefusesOne

-- over any tables, one of them may be no statement, too
abbrev pub TriesAnywhere : List (List ℕ × Row) → State → State → Result ℕ Error → Type 0
TriesAnywhere = TriesTill StopsAtOne

-- The connection was shut, or the disk counted a fault; what was committed has tables; or the database refuses one of the statements behind
-- those before it.
abbrev pub FailsToMake : State → State → Type 0
FailsToMake old new = HasFailed old new ⊎ ((¬ HasNoTables old) ⊎ RefusesOne old.step_limit making old.committed)

-- `meta` names an older version; and of the statements that raise its tables, whatever tables there are, one is none there, or is refused, behind
-- those before it
abbrev pub FailsToRaise : State → Type 0
FailsToRaise s = (version : SchemaVersion) × IsOlder version × NamesVersion version s × StopsAtOne s.step_limit (raising version) s.committed

-- ---- what is there when tables were raised

-- these statements make these trees of the database
abbrev pub MakesTrees : Option ℕ → List (List ℕ × Row) → Database → Trees → Type 0
MakesTrees limit statements db trees = (after : Database) × Makes limit statements db after × (trees ≡ after.trees)

-- The connection is open, and no transaction is under way. It shows what the statements that raise tables of this version make of the database,
-- whatever stands there; that was committed, and that alone a crash may leave.
pub record ShowsRaised (version : SchemaVersion) (limit : Option ℕ) (db : Database) (s : State) : Type 0 where
  pub mode : s.in_transaction ≡ false
  pub is_open : IsTrue s.is_open
  pub made : Makes limit (raising version) db s.now
  pub committed : s.committed ≡ s.now
  pub left : LeavesOnly (λ trees. trees ≡ s.now.trees) s

-- `meta` names the latest version, and what was committed is shown; or it names an older one, and what raises its tables makes of that is shown
abbrev pub IsTaken : State → State → Type 0
IsTaken old new = (NamesVersion Four old × IsAsCommitted old new)
    ⊎ ((version : SchemaVersion) × IsOlder version × NamesVersion version old × ShowsRaised version old.step_limit old.committed new)

-- ---- what a crash may leave where tables are raised

-- what the statements that raise tables of this version make of what is seen, whatever stands there
abbrev pub RaisesBy : SchemaVersion → State → Trees → Type 0
RaisesBy version s trees = IsTrue s.is_open × MakesTrees s.step_limit (raising version) s.now trees

-- `meta` names an older version, and the statements that raise its tables make these trees of what was committed, whatever stands there
abbrev pub RaisesTo : State → Trees → Type 0
RaisesTo s trees =
    (version : SchemaVersion) × IsOlder version × NamesVersion version s × MakesTrees s.step_limit (raising version) s.committed trees
