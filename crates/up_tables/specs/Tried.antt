-- What statements make of a database, one after another, that the database refuses one of them, and what a query of it answers. All of it is
-- said of what a connection sees, and of the limit on the steps of a query that is set there.
use Rattle.std.specs.Prelude.{◌≡◌, ◌≤◌, ◌⊎◌, ℕ, false, List, [], ◌∷◌, length, Option, Result, Ok, Err, IfOk, IfErr, OnOk, IsTrue}
use Rattle.sqlite_disk.specs.Disk.{MoreFaults}
use Rattle.sqlite.specs.declared.error.Error.{Error}
use Rattle.sqlite.specs.Clock.{timed}
use Rattle.sqlite.specs.Does.{Does, Tally}
use Rattle.sqlite.specs.Effect.{Database}
use Rattle.sqlite.specs.Listing.{understood}
use Rattle.sqlite.specs.Order.{Row}
use Rattle.sqlite.specs.State.{State, HasCleanDisk, Shown, text_of}
use Rattle.sqlite.specs.declared.run.Mode.{Mode}
use Rattle.sqlite_resolve.specs.declared.compiled.Compiled.{Compiled}
use Rattle.sqlite_schema.specs.declared.schema.Keys.TheVariants.{Enforced}
use Rattle.up_tables.specs.Stands.{HasTables}
use Rattle.up_tables.specs.declared.values.StoreFault.{StoreFault}
use Rattle.up_tables.specs.declared.values.StoreFault.TheVariants.{Memory, Store}

-- ---- one statement

-- foreign keys hold behind each statement
abbrev pub our_mode : Mode
our_mode = record { keys = Enforced; in_doubt = false; may_wait = false }

-- the text is a statement over the database, and has as many parameters as are given
pub record IsGiven (db : Database) (text : List ℕ) (values : Row) (c : Compiled) : Type 0 where
  pub is : understood db.schema text ≡ Ok c
  pub whole : length text ≤ c.tail
  pub given : length values ≡ length c.names
  -- the time that the clock gave, in milliseconds since 1970, if the statement reads it
  pub now : ℕ

-- what it comes to: a count with the next database, an error with which it is refused, or no error where its row can't be stored
abbrev pub ComesTo : Option ℕ → Database → List ℕ → Row → Result (Tally × Database) (Option Error) → Type 0
ComesTo limit db text values out =
    (c : Compiled) × (it : IsGiven db text values c)
    × Does limit our_mode (timed values c.formats it.now) db (text_of text c) c.returning c.command out

-- it goes through, and makes this of the database
abbrev pub MakesOf : Option ℕ → List ℕ → Row → Database → Database → Type 0
MakesOf limit text values db after = (tally : Tally) × ComesTo limit db text values (Ok (tally, after))

-- it is refused
abbrev pub IsRefused : Option ℕ → List ℕ → Row → Database → Type 0
IsRefused limit text values db = (e : Option Error) × ComesTo limit db text values (Err e)

-- ---- statements in their order, each a text with its values

-- they go through, one after another, and make this of the database
abbrev pub Makes : Option ℕ → List (List ℕ × Row) → Database → Database → Type 0
Makes limit [] db after = after ≡ db
Makes limit (it ∷ more) db after = (mid : Database) × MakesOf limit it.0 it.1 db mid × Makes limit more mid after

-- one of them is refused, behind those before it, which went through
abbrev pub RefusesOne : Option ℕ → List (List ℕ × Row) → Database → Type 0
RefusesOne limit [] db = ⊥
RefusesOne limit (it ∷ more) db = IsRefused limit it.0 it.1 db ⊎ ((mid : Database) × MakesOf limit it.0 it.1 db mid × RefusesOne limit more mid)

-- ---- steps within a transaction

-- over an open connection with the whole schema, `Store` is told only where the disk counted a fault, or the database refuses the statement
abbrev pub BlamesRefusal : {A : Type 0} → List ℕ → Row → State → State → Result A StoreFault → Type 0
BlamesRefusal text values old new result =
    HasCleanDisk new → IfErr result (λ fault. fault ≡ Store → IsTrue old.is_open → HasTables old
    → MoreFaults old.faults new.faults ⊎ IsRefused old.step_limit text values old.now)

-- what went through are these statements, over an open connection, whatever stands in the database; and where the whole schema was there, it is
-- there still
abbrev pub Ran : {A E : Type 0} → List (List ℕ × Row) → State → State → Result A E → Type 0
Ran these old new result =
    HasCleanDisk new → OnOk result (IsTrue old.is_open × Makes old.step_limit these old.now new.now × (HasTables old → HasTables new))

-- over an open connection with the whole schema, where P holds of it, `Store` is told only where the disk counted a fault, or the database
-- refuses one of these statements
abbrev pub BlamesOne : {A : Type 0} → List (List ℕ × Row) → (State → Type 0) → State → State → Result A StoreFault → Type 0
BlamesOne these P old new result =
    HasCleanDisk new → IfErr result (λ fault. fault ≡ Store → IsTrue old.is_open → HasTables old → P old
    → MoreFaults old.faults new.faults ⊎ RefusesOne old.step_limit these old.now)

-- want of memory is told only where the transaction was undone
abbrev pub Undoes : {A : Type 0} → State → Result A StoreFault → Type 0
Undoes new result = HasCleanDisk new → IfErr result (λ fault. fault ≡ Memory → new.in_transaction ≡ false)

-- ---- queries within a transaction

-- whatever stands in the database, what is found is told by the rows that it shows for the query of this text, or hands back for the write
abbrev pub AnswersQuery : {A E : Type 0} → List ℕ → Row → (List Row → A → Type 0) → State → State → Result A E → Type 0
AnswersQuery text values told old new result =
    HasCleanDisk new → IfOk result (λ found. (rows : List Row) × Shown text values old new rows × told rows found)
