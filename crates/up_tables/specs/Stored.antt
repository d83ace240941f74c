-- What a statement on one table leaves and tells within a transaction, all of it in one relation each.
use Rattle.std.specs.Prelude.{◌≡◌, ◌⊎◌, ℕ, List, [], ◌∷◌, Option, Result, Err, IfOk, IfErr, OnOk, IsTrue, map}
use Rattle.std.specs.List.{AllByRecursion}
use Rattle.std.specs.Option.{option_to_list}
use Rattle.std.specs.Borrow.{MutBor}
use Rattle.std.specs.Result.{IsOk, IsOkAnd}
use Rattle.sqlite_trees.specs.declared.store.Store.{Ghosts}
use Rattle.sqlite.specs.declared.error.Error.{Error}
use Rattle.sqlite.specs.Held.{Held, state}
use Rattle.sqlite.specs.Order.{Row}
use Rattle.sqlite.specs.State.{State, HasCleanDisk, Survives, ExecutesInside, Shown, FailsToQuery, IsTooLate}
use Rattle.sqlite.specs.Table.{Table}
use Rattle.up_tables.specs.declared.values.StoreFault.{StoreFault}
use Rattle.up_tables.specs.Faults.{store_fault}
use Rattle.up_tables.specs.Statements.{BlamesDisk, Finds, HoldsBy, IsOpenStep, OnlyReads, WhereInside}
use Rattle.up_tables.specs.Tried.{AnswersQuery, BlamesOne, BlamesRefusal, Ran, Undoes}

-- ---- what rows say

-- each row says the value at its place, and there are as many
abbrev pub EachSays : {T : Type 0} → (Row → T → Type 0) → List Row → List T → Type 0
EachSays says [] [] = Unit {0}
EachSays says [] (x ∷ xs) = ⊥
EachSays says (row ∷ rows) [] = ⊥
EachSays says (row ∷ rows) (x ∷ xs) = says row x × EachSays says rows xs

-- what is read of rows: they say it, and where they are the lines of another such value, it is that one
pub record IsTold {T : Type 0} (says : Row → T → Type 0) (fits : T → Type 0) (line : T → Row) (rows : List Row) (found : Option T) : Type 0 where
  pub said : EachSays says rows (option_to_list found)
  pub same : (other : Option T) → AllByRecursion fits (option_to_list other) → rows ≡ map line (option_to_list other) → found ≡ other

-- the row says the value, and where it is the line of a value that fits, it is that one
pub record Tells {T : Type 0} (says : Row → T → Type 0) (fits : T → Type 0) (line : T → Row) (row : Row) (x : T) : Type 0 where
  pub said : says row x
  pub same : (y : T) → fits y → row ≡ line y → x ≡ y

-- it is the line of a value that fits
abbrev pub IsLine : {T : Type 0} → (T → Type 0) → (T → Row) → Row → Type 0
IsLine {T} fits line row = (y : T) × fits y × (row ≡ line y)

-- the rows are the line of one value, or none
abbrev pub AreLines : {T : Type 0} → (T → Type 0) → (T → Row) → List Row → Type 0
AreLines {T} fits line rows = (one : Option T) × AllByRecursion fits (option_to_list one) × (rows ≡ map line (option_to_list one))

-- ---- any statement

-- the text was carried out with these values, and each error is told as its fault
pub record IsCarriedOut {S A : Type 0} (g : Ghosts S) (text : List ℕ) (values : Row) (old new : MutBor (Held S)) (result : Result A StoreFault) : Type 0 where
  pub same_reference : new.ghost_name ≡ old.ghost_name
  pub survives : Survives (state g old.now) (state g new.now) (λ _. ⊥)
  pub written : Result ℕ Error
  pub runs : HasCleanDisk (state g new.now) → IsTrue (state g old.now).in_transaction
      → ExecutesInside 0 text values (state g old.now) (state g new.now) written
  pub ok : OnOk result (IsOk written)
  pub went : OnOk written (IsOk result)
  pub fault : IfErr written (λ e. result ≡ Err (store_fault e))

-- it was asked with these values, and this is told of the rows that it shows; `Store` is told of rows that aren't so
pub record IsAsked {S A : Type 0} (g : Ghosts S) (text : List ℕ) (values : Row) (told : List Row → A → Type 0) (kinds : List Row → Type 0)
    (old new : MutBor (Held S)) (result : Result A StoreFault) : Type 0 where
  pub same_reference : new.ghost_name ≡ old.ghost_name
  pub survives : Survives (state g old.now) (state g new.now) (λ _. ⊥)
  pub answer : Result (List Row) Error
  pub ok : HasCleanDisk (state g new.now) → IfOk answer (λ rows. Shown text values (state g old.now) (state g new.now) rows)
  pub err : HasCleanDisk (state g new.now)
      → IfErr answer (λ e. FailsToQuery text values (state g old.now) (state g new.now) e ⊎ IsTooLate text values (state g old.now) (state g new.now) e)
  pub reads : IfOk result (λ found. IsOkAnd answer (λ rows. told rows found))
  pub fault : IfErr answer (λ e. result ≡ Err (store_fault e))
  pub damaged : IfOk answer (λ rows. IfErr result (λ fault. fault ≡ StoreFault.Store → ¬ kinds rows))

-- ---- writes

-- one row is written by this text: what is altered, when it tells `Store` and `Memory`, and that the transaction goes on
pub record Written {S A : Type 0} (g : Ghosts S) (text : List ℕ) (row : Row) (alters : State → State → Result A StoreFault → Type 0)
    (old new : MutBor (Held S)) (result : Result A StoreFault) : Type 0 where
  pub altered : alters (state g old.now) (state g new.now) result
  pub blame : BlamesRefusal text row (state g old.now) (state g new.now) result
  pub ran : Ran ((text, row) ∷ []) (state g old.now) (state g new.now) result
  pub memory : Undoes (state g new.now) result
  pub step : IsOpenStep g old new result

abbrev pub IsWritten : {S A : Type 0} → Ghosts S → List ℕ → Row → (State → State → Result A StoreFault → Type 0) → MutBor (Held S) → MutBor (Held S) → Result A StoreFault → Type 0
IsWritten g text row alters old new result = WhereInside g old (Written g text row alters old new result)

-- these statements are carried out, one after another: the same of all of them, over rows of which this holds
pub record AllWritten {S A : Type 0} (g : Ghosts S) (these : List (List ℕ × Row)) (may : State → Type 0) (alters : State → State → Result A StoreFault → Type 0)
    (old new : MutBor (Held S)) (result : Result A StoreFault) : Type 0 where
  pub altered : alters (state g old.now) (state g new.now) result
  pub blame : BlamesOne these may (state g old.now) (state g new.now) result
  pub ran : Ran these (state g old.now) (state g new.now) result
  pub memory : Undoes (state g new.now) result
  pub step : IsOpenStep g old new result

abbrev pub AreWritten : {S A : Type 0} → Ghosts S → List (List ℕ × Row) → (State → Type 0) → (State → State → Result A StoreFault → Type 0) → MutBor (Held S) → MutBor (Held S) → Result A StoreFault → Type 0
AreWritten g these may alters old new result = WhereInside g old (AllWritten g these may alters old new result)

-- ---- reads

-- by this text and these values: what is found, what is told of the rows that are shown, that nothing is written, when it tells `Store`, and
-- that the transaction goes on
pub record Queried {S A : Type 0} (g : Ghosts S) (text : List ℕ) (values : Row) (told : List Row → A → Type 0) (finds : State → State → Result A StoreFault → Type 0)
    (stands : State → Type 0) (old new : MutBor (Held S)) (result : Result A StoreFault) : Type 0 where
  pub found : finds (state g old.now) (state g new.now) result
  pub reads : OnlyReads (state g old.now) (state g new.now) result
  pub asks : AnswersQuery text values told (state g old.now) (state g new.now) result
  pub blame : BlamesDisk stands (state g old.now) (state g new.now) result
  pub step : IsOpenStep g old new result

abbrev pub IsQueried : {S A : Type 0} → Ghosts S → List ℕ → Row → (List Row → A → Type 0) → (State → State → Result A StoreFault → Type 0) → (State → Type 0) → MutBor (Held S) → MutBor (Held S) → Result A StoreFault → Type 0
IsQueried g text values told finds stands old new result = WhereInside g old (Queried g text values told finds stands old new result)

-- of the table's rows that stand under names, this part, of which the same is told
abbrev pub IsFound : {S A : Type 0} → Ghosts S → List ℕ → Row → Table → ℕ → ((List ℕ → List Row) → List Row) → (List Row → A → Type 0) → (List Row → Type 0)
    → MutBor (Held S) → MutBor (Held S) → Result A StoreFault → Type 0
IsFound g text values table at part told kinds =
    IsQueried g text values told (Finds table at (λ rows_of found. told (part rows_of) found)) (HoldsBy table at (λ rows_of. kinds (part rows_of)))
