-- A statement that writes is carried out in a transaction.
use Rattle.std.proofs.Common.{◌≡◌, ◌≢◌, ◌==◌, ℕ, List, [], Bool, true, false, length, Ok, Err, Result, OnOk, IsTrue, refl, arith}
use Rattle.std.specs.List.{AllByRecursion}
use Rattle.std.specs.Result.{IsErrAnd}
use Rattle.sqlite.specs.declared.error.Error.{Error}
use Rattle.sqlite.specs.Order.{Row}
use Rattle.sqlite.specs.Effect.{IsDatabase}
use Rattle.sqlite.specs.State.{State, HasCleanDisk, Survives, Executes, ExecutesInside}
use Rattle.sqlite.specs.Table.{Table}
use Rattle.sqlite_rules.specs.Action.{works}
use Rattle.sqlite_schema.specs.declared.schema.Keys.TheVariants.{Enforced}
use Rattle.up_tables.specs.Tables.{up_schema}
use Rattle.up_tables.specs.Stands.{IfClean, IsInside, Alters}
use Rattle.up_tables.proofs.OthersLemmas.{others_stay}

-- it went, over an open connection that is open still, and the transaction goes on
pub record IsRun (sql : List ℕ) (params : Row) (old new : State) : Type 0 where
  pub count : ℕ
  pub went : Executes sql params old new (Ok count)
  pub was_open : IsTrue old.is_open
  pub is_open : IsTrue new.is_open
  pub mode : IsTrue new.in_transaction

pub run_in : (sql : List ℕ) (params : Row) (old new : State) (r : Result ℕ Error) → Survives old new (λ _. ⊥) → IfClean IsInside old → (HasCleanDisk new → IsTrue old.in_transaction → ExecutesInside 0 sql params old new r)
    → HasCleanDisk new → OnOk r (IsRun sql params old new)
run_in sql params old new (Err e) survives inside ran clean = tt
run_in sql params old new (Ok count) survives inside ran clean =
    let before : HasCleanDisk old = omega (arith, survives.clean) in
    let h = ran clean (inside before) in
    record { count = count; went = h.0; was_open = h.1.was_open; is_open = h.1.is_open; mode = h.1.mode }

pub then_ok : {A E : Type 0} {P Q : Type 0} (r : Result A E) → (P → Q) → OnOk r P → OnOk r Q
then_ok (Ok x) f h = f h
then_ok (Err e) f h = tt

pub not_ok : {A E : Type 0} (P : Type 0) (Q : E → Type 0) (r : Result A E) → IsErrAnd r Q → OnOk r P
not_ok P Q (Ok x) fails = absurd fails
not_ok P Q (Err e) fails = tt

-- so one table of the whole schema is altered, of whose rows P holds then
pub run_alters : (sql : List ℕ) (params : Row) (table : Table) (P : List Row → Type 0) (old new : State) → IsRun sql params old new → new.now.schema ≡ up_schema → IsDatabase new.now → P (new.now.trees table.tree)
    → AllByRecursion (λ t. t.tree ≢ table.tree → new.now.trees t.tree ≡ old.now.trees t.tree) up_schema.tables → Alters table P old new
run_alters sql params table P old new run schema_is sound rows others = record {
  was_open = run.was_open;
  is_open = run.is_open;
  mode = run.mode;
  schema_is = schema_is;
  sound = sound;
  rows = rows;
  others = others_stay table old.now.trees new.now.trees others;
}

-- no reference of the whole schema acts on another table
pub idle : (tree : ℕ) (olds news : List Row) → works up_schema Enforced 0 tree olds news ≡ []
idle tree olds news = go (length news == 0) refl
  where
    go : (b : Bool) → (length news == 0) ≡ b → works up_schema Enforced 0 tree olds news ≡ []
    go true e = rw e refl
    go false e = rw e refl
