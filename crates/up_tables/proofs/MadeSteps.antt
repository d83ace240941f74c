-- Steps that make the tables or raise them, one after another.
use Rattle.std.proofs.Common.{◌≡◌, ◌∙◌, ◌++◌, ℕ, List, [], Ok, Err, Result, OnOk, IsTrue}
use Rattle.std.specs.Prelude.{⊤}
use Rattle.std.specs.Borrow.{MutBor}
use Rattle.std.specs.Result.{IsErrAnd}
use Rattle.sqlite_trees.specs.declared.store.Store.{Ghosts}
use Rattle.sqlite.specs.declared.error.Error.{Error}
use Rattle.sqlite.specs.Change.{created}
use Rattle.sqlite.specs.Held.{Held, state}
use Rattle.sqlite.specs.Listing.{understood}
use Rattle.sqlite.specs.Order.{Row}
use Rattle.sqlite.specs.Schema.{Schema}
use Rattle.sqlite.specs.State.{State, HasCleanDisk, Survives, ExecutesInside}
use Rattle.sqlite.specs.Table.{Table}
use Rattle.sqlite.specs.Tree.{Trees}
use Rattle.up_tables.specs.Making.{alone}
use Rattle.up_tables.specs.Opened.{AddsTable, MadeBy, MakesBy, RaisedBy, RaisesWithin}
use Rattle.up_tables.specs.Stands.{AreEmpty, GoesOn, IfClean, IsInside, IsWithin}
use Rattle.up_tables.specs.Statements.{IsOpenStep}
use Rattle.up_tables.proofs.AnywhereLemmas.{IsAlone, anywhere_on, anywhere_to, tries_anywhere}
use Rattle.up_tables.proofs.CallLemmas.{clean_before}
use Rattle.up_tables.proofs.CreateLemmas.{Creates, makes_empty, makes_in, still_empty}
use Rattle.up_tables.proofs.MakingLemmas.{IsMaking, any_rows, came_on, came_to, tries_in, tries_within}
use Rattle.up_tables.proofs.RunLemmas.{then_ok}
use Rattle.up_tables.proofs.StateLemmas.{inside_after, open_after}
use Rattle.up_tables.proofs.StepLemmas.{executes, steps_then}

-- ---- one statement

module _ {S : Type 0} (g : Ghosts S) (text : List ℕ) (old new : MutBor (Held S)) (r : Result ℕ Error) (same : new.ghost_name ≡ old.ghost_name) (survives : Survives (state g old.now) (state g new.now) (λ _. ⊥))
    (runs : HasCleanDisk (state g new.now) → IsTrue (state g old.now).in_transaction → ExecutesInside 0 text [] (state g old.now) (state g new.now) r) where
  open_step : IfClean IsInside (state g old.now) → IsOpenStep g old new r
  open_step inside = record {
    same_reference = same;
    steps = executes text [] _ _ r inside survives runs;
    inside = inside_after text [] _ _ r survives inside runs;
    is_open = open_after text [] _ _ r survives inside runs;
  }

  pub makes_table : (schema : Schema) (table : Table) → Creates schema text table → IsMaking schema text → MakesBy g (alone text) schema (GoesOn (created schema table) (AreEmpty (created schema table))) old new r
  makes_table schema table creates making was = record {
    made = makes_empty schema text table creates _ _ r was survives runs;
    tried = tries_within schema text making _ _ (AreEmpty schema) r was survives runs;
    step = record { same_reference = same; steps = executes text [] _ _ r (λ clean. (was clean).mode) survives runs };
  }

  pub adds_table : (schema : Schema) (table : Table) → Creates schema text table → IsMaking schema text → ((schema : Schema) → IsAlone text (understood schema text)) → AddsTable g schema table text old new r
  adds_table schema table creates making anywhere inside = record {
    made = makes_in schema text table creates _ _ r inside survives runs;
    tried = tries_in schema text making _ _ r inside survives runs;
    anywhere = tries_anywhere text anywhere _ _ r inside survives runs;
    step = open_step inside;
  }

  pub raises_alone : (does : State → State → Result ℕ Error → Type 0) → ((schema : Schema) → IsAlone text (understood schema text)) → (IfClean IsInside (state g old.now) → does (state g old.now) (state g new.now) r)
      → RaisesWithin g (alone text) does old new r
  raises_alone does anywhere raised inside = record { raised = raised inside; tried = tries_anywhere text anywhere _ _ r inside survives runs; step = open_step inside }

-- ---- several

module _ {S : Type 0} (g : Ghosts S) (a b : List (List ℕ × Row)) where
  -- a step that went through, and the next, over what the first left
  pub makes_on : (P : Trees → Type 0) (from to : Schema) (makes : State → Type 0) (old mid new : MutBor (Held S)) (n : ℕ) (r : Result ℕ Error) → MakesBy g a from (GoesOn to P) old mid (Ok n)
      → (IfClean (IsWithin to P) (state g mid.now) → MadeBy g b makes mid new r) → MakesBy g (a ++ b) from makes old new r
  makes_on P from to makes old mid new n r first next was =
      let one = first was in
      let two = next (λ clean. let it = one.made clean in record { mode = it.mode; here = λ _. it.here }) in
      record {
        made = two.made;
        tried = (came_on a b (state g old.now) (state g mid.now) (state g new.now) n r (record { survives = one.step.steps.survives; tried = one.tried }) (record { survives = two.step.steps.survives; tried = two.tried })).tried;
        step = record { same_reference = two.step.same_reference ∙ one.step.same_reference; steps = steps_then _ _ _ one.step.steps two.step.steps };
      }

  -- the same where all tables are empty
  pub makes_then : (from to : Schema) (makes : State → Type 0) (old mid new : MutBor (Held S)) (n : ℕ) (r : Result ℕ Error) → MakesBy g a from (GoesOn to (AreEmpty to)) old mid (Ok n) → MakesBy g b to makes mid new r
      → MakesBy g (a ++ b) from makes old new r
  makes_then from to = makes_on (AreEmpty to) from to

  -- a step that failed, where there was more to be done
  pub makes_first : (from : Schema) (makes makes' : State → Type 0) (old new : MutBor (Held S)) (e : Error) (r : Result ℕ Error) → IsErrAnd r (λ f. f ≡ e) → MakesBy g a from makes' old new (Err e) → MakesBy g (a ++ b) from makes old new r
  makes_first from makes makes' old new e (Ok n) is first was = absurd is
  makes_first from makes makes' old new e (Err f) is first was =
      let one = first was in
      record { made = tt; tried = came_to a b _ _ e (Err f) is (record { survives = one.step.steps.survives; tried = one.tried }); step = one.step }

  -- the same of a raise
  pub raises_then : (P Q R : State → State → Result ℕ Error → Type 0) (old mid new : MutBor (Held S)) (n : ℕ) (r : Result ℕ Error) → RaisedBy g a P old mid (Ok n) → RaisedBy g b Q mid new r → R (state g old.now) (state g new.now) r
      → RaisedBy g (a ++ b) R old new r
  raises_then P Q R old mid new n r one two raised = record {
    raised = raised;
    tried = anywhere_on a b _ _ _ n r one.step.steps.survives two.step.steps.survives one.tried two.tried;
    step = record { same_reference = two.step.same_reference ∙ one.step.same_reference; steps = steps_then _ _ _ one.step.steps two.step.steps; inside = two.step.inside; is_open = two.step.is_open };
  }

  pub raises_first : (P R : State → State → Result ℕ Error → Type 0) (old new : MutBor (Held S)) (e : Error) (r : Result ℕ Error) → IsErrAnd r (λ f. f ≡ e) → RaisedBy g a P old new (Err e) → ((f : Error) → R (state g old.now) (state g new.now) (Err f))
      → RaisedBy g (a ++ b) R old new r
  raises_first P R old new e (Ok n) is one raised = absurd is
  raises_first P R old new e (Err f) is one raised = record {
    raised = raised f;
    tried = λ clean. anywhere_to a b (state g old.now) (state g new.now) e (Err f) is (one.tried clean);
    step = record { same_reference = one.step.same_reference; steps = one.step.steps; inside = tt; is_open = tt };
  }

-- less may be said of what it did
pub raises_as : {S : Type 0} (g : Ghosts S) (these : List (List ℕ × Row)) (P Q : State → State → Result ℕ Error → Type 0) (old new : MutBor (Held S)) (r : Result ℕ Error) → (P (state g old.now) (state g new.now) r → Q (state g old.now) (state g new.now) r)
    → RaisedBy g these P old new r → RaisedBy g these Q old new r
raises_as g these P Q old new r says it = record { raised = says it.raised; tried = it.tried; step = it.step }

-- a statement that makes a table, and the next step, or one that failed
module _ {S : Type 0} (g : Ghosts S) (text : List ℕ) (rest : List (List ℕ × Row)) (from : Schema) (table : Table) (creates : Creates from text table) (making : IsMaking from text) where
  pub table_then : (makes : State → Type 0) (old mid new : MutBor (Held S)) (n : ℕ) (r : Result ℕ Error) → mid.ghost_name ≡ old.ghost_name → Survives (state g old.now) (state g mid.now) (λ _. ⊥)
      → (HasCleanDisk (state g mid.now) → IsTrue (state g old.now).in_transaction → ExecutesInside 0 text [] (state g old.now) (state g mid.now) (Ok n)) → MakesBy g rest (created from table) makes mid new r
      → MakesBy g (alone text ++ rest) from makes old new r
  table_then makes old mid new n r same survives runs = makes_then g (alone text) rest from (created from table) makes old mid new n r (makes_table g text old mid (Ok n) same survives runs from table creates making)

  pub table_first : (makes : State → Type 0) (old new : MutBor (Held S)) (e : Error) (r : Result ℕ Error) → IsErrAnd r (λ f. f ≡ e) → new.ghost_name ≡ old.ghost_name → Survives (state g old.now) (state g new.now) (λ _. ⊥)
      → (HasCleanDisk (state g new.now) → IsTrue (state g old.now).in_transaction → ExecutesInside 0 text [] (state g old.now) (state g new.now) (Err e)) → MakesBy g (alone text ++ rest) from makes old new r
  table_first makes old new e r is same survives runs = makes_first g (alone text) rest from makes (GoesOn (created from table) (AreEmpty (created from table))) old new e r is (makes_table g text old new (Err e) same survives runs from table creates making)

-- where all tables are empty, so is the one that is added
pub adds_empty : {S : Type 0} (g : Ghosts S) (schema : Schema) (table : Table) (text : List ℕ) (creates : Creates schema text table) (old new : MutBor (Held S)) (r : Result ℕ Error) → AddsTable g schema table text old new r
    → MakesBy g (alone text) schema (GoesOn (created schema table) (AreEmpty (created schema table))) old new r
adds_empty {S} g schema table text creates old new r adds was =
    let it = adds (λ clean. (was clean).mode) in
    let before = clean_before (state g old.now) (state g new.now) it.step.steps in
    record {
      made = all_empty (GoesOn (created schema table) (AreEmpty (created schema table))) r (λ clean. then_ok r
          (λ makes.
          let within = was (before clean) in
          let made = makes (any_rows schema (AreEmpty schema) (state g old.now) within) in
          record { mode = made.mode; is_open = made.is_open; here = record { schema_is = made.made.schema_is; sound = made.made.sound; rows = still_empty schema text table creates (state g old.now).now (state g new.now).now (within.here made.was_open).rows made.made } })
          (it.made clean));
      tried = λ clean. it.tried clean (any_rows schema (AreEmpty schema) (state g old.now) (was (before clean)));
      step = record { same_reference = it.step.same_reference; steps = it.step.steps };
    }
  where
    all_empty : (P : State → Type 0) (r : Result ℕ Error) → (HasCleanDisk (state g new.now) → OnOk r (P (state g new.now))) → OnOk r (IfClean P (state g new.now))
    all_empty P (Ok n) h = h
    all_empty P (Err e) h = tt

-- a table that is made
pub raises_table : {S : Type 0} (g : Ghosts S) (schema : Schema) (table : Table) (text : List ℕ) (old new : MutBor (Held S)) (r : Result ℕ Error) → AddsTable g schema table text old new r
    → RaisesWithin g (alone text) (λ _ _ _. ⊤) old new r
raises_table g schema table text old new r adds inside = let it = adds inside in record { raised = tt; tried = it.anywhere; step = it.step }
