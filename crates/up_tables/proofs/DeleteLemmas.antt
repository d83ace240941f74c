-- What a DELETE does.
use Rattle.std.proofs.Common.{◌≡◌, ◌≢◌, ℕ, ℤ, List, [], ◌∷◌, map, Bool, true, false, None, Some, slice_get, Ok, IsTrue, refl, sym, ap, subst, ◌∙◌}
use Rattle.std.specs.List.{AllByRecursion, list_any}
use Rattle.std.specs.List.Sorted.{IsPermutation}
use Rattle.std.proofs.lemmas.List.Sorted.{IsPermutation-map, list_any-IsPermutation}
use Rattle.sqlite.specs.declared.types.Value.{Value}
use Rattle.sqlite.specs.declared.types.Value.TheVariants.{Null, Int, Real, Text, Blob}
use Rattle.sqlite.specs.Order.{Row}
use Rattle.sqlite.specs.Tree.{Trees, rowid, has_rowid, without_rowid}
use Rattle.sqlite.specs.Table.{Table}
use Rattle.sqlite.specs.Schema.{Schema}
use Rattle.sqlite.specs.Command.TheVariants.{Delete}
use Rattle.sqlite.specs.Edit.{edit_of, id_in, taken_by, without_all}
use Rattle.sqlite.specs.Rowids.TheVariants.{Given}
use Rattle.sqlite.specs.Rows.{Written, Task, Edited, Deletes}
use Rattle.sqlite.specs.Does.{Does, OnRows}
use Rattle.sqlite.specs.Effect.{Database, Answers, IsDatabase}
use Rattle.sqlite.specs.Listing.{understood}
use Rattle.sqlite.specs.State.{State, mode_of, Executes}
use Rattle.sqlite.proofs.Callers.{IsPlain, command_of, statement_of, runs_as, one_step}
use Rattle.sqlite_trees.specs.View.{is_int}
use Rattle.sqlite_keyed.proofs.ListLemmas.{all_weaker}
use Rattle.sqlite_rules.specs.Action.{works}
use Rattle.sqlite_rules.specs.Calls.{ids_of}
use Rattle.sqlite_schema.specs.declared.program.Program.{Program}
use Rattle.sqlite_schema.specs.declared.schema.Keys.TheVariants.{Enforced}
use Rattle.up_tables.proofs.CreateLemmas.{went, same_value}
use Rattle.up_tables.proofs.InsertLemmas.{concluded}
use Rattle.up_tables.proofs.PlaceLemmas.{itself}

-- The rows whose rowids the query of the deletion shows are gone; the other tables are as they were.
pub record TakesAway (schema : Schema) (table : Table) (program : Program) (params : Row) (old new : Database) : Type 0 where
  pub schema_is : new.schema ≡ schema
  pub sound : IsDatabase new
  pub shown : List Row
  pub answered : Answers (record { schema = schema; trees = old.trees }) program params shown
  pub rows : new.trees table.tree ≡ without_all (old.trees table.tree) (ids_of shown)
  pub others : AllByRecursion (λ t. t.tree ≢ table.tree → new.trees t.tree ≡ old.trees t.tree) schema.tables

-- the table has no row; the other tables are as they were
pub record Empties (schema : Schema) (table : Table) (old new : Database) : Type 0 where
  pub schema_is : new.schema ≡ schema
  pub sound : IsDatabase new
  pub rows : new.trees table.tree ≡ []
  pub others : AllByRecursion (λ t. t.tree ≢ table.tree → new.trees t.tree ≡ old.trees t.tree) schema.tables

-- ---- no row is left

-- what the query of the deletion shows of a row
abbrev pub id_row : Row → Row
id_row r = rowid r ∷ []

abbrev pub HaveRowids : List Row → Type 0
HaveRowids rows = AllByRecursion (λ r. IsTrue (is_int (rowid r))) rows

-- one of the rowids is the row's
abbrev pub is_gone : List ℤ → Row → Bool
is_gone ids r = list_any (λ id. has_rowid id r) ids

abbrev pub AreGone : List ℤ → List Row → Type 0
AreGone ids rows = AllByRecursion (λ r. is_gone ids r ≡ true) rows

-- one rowid less, of the rows that don't have it
rest_gone : (id : ℤ) (ids : List ℤ) (rows : List Row) → AreGone (id ∷ ids) rows → AreGone ids (without_rowid id rows)
rest_gone id ids [] all = tt
rest_gone id ids (r ∷ rows) all = by_test (has_rowid id r) refl (rest_gone id ids rows all.1)
  where
    by_test : (b : Bool) → has_rowid id r ≡ b → AreGone ids (without_rowid id rows) → AreGone ids (without_rowid id (r ∷ rows))
    by_test true same rest = rw same rest
    by_test false same rest =
        let later : is_gone ids r ≡ true = rw same at all.0 in
        rw same (later, rest)

pub none_left : (ids : List ℤ) (rows : List Row) → AreGone ids rows → without_all rows ids ≡ []
none_left [] [] all = refl
none_left [] (r ∷ rows) all = absurd (let no = all.0 in cc)
none_left (id ∷ ids) rows all = none_left ids (without_rowid id rows) (rest_gone id ids rows all)

-- a row has its own rowid
own_rowid : (r : Row) → is_int (rowid r) ≡ true → has_rowid (id_in (rowid r)) r ≡ true
own_rowid r int = by_value (rowid r) refl int
  where
    by_value : (v : Value) → rowid r ≡ v → is_int v ≡ true → has_rowid (id_in v) r ≡ true
    by_value Null is int = absurd (let no = int in cc)
    by_value (Int n) is int = rw is (itself n)
    by_value (Real x) is int = absurd (let no = int in cc)
    by_value (Text t) is int = absurd (let no = int in cc)
    by_value (Blob b) is int = absurd (let no = int in cc)

any_first : {A : Type 0} (p : A → Bool) (x : A) (xs : List A) → p x ≡ true → list_any p (x ∷ xs) ≡ true
any_first p x xs is = rw is refl

any_later : {A : Type 0} (p : A → Bool) (x : A) (xs : List A) → list_any p xs ≡ true → list_any p (x ∷ xs) ≡ true
any_later p x xs h = by_test (p x) refl
  where
    by_test : (b : Bool) → p x ≡ b → list_any p (x ∷ xs) ≡ true
    by_test true is = rw is refl
    by_test false is = rw is h

own_gone : (rows : List Row) → HaveRowids rows → AreGone (ids_of (map id_row rows)) rows
own_gone [] ints = tt
own_gone (r ∷ rows) ints = (
  any_first (λ id. has_rowid id r) (id_in (rowid r)) (ids_of (map id_row rows)) (own_rowid r ints.0),
  all_weaker (λ x. is_gone (ids_of (map id_row rows)) x ≡ true) (λ x. is_gone (ids_of (map id_row (r ∷ rows))) x ≡ true)
      (λ x h. any_later (λ id. has_rowid id x) (id_in (rowid r)) (ids_of (map id_row rows)) h) rows (own_gone rows ints.1),
)

-- in whatever order they are shown
pub all_gone : (rows shown : List Row) → IsPermutation (map id_row rows) shown → HaveRowids rows → AreGone (ids_of shown) rows
all_gone rows shown same ints =
    let ids = IsPermutation-map (λ (r : Row). id_in (rowid r)) (map id_row rows) shown same in
    all_weaker (λ x. is_gone (ids_of (map id_row rows)) x ≡ true) (λ x. is_gone (ids_of shown) x ≡ true)
    (λ x h. sym (list_any-IsPermutation (λ id. has_rowid id x) (ids_of (map id_row rows)) (ids_of shown) ids) ∙ h) rows (own_gone rows ints)

-- ---- the statement

deleted : (task : Task) (q : Program) (db : Trees) (one : Written) → Deletes task q db (Ok one)
    → (rows : List Row) × Answers (record { schema = task.schema; trees = db }) q task.params rows × Edited task.schema task.keys db (edit_of db task.table (ids_of rows) Given 0 []) (Ok one.trees)
deleted task q db one h =
    let answer = went h in
    let edits = went answer.2 in
    let is = same_value edits.2 in
    (answer.0, answer.1, subst (λ t. Edited task.schema task.keys db (edit_of db task.table (ids_of answer.0) Given 0 []) (Ok t)) (sym (ap (λ (w : Written). w.trees) is)) edits.1)

taken_away : (schema : Schema) (table : Table) (idle : (olds news : List Row) → works schema Enforced 0 table.tree olds news ≡ []) (db trees : Trees) (rows : List Row)
    → Edited schema Enforced db (edit_of db table (ids_of rows) Given 0 []) (Ok trees)
    → (trees table.tree ≡ without_all (db table.tree) (ids_of rows)) × AllByRecursion (λ t. t.tree ≢ table.tree → trees t.tree ≡ db t.tree) schema.tables
taken_away schema table idle db trees rows h =
    let edit = edit_of db table (ids_of rows) Given 0 [] in
    let step = one_step schema Enforced db trees edit (idle (taken_by db edit) edit.news) h in
    (step.rows, step.tables)

module _ (schema : Schema) (text : List ℕ) (at : ℕ) (table : Table) (program : Program) (params : Row) (is : command_of (understood schema text) ≡ Delete at program) (plain : IsPlain (understood schema text))
    (place : slice_get schema.tables at ≡ Some table) (idle : (olds news : List Row) → works schema Enforced 0 table.tree olds news ≡ []) where
  pub takes_away : (old new : State) (count : ℕ) → old.now.schema ≡ schema → Executes text params old new (Ok count) → TakesAway schema table program params old.now new.now
  takes_away old new count has h =
      let db = old.now.trees in
      let command = Delete at program in
      let task : Task = record { limit = old.step_limit; keys = Enforced; schema = schema; table = table; params = params } in
      let w = runs_as text params old new schema has command is plain count h in
      let does = subst (λ s. Does old.step_limit (mode_of old) params (record old.now { schema = s }) (statement_of text (understood schema text)) None command (Ok (w.tally, new.now))) has w.changed in
      let on : OnRows task (mode_of old) None command db (Ok (w.tally, new.now)) = rw place at does in
      let done = went on in
      let now = concluded task (mode_of old) done.0 w.tally new.now done.2 in
      let gone = deleted task program db done.0 done.1 in
      let rest = taken_away schema table idle db done.0.trees gone.0 gone.2 in
      record {
        schema_is = ap (λ (d : Database). d.schema) now;
        sound = w.sound;
        shown = gone.0;
        answered = gone.1;
        rows = ap (λ (d : Database). d.trees table.tree) now ∙ rest.0;
        others = subst (λ (d : Database). AllByRecursion (λ t. t.tree ≢ table.tree → d.trees t.tree ≡ db t.tree) schema.tables) (sym now) rest.1;
      }

  -- the query of the deletion shows the rowid of each row
  pub empties : (old new : State) (count : ℕ) → old.now.schema ≡ schema → HaveRowids (old.now.trees table.tree)
      → ((rows : List Row) → Answers (record { schema = schema; trees = old.now.trees }) program params rows → IsPermutation (map id_row (old.now.trees table.tree)) rows)
      → Executes text params old new (Ok count) → Empties schema table old.now new.now
  empties old new count has ints answers h =
      let away = takes_away old new count has h in
      let rows = old.now.trees table.tree in
      record {
        schema_is = away.schema_is;
        sound = away.sound;
        rows = away.rows ∙ none_left (ids_of away.shown) rows (all_gone rows away.shown (answers away.shown away.answered) ints);
        others = away.others;
      }
