-- What the upsert of a file's row does.
use Rattle.std.proofs.Common.{◌≡◌, ◌≢◌, ◌≤◌, inl, inr, arith, ℕ, ℤ, List, [], ◌∷◌, ◌++◌, map, filter, Bool, true, false, ◌&&◌, if◌then◌else◌, length, Some, Ok, Result, OnOk, Option, IsTrue, refl, sym, ap, subst, ◌∙◌, append-nil, bytes_eq, drop}
use Rattle.std.specs.Ordering.{is_eq}
use Rattle.std.proofs.Math.Bool.{and-true, or-false}
use Rattle.sqlite.specs.declared.types.Value.TheVariants.{Null, Int, Text, Blob, Real}
use Rattle.sqlite.specs.declared.error.Error.{Error}
use Rattle.sqlite.specs.Order.{Row, column, value_cmp}
use Rattle.sqlite.specs.Term.{Term, col, eval_all, holds}
use Rattle.sqlite.specs.Cast.{cast_row}
use Rattle.sqlite.specs.Source.TheVariants.{Values}
use Rattle.sqlite.specs.Command.TheVariants.{InsertOr}
use Rattle.sqlite.specs.Listing.{understood}
use Rattle.sqlite.specs.State.{State, HasCleanDisk, Survives, Executes, ExecutesInside}
use Rattle.sqlite.proofs.Callers.{IsPlain, command_of, one_step, one_permutation}
use Rattle.sqlite_tied.specs.Compute.{everything}
use Rattle.sqlite_schema.specs.declared.schema.Keys.TheVariants.{Enforced}
use Rattle.up_tables.specs.Rows.{bare, has_text, has_texts, with_only_at}
use Rattle.up_tables.specs.Stands.{IfClean, IsInside, Alters, HasTables, ListsPairs}
use Rattle.up_tables.proofs.AnswerLemmas.{over, given, equals_text, equals_int, answer_is, shows_passing}
use Rattle.up_tables.proofs.Casts.{cast_int, cast_null}
use Rattle.up_tables.proofs.EcuRows.{text_is, same_text}
use Rattle.up_tables.proofs.EcuUpdate.{equals}
use Rattle.std.specs.List.{AllByRecursion, list_all}
use Rattle.std.specs.List.Sorted.{IsPermutation}
use Rattle.sqlite.specs.declared.types.Value.{Value}
use Rattle.sqlite.specs.Edit.{edit_of, next_rowid, taken_by}
use Rattle.sqlite.specs.Effect.{Answers, Database, IsDatabase}
use Rattle.sqlite.specs.Rowids.TheVariants.{Given}
use Rattle.sqlite.specs.Rows.{Written, Task, Upserts, Puts, Edited, Clears, Updates, shown as shown_row}
use Rattle.sqlite.specs.Tree.{Trees, put_row, without_rowid, has_rowid, rowid, IsTable}
use Rattle.sqlite_keyed.proofs.ListLemmas.{filter_same, filter_none}
use Rattle.sqlite_rules.specs.Keys.{conflicts}
use Rattle.sqlite_rules.specs.Lists.{Has}
use Rattle.sqlite_rules.proofs.ListLemmas.{all_has, all_from, has_kept}
use Rattle.sqlite_rules.proofs.ProbeLemmas.{mapped_has}
use Rattle.sqlite_schema.specs.declared.command.Upsert.{Upsert}
use Rattle.sqlite_schema.specs.declared.command.Conflict.TheVariants.{Abort}
use Rattle.sqlite_schema.specs.declared.program.Program.{Program}
use Rattle.sqlite_trees.specs.View.{IsShaped, is_int}
use Rattle.sqlite_trees.specs.declared.store.Shape.TheVariants.{Table}
use Rattle.sqlite_value.proofs.OrderLemmas.{value_cmp-apart}
use Rattle.sqlite_value.specs.Keys.{first_key}
use Rattle.up_tables.specs.Tables.{up_schema, repo_file_table}
use Rattle.up_tables.specs.Texts.{upsert_file_text}
use Rattle.up_tables.proofs.AppendLemmas.{appended_by, shaped_next}
use Rattle.up_tables.proofs.CreateLemmas.{went, same_value}
use Rattle.up_tables.proofs.EcuSteps.{with_id}
use Rattle.up_tables.proofs.OnlyLemmas.{rewritten_shaped, part_in, part_out}
use Rattle.up_tables.proofs.RunLemmas.{IsRun, run_in, then_ok, run_alters, idle}
use Rattle.up_tables.proofs.PlaceLemmas.{only}
use Rattle.up_tables.proofs.RefusalLemmas.{Writes}
use Rattle.up_tables.proofs.UpsertLemmas.{tried, updated, rewritten_by, tries_row}

abbrev update_shown : List Term
update_shown = col 1 0 ∷ col 1 0 ∷ col 1 1 ∷ col 1 2 ∷ col 0 7 ∷ []

abbrev update : Program
update = record { lets = []; body = over 3 (equals 0 3 ∷ []) update_shown [] }

abbrev clause : Upsert
clause = record { target = Some (1 ∷ 2 ∷ []); update = Some update }

upsert_is : (command_of (understood up_schema upsert_file_text) ≡ InsertOr 2 Abort (Values (given 3) 4) (clause ∷ [])) × IsPlain (understood up_schema upsert_file_text)
unfolding understood everything
upsert_is = (refl, (refl, refl))

abbrev pub file_line : List ℕ → List ℕ → List ℕ → Row
file_line repository name body = Text repository ∷ Text name ∷ Text body ∷ []

pub file_writes : (repository name body : List ℕ) → Writes upsert_file_text (file_line repository name body) (InsertOr 2 Abort (Values (given 3) 4) (clause ∷ []))
unfolding understood everything
file_writes repository name body = record { row = refl; is = upsert_is.0; plain = upsert_is.1; writes = refl; whole = refl; count = refl }

casts : (repository name body : List ℕ) → cast_row repo_file_table (Null ∷ file_line repository name body) ≡ Null ∷ file_line repository name body
casts repository name body = rw cast_null refl

casts_given : (id : ℤ) (repository name body : List ℕ) → cast_row repo_file_table (Int id ∷ file_line repository name body) ≡ Int id ∷ file_line repository name body
casts_given id repository name body = rw (cast_int id) refl

-- the rows that conflict are those with both names
conflicts_are : (n : ℤ) (repository name body : List ℕ) (r : Row) → conflicts (Some (1 ∷ 2 ∷ [])) up_schema.indexes repo_file_table (Int n ∷ file_line repository name body) r ≡ has_texts 1 repository 2 name r
unfolding first_key
conflicts_are n repository name body r = or-false _ ∙ rw (equals_text (column r 1) repository, equals_text (column r 2) name) (ap (λ b. has_text 1 repository r && b) (and-true _))

-- a value that ties with a text is that text
is_text : (v : Value) (t : List ℕ) → is_eq (value_cmp v (Text t)) ≡ true → v ≡ Text t
is_text Null t h = absurd (let e = sym (ap is_eq (value_cmp-apart Null (Text t) (λ p. let q = p in cc))) ∙ h in cc)
is_text (Int n) t h = absurd (let e = sym (ap is_eq (value_cmp-apart (Int n) (Text t) (λ p. let q = p in cc))) ∙ h in cc)
is_text (Real x) t h = absurd (let e = sym (ap is_eq (value_cmp-apart (Real x) (Text t) (λ p. let q = p in cc))) ∙ h in cc)
is_text (Text s) t h = ap Text (same_text s t (sym (text_is s t) ∙ h))
is_text (Blob b) t h = absurd (let e = sym (ap is_eq (value_cmp-apart (Blob b) (Text t) (λ p. let q = p in cc))) ∙ h in cc)

both_texts : (r : Row) (repository name : List ℕ) → has_texts 1 repository 2 name r ≡ true → (column r 1 ≡ Text repository) × (column r 2 ≡ Text name)
both_texts r repository name h = go (has_text 1 repository r) (has_text 2 name r) refl refl h
  where
    go : (a b : Bool) → has_text 1 repository r ≡ a → has_text 2 name r ≡ b → (a && b) ≡ true → (column r 1 ≡ Text repository) × (column r 2 ≡ Text name)
    go true true p q both = (is_text (column r 1) repository p, is_text (column r 2) name q)
    go true false p q both = absurd (let e = both in cc)
    go false b p q both = absurd (let e = both in cc)

-- a row with both names is one of those for them alone
names_are : (r : Row) (repository name m n : List ℕ) → column r 1 ≡ Text repository → column r 2 ≡ Text name → has_texts 1 m 2 n r ≡ (bytes_eq repository m && bytes_eq name n)
names_are r repository name m n first second = rw (first, second, text_is repository m, text_is name n) refl

-- ---- where there is none, it is put in

put : (task : Task) (new : Row) (db : Trees) (one : Written) → Puts task new db (Ok one) → Edited task.schema task.keys db (edit_of db task.table [] Given 0 (new ∷ [])) (Ok one.trees)
put task new db one h =
    let edits = went h in
    subst (λ t. Edited task.schema task.keys db (edit_of db task.table [] Given 0 (new ∷ [])) (Ok t)) (sym (ap (λ (x : Written). x.trees) (same_value edits.2))) edits.1

clears : (task : Task) (new : Row) (db : Trees) (one : Written) (found : List Row) → Clears task Abort new db found (Ok one) → Puts task new db (Ok one)
clears task new db one [] h = h
clears task new db one (x ∷ more) h = h

module _ (limit : Option ℕ) (db : Trees) (n : ℤ) (repository name body : List ℕ) (one : Written) where
  abbrev row : Row
  row = file_line repository name body

  abbrev task : Task
  task = record { limit = limit; keys = Enforced; schema = up_schema; table = repo_file_table; params = row }

  puts : Puts task (Int n ∷ row) db (Ok one) → (one.trees repo_file_table.tree ≡ put_row (Int n ∷ row) (db 3)) × AllByRecursion (λ t. t.tree ≢ 3 → one.trees t.tree ≡ db t.tree) up_schema.tables
  puts h =
      let edit = edit_of db repo_file_table [] Given 0 ((Int n ∷ row) ∷ []) in
      let step = one_step up_schema Enforced db one.trees edit (idle 3 (taken_by db edit) edit.news) (put task (Int n ∷ row) db one h) in
      (step.rows ∙ ap (λ r. put_row r (db 3)) (casts_given n repository name body), step.tables)

  -- ---- where there is one, it is updated

  update_rows : (id : ℤ) (was : Row) (a : Value) (given rows : List Value) (shown : List Row) → IsTable (db 3) → column (Int id ∷ was) 1 ≡ Text repository → column (Int id ∷ was) 2 ≡ Text name
      → given ≡ Text repository ∷ Text name ∷ Text body ∷ Int id ∷ a ∷ Text repository ∷ Text name ∷ Text body ∷ [] → Has (db 3) (Int id ∷ was) → Answers (record { schema = up_schema; trees = db }) update given shown
      → shown ≡ (Int id ∷ Int id ∷ row) ∷ []
  update_rows id was a given rows shown up first second is there h =
      let it = Int id ∷ was in
      let same = shows_passing (equals 0 3 ∷ []) update_shown given (db 3) shown (answer_is (Rattle.sqlite.specs.Program.overlay db []) 3 (equals 0 3 ∷ []) update_shown [] given shown (h.answer Null)) in
      let tests : (r : Row) → list_all (holds (given ∷ r ∷ [])) (equals 0 3 ∷ []) ≡ has_rowid id r = λ r. rw is (and-true _ ∙ equals_int (column r 0) id) in
      let only_it : filter (λ r. list_all (holds (given ∷ r ∷ [])) (equals 0 3 ∷ [])) (db 3) ≡ it ∷ [] = filter_same _ _ tests (db 3) ∙ only id it (db 3) refl up there in
      one_permutation _ shown (subst (λ xs. IsPermutation xs shown) (ap (map (λ r. eval_all update_shown (given ∷ r ∷ []))) only_it ∙ rw (is, first, second) refl) same)

  updates : (id : ℤ) (was : Row) → IsTable (db 3) → column (Int id ∷ was) 1 ≡ Text repository → column (Int id ∷ was) 2 ≡ Text name → Has (db 3) (Int id ∷ was)
      → Updates task update (row ++ Int id ∷ shown_row repo_file_table (Int n ∷ row)) db (Ok one)
      → (one.trees repo_file_table.tree ≡ put_row (Int id ∷ row) (without_rowid id (db 3))) × AllByRecursion (λ t. t.tree ≢ 3 → one.trees t.tree ≡ db t.tree) up_schema.tables
  updates id was table first second there h =
      let up = updated task update _ db one h in
      let all : up.0 ≡ (Int id ∷ Int id ∷ row) ∷ [] = update_rows id was (Int n) _ [] up.0 table first second refl there up.1 in
      rewritten_by up_schema repo_file_table (idle 3) db one.trees id row up.0 all (casts_given id repository name body) up.2

-- ---- either way, the file has its text alone

none_there : (rows : List Row) (p : Row → Bool) → ((r : Row) → Has rows r → p r ≡ true → ⊥) → filter p rows ≡ []
none_there rows p none = filter_none p rows (all_from (λ r. p r ≡ false) rows (λ r here. go r here (p r) refl))
  where
    go : (r : Row) → Has rows r → (b : Bool) → p r ≡ b → b ≡ false
    go r here false is = refl
    go r here true is = absurd (none r here is)

only_one : (xs : List Row) (x : Row) → length xs ≤ 1 → Has xs x → xs ≡ x ∷ []
only_one [] x few there = absurd there
only_one (y ∷ []) x few (inl same) = ap (λ z. z ∷ []) (sym same)
only_one (y ∷ []) x few (inr none) = absurd none
only_one (y ∷ z ∷ more) x few there = absurd (omega (arith, few))

-- put in
new_pairs : (rows after : List Row) (repository name body : List ℕ) (rows_of : List ℕ → List ℕ → List Row) → ListsPairs rows_of rows → filter (has_texts 1 repository 2 name) rows ≡ []
    → after ≡ put_row (Int (next_rowid rows) ∷ file_line repository name body) rows → ListsPairs (with_only_at repository name (file_line repository name body) rows_of) after
new_pairs rows after repository name body rows_of lists none is = record {
  shaped = subst (IsShaped Table) (sym is) (shaped_next rows (file_line repository name body) lists.shaped);
  parts = λ m n. ap (λ xs. bare (filter (has_texts 1 m 2 n) xs)) is ∙ appended_by (has_texts 1 m 2 n) rows (file_line repository name body) lists.shaped
      ∙ ap (λ b. bare (filter (has_texts 1 m 2 n) rows) ++ (if b then (file_line repository name body) ∷ [] else [])) (names_are (Int (next_rowid rows) ∷ (file_line repository name body)) repository name m n refl refl) ∙ go m n (bytes_eq repository m) (bytes_eq name n) refl refl;
}
  where
    go : (m n : List ℕ) (a b : Bool) → bytes_eq repository m ≡ a → bytes_eq name n ≡ b
        → bare (filter (has_texts 1 m 2 n) rows) ++ (if a && b then (file_line repository name body) ∷ [] else []) ≡ (if a && b then (file_line repository name body) ∷ [] else rows_of m n)
    go m n true true p q =
        let mine : filter (has_texts 1 m 2 n) rows ≡ [] = ap (λ k. filter (has_texts 1 k 2 n) rows) (sym (same_text repository m p)) ∙ ap (λ k. filter (has_texts 1 repository 2 k) rows) (sym (same_text name n q)) ∙ none in
        ap (λ xs. bare xs ++ (file_line repository name body) ∷ []) mine
    go m n true false p q = append-nil _ ∙ lists.parts m n
    go m n false b p q = append-nil _ ∙ lists.parts m n

-- set
old_pairs : (rows after : List Row) (id : ℤ) (was : Row) (repository name body : List ℕ) (rows_of : List ℕ → List ℕ → List Row) → ListsPairs rows_of rows → Has rows (Int id ∷ was)
    → column (Int id ∷ was) 1 ≡ Text repository → column (Int id ∷ was) 2 ≡ Text name → rows_of repository name ≡ was ∷ []
    → after ≡ put_row (Int id ∷ file_line repository name body) (without_rowid id rows) → ListsPairs (with_only_at repository name (file_line repository name body) rows_of) after
old_pairs rows after id was repository name body rows_of lists there first second mine is = record {
  shaped = subst (IsShaped Table) (sym is) (rewritten_shaped id was (file_line repository name body) rows lists.shaped there);
  parts = λ m n. ap (λ xs. bare (filter (has_texts 1 m 2 n) xs)) is ∙ go m n (bytes_eq repository m) (bytes_eq name n) refl refl;
}
  where
    before : (m n : List ℕ) → has_texts 1 m 2 n (Int id ∷ was) ≡ (bytes_eq repository m && bytes_eq name n)
    before m n = names_are (Int id ∷ was) repository name m n first second

    alike : (m n : List ℕ) → has_texts 1 m 2 n (Int id ∷ (file_line repository name body)) ≡ has_texts 1 m 2 n (Int id ∷ was)
    alike m n = names_are (Int id ∷ (file_line repository name body)) repository name m n refl refl ∙ sym (before m n)

    go : (m n : List ℕ) (a b : Bool) → bytes_eq repository m ≡ a → bytes_eq name n ≡ b → bare (filter (has_texts 1 m 2 n) (put_row (Int id ∷ (file_line repository name body)) (without_rowid id rows))) ≡ (if a && b then (file_line repository name body) ∷ [] else rows_of m n)
    go m n true true p q =
        let these : rows_of m n ≡ was ∷ [] = ap (λ k. rows_of k n) (sym (same_text repository m p)) ∙ ap (rows_of repository) (sym (same_text name n q)) ∙ mine in
        part_in id was (file_line repository name body) rows lists.shaped there (has_texts 1 m 2 n) (alike m n) (before m n ∙ rw (p, q) refl) (lists.parts m n ∙ these)
    go m n true false p q = ap bare (part_out id was (file_line repository name body) rows lists.shaped there (has_texts 1 m 2 n) (alike m n) (before m n ∙ rw (p, q) refl)) ∙ lists.parts m n
    go m n false b p q = ap bare (part_out id was (file_line repository name body) rows lists.shaped there (has_texts 1 m 2 n) (alike m n) (before m n ∙ rw p refl)) ∙ lists.parts m n

module _ (limit : Option ℕ) (db : Trees) (repository name body : List ℕ) (one : Written) (rows_of : List ℕ → List ℕ → List Row) (lists : ListsPairs rows_of (db 3)) (few : length (rows_of repository name) ≤ 1) where
  abbrev it_task : Task
  it_task = record { limit = limit; keys = Enforced; schema = up_schema; table = repo_file_table; params = file_line repository name body }

  abbrev new : Row
  new = Int (next_rowid (db 3)) ∷ file_line repository name body

  sets : Upserts it_task Abort new db (clause ∷ []) (Ok one) → ListsPairs (with_only_at repository name (file_line repository name body) rows_of) (one.trees repo_file_table.tree) × AllByRecursion (λ t. t.tree ≢ 3 → one.trees t.tree ≡ db t.tree) up_schema.tables
  sets ([], c, h) =
      let none = none_there (db 3) (has_texts 1 repository 2 name) (λ r here hit. absurd (c.complete r here (conflicts_are (next_rowid (db 3)) repository name body r ∙ hit))) in
      let done = puts limit db (next_rowid (db 3)) repository name body one (clears it_task new db one h.0 h.2) in
      (new_pairs (db 3) (one.trees repo_file_table.tree) repository name body rows_of lists none done.0, done.1)
  sets (there ∷ more, c, h) =
      let met = c.sound there (inl refl) in
      let hit : has_texts 1 repository 2 name met.0 ≡ true = sym (conflicts_are (next_rowid (db 3)) repository name body met.0) ∙ met.2 in
      let names = both_texts met.0 repository name hit in
      let it = with_id met.0 (drop 1 met.0) (all_has (λ r. is_int (rowid r) ≡ true) (db 3) met.0 lists.shaped.1 met.1) refl in
      let here : Has (db 3) (Int it.0 ∷ drop 1 met.0) = subst (Has (db 3)) it.1 met.1 in
      let first : column (Int it.0 ∷ drop 1 met.0) 1 ≡ Text repository = ap (λ r. column r 1) (sym it.1) ∙ names.0 in
      let second : column (Int it.0 ∷ drop 1 met.0) 2 ≡ Text name = ap (λ r. column r 2) (sym it.1) ∙ names.1 in
      let shown : Has (rows_of repository name) (drop 1 met.0) =
      subst (λ xs. Has xs (drop 1 met.0)) (lists.parts repository name) (mapped_has (drop 1) (filter (has_texts 1 repository 2 name) (db 3)) met.0 (has_kept (has_texts 1 repository 2 name) (db 3) met.0 met.1 hit)) in
      let mine = only_one (rows_of repository name) (drop 1 met.0) few shown in
      let id_is : rowid there ≡ Int it.0 = ap rowid met.3 ∙ ap rowid it.1 in
      let done = updates limit db (next_rowid (db 3)) repository name body one it.0 (drop 1 met.0) lists.shaped.0 first second here
      (subst (λ v. Updates it_task update (file_line repository name body ++ v ∷ shown_row repo_file_table new) db (Ok one)) id_is h) in
      (old_pairs (db 3) (one.trees repo_file_table.tree) it.0 (drop 1 met.0) repository name body rows_of lists here first second mine done.0, done.1)

upserts_file : (old new : State) (repository name body : List ℕ) (rows_of : List ℕ → List ℕ → List Row) (count : ℕ) → old.now.schema ≡ up_schema → ListsPairs rows_of (old.now.trees repo_file_table.tree) → length (rows_of repository name) ≤ 1
    → Executes upsert_file_text (file_line repository name body) old new (Ok count)
    → (new.now.schema ≡ up_schema) × IsDatabase new.now × ListsPairs (with_only_at repository name (file_line repository name body) rows_of) (new.now.trees repo_file_table.tree)
    × AllByRecursion (λ t. t.tree ≢ 3 → new.now.trees t.tree ≡ old.now.trees t.tree) up_schema.tables
upserts_file old new repository name body rows_of count has lists few h =
    let db = old.now.trees in
    let row = file_line repository name body in
    let task : Task = record { limit = old.step_limit; keys = Enforced; schema = up_schema; table = repo_file_table; params = row } in
    let tries = tries_row up_schema upsert_file_text 2 repo_file_table (given 3) 4 row row (clause ∷ []) upsert_is.0 upsert_is.1 refl refl (append-nil _) refl (casts repository name body) old new count has h in
    let set = sets old.step_limit db repository name body tries.0 rows_of lists few (tried task clause (Int (next_rowid (db 3)) ∷ row) db tries.0 tries.1) in (
      ap (λ (d : Database). d.schema) tries.3,
      tries.2,
      subst (λ (d : Database). ListsPairs (with_only_at repository name row rows_of) (d.trees repo_file_table.tree)) (sym tries.3) set.0,
      subst (λ (d : Database). AllByRecursion (λ t. t.tree ≢ 3 → d.trees t.tree ≡ db t.tree) up_schema.tables) (sym tries.3) set.1,
    )

-- in a transaction
pub sets_file : (r : Result ℕ Error) (old new : State) (repository name body : List ℕ) → Survives old new (λ _. ⊥) → IfClean IsInside old
    → (HasCleanDisk new → IsTrue old.in_transaction → ExecutesInside 0 upsert_file_text (file_line repository name body) old new r)
    → HasCleanDisk new → OnOk r ((rows_of : List ℕ → List ℕ → List Row) → HasTables old → ListsPairs rows_of (old.now.trees repo_file_table.tree) → length (rows_of repository name) ≤ 1
    → Alters repo_file_table (ListsPairs (with_only_at repository name (file_line repository name body) rows_of)) old new)
sets_file r old new repository name body survives inside ran clean = then_ok r sets_it (run_in upsert_file_text (file_line repository name body) old new r survives inside ran clean)
  where
    sets_it : IsRun upsert_file_text (file_line repository name body) old new → (rows_of : List ℕ → List ℕ → List Row) → HasTables old → ListsPairs rows_of (old.now.trees repo_file_table.tree) → length (rows_of repository name) ≤ 1
        → Alters repo_file_table (ListsPairs (with_only_at repository name (file_line repository name body) rows_of)) old new
    sets_it run rows_of has lists few =
        let done = upserts_file old new repository name body rows_of run.count (has run.was_open).schema_is lists few run.went in
        run_alters upsert_file_text (file_line repository name body) repo_file_table _ old new run done.0 done.1 done.2 done.3
