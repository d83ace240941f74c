-- What the query on `meta` answers over tables of this product, whichever version of its schema they have.
use Rattle.std.proofs.Common.{◌≡◌, ℕ, pos, List, [], ◌∷◌, map, filter, length, true, false, None, Some, Ok, Err, Result, IsTrue, refl, sym, ap, subst, ◌∙◌, codes}
use Rattle.std.proofs.Math.Path.{fun_ext}
use Rattle.std.proofs.Math.Bool.{and-true}
use Rattle.std.proofs.lemmas.Bool.{leb-true}
use Rattle.std.proofs.lemmas.List.Sorted.{IsPermutation-refl}
use Rattle.std.specs.List.{list_all}
use Rattle.std.specs.List.Sorted.{IsPermutation}
use Rattle.sqlite.specs.declared.types.Value.TheVariants.{Null}
use Rattle.sqlite.specs.declared.error.Error.{Error}
use Rattle.sqlite.specs.Order.{Row, column}
use Rattle.sqlite.specs.Term.{Term, col, eval_all, holds}
use Rattle.sqlite.specs.Tree.{Trees}
use Rattle.sqlite.specs.Command.TheVariants.{Select}
use Rattle.sqlite.specs.Clock.{timed}
use Rattle.sqlite.specs.Effect.{Database, Answers, Reads, RefusesToRead}
use Rattle.sqlite.specs.Listing.{understood, reads_listing, IsSourceOf}
use Rattle.sqlite.specs.Program.{overlay}
use Rattle.sqlite.specs.Query.{IsSureAnswer}
use Rattle.sqlite.specs.State.{State, Shown, ShowsRows, IsUnchanged, IsNoStatement, IsStatement}
use Rattle.sqlite.proofs.Callers.{IsPlain, command_of, reads_as}
use Rattle.sqlite_keyed.proofs.ListLemmas.{map-map}
use Rattle.sqlite_resolve.specs.declared.compiled.Compiled.{Compiled}
use Rattle.sqlite_resolve.specs.declared.error.CompileError.{CompileError}
use Rattle.sqlite_schema.specs.declared.program.Program.{Program}
use Rattle.sqlite_tied.specs.Compute.{everything}
use Rattle.up_tables.specs.declared.open.SchemaVersion.{SchemaVersion}
use Rattle.up_tables.specs.declared.open.SchemaVersion.TheVariants.{One, Two, Three, Four}
use Rattle.up_tables.specs.Rows.{has_number}
use Rattle.up_tables.specs.Versions.{schema_of}
use Rattle.up_tables.specs.Ours.{find_meta_text}
use Rattle.up_tables.proofs.AnswerLemmas.{over, outputs, passing, answer_is, shows_passing, equals_int}
use Rattle.up_tables.proofs.BlameLemmas.{IsMistyped, is_whole, count_of, same_count, plain_untimed, is_statement as understood_is_statement, never_refused, at_no_time}
use Rattle.up_tables.proofs.MetaReads.{is_one}
use Rattle.up_tables.specs.Tables.{meta_table}

abbrev shown : List Term
shown = col 1 2 ∷ col 1 3 ∷ []

abbrev program : Program
program = record { lets = []; body = over 0 (is_one ∷ []) shown [] }

abbrev names : List (List ℕ)
names = codes "app" ∷ codes "schema" ∷ []

find_is : (version : SchemaVersion) → (command_of (understood (schema_of version) find_meta_text) ≡ Select program names) × (reads_listing (schema_of version) find_meta_text ≡ false)
unfolding understood everything
find_is One = (refl, refl)
find_is Two = (refl, refl)
find_is Three = (refl, refl)
find_is Four = (refl, refl)

pub find_plain : (version : SchemaVersion) → IsPlain (understood (schema_of version) find_meta_text)
unfolding understood everything
find_plain One = (refl, refl)
find_plain Two = (refl, refl)
find_plain Three = (refl, refl)
find_plain Four = (refl, refl)

find_whole : (version : SchemaVersion) → is_whole find_meta_text (understood (schema_of version) find_meta_text) ≡ true
unfolding understood everything
find_whole One = refl
find_whole Two = refl
find_whole Three = refl
find_whole Four = refl

find_count : (version : SchemaVersion) → count_of (understood (schema_of version) find_meta_text) ≡ Some 0
unfolding understood everything
find_count One = refl
find_count Two = refl
find_count Three = refl
find_count Four = refl

-- it is a statement
pub is_statement : (version : SchemaVersion) (s : State) (e : Error) → s.now.schema ≡ schema_of version → IsNoStatement s find_meta_text [] e → ⊥
is_statement version = understood_is_statement (schema_of version) find_meta_text [] (plain_untimed _ (find_plain version)) (find_whole version) (find_count version)

itself_unchanged : (s : State) → IsTrue s.is_open → IsUnchanged s s
itself_unchanged s is_open = (record { was_open = is_open; is_open = is_open; now_is = refl; committed_is = refl; mode = refl }, record { changes = refl; last_rowid = refl }, refl)

pub shows : (s : State) (c : Compiled) (params : Row) (db : Database) (rows : List Row) → c.returning ≡ None → IsTrue s.is_open → IsSourceOf (reads_listing s.now.schema find_meta_text) s.now db
    → Reads c.command db params rows → ShowsRows s s find_meta_text c params rows c.returning
shows s c params db rows none is_open source reads = subst (ShowsRows s s find_meta_text c params rows) (sym none) (db, source, reads, itself_unchanged s is_open)

-- ---- what it answers

-- the rows that it is asked for
abbrev pub asked_rows : Trees → List Row
asked_rows trees = filter (has_number 0 (pos 1)) (trees meta_table.tree)

-- what it shows of each
abbrev pub name_and_schema : Row → Row
name_and_schema r = column r 2 ∷ column r 3 ∷ []

abbrev pub answer_of : Trees → List Row
answer_of trees = map name_and_schema (asked_rows trees)

hit : (r : Row) → list_all (holds ([] ∷ r ∷ [])) (is_one ∷ []) ≡ has_number 0 (pos 1) r
hit r = and-true _ ∙ equals_int (column r 0) (pos 1)

hits : (trees : Trees) → map (λ r. eval_all shown ([] ∷ r ∷ [])) (filter (λ r. list_all (holds ([] ∷ r ∷ [])) (is_one ∷ [])) (trees meta_table.tree)) ≡ answer_of trees
hits trees = ap (λ q. map name_and_schema (filter q (trees meta_table.tree))) (fun_ext hit)

-- an answer is these rows
pub is_answer : (made : SchemaVersion) (old new : State) (rows : List Row) → old.now.schema ≡ schema_of made → Shown find_meta_text [] old new rows → IsPermutation (answer_of old.now.trees) rows
is_answer made old new rows has h =
    let read = reads_as find_meta_text [] old new (schema_of made) has (Select program names) (find_is made).0 (find_plain made) (find_is made).1 rows h in
    subst (λ xs. IsPermutation xs rows) (hits old.now.trees)
    (shows_passing (is_one ∷ []) shown [] (old.now.trees meta_table.tree) rows (answer_is (overlay old.now.trees []) 0 (is_one ∷ []) shown [] [] rows (read.answer Null)))

-- and these rows are an answer
sure : (trees : Trees) → IsSureAnswer (over 0 (is_one ∷ []) shown []) (overlay trees []) [] (answer_of trees)
sure trees lost = record {
  staged = map (λ r. [] ∷ r ∷ []) (filter (λ r. list_all (holds ([] ∷ r ∷ [])) (is_one ∷ [])) (trees meta_table.tree));
  grouped = sym (passing (is_one ∷ []) [] (trees meta_table.tree));
  kept = outputs (is_one ∷ []) shown [] [] (trees meta_table.tree);
  distinct = sym (map-map _ _ _);
  ordered = outputs (is_one ∷ []) shown [] [] (trees meta_table.tree);
  same = IsPermutation-refl _;
  sorted = λ k d low high. refl;
  shown = sym (map-map _ _ _ ∙ hits trees);
}

accepts : (made : SchemaVersion) (trees : Trees) → Answers (record { schema = schema_of made; trees = trees }) program [] (answer_of trees)
unfolding everything
accepts One trees = record { typed = refl; answer = sure trees }
accepts Two trees = record { typed = refl; answer = sure trees }
accepts Three trees = record { typed = refl; answer = sure trees }
accepts Four trees = record { typed = refl; answer = sure trees }

answers : (made : SchemaVersion) (db : Database) → db.schema ≡ schema_of made → Answers db program [] (answer_of db.trees)
answers made db has = let known = accepts made db.trees in record { typed = rw has known.typed; answer = known.answer }

the_compiled : (r : Result Compiled CompileError) → is_whole find_meta_text r ≡ true → (c : Compiled) × (r ≡ Ok c)
the_compiled (Ok c) h = (c, refl)
the_compiled (Err e) h = absurd cc

-- the statement of the query, which reads the tables and answers these rows
pub record Finds (s : State) : Type 0 where
  pub compiled : Compiled
  pub it : IsStatement s find_meta_text [] compiled
  pub source : IsSourceOf (reads_listing s.now.schema find_meta_text) s.now s.now
  pub reads : Reads compiled.command s.now (timed [] compiled.formats it.now) (answer_of s.now.trees)

pub finds : (made : SchemaVersion) (s : State) → s.now.schema ≡ schema_of made → Finds s
finds made s has =
    let found = the_compiled (understood (schema_of made) find_meta_text) (find_whole made) in
    let c = found.0 in
    let known : understood (schema_of made) find_meta_text ≡ Ok c = found.1 in
    let bare = subst IsPlain known (find_plain made) in
    let command : c.command ≡ Select program names = ap command_of (sym known) ∙ (find_is made).0 in
    record {
      compiled = c;
      it = record {
        is = ap (λ x. understood x find_meta_text) has ∙ known;
        whole = leb-true (length find_meta_text) c.tail (ap (is_whole find_meta_text) (sym known) ∙ find_whole made);
        given = same_count (sym (ap count_of (sym known) ∙ find_count made));
        now = 0;
      };
      source = subst (λ b. IsSourceOf b s.now s.now) (sym (ap (λ x. reads_listing x find_meta_text) has ∙ (find_is made).1)) refl;
      reads = subst (λ m. Reads m s.now (timed [] c.formats 0) (answer_of s.now.trees)) (sym command)
          (subst (λ formats. Reads (Select program names) s.now (timed [] formats 0) (answer_of s.now.trees)) (sym bare.1) (answers made s.now has));
    }

-- it is not refused
find_typed : (version : SchemaVersion) (trees : Trees) → ¬ IsMistyped (schema_of version) trees [] (over 0 (is_one ∷ []) shown [])
unfolding everything
find_typed One trees h = absurd (let e = h in cc)
find_typed Two trees h = absurd (let e = h in cc)
find_typed Three trees h = absurd (let e = h in cc)
find_typed Four trees h = absurd (let e = h in cc)

pub not_refused : (made : SchemaVersion) (s : State) (c : Compiled) (it : IsStatement s find_meta_text [] c) (db : Database) (e : Error) → s.now.schema ≡ schema_of made
    → IsSourceOf (reads_listing s.now.schema find_meta_text) s.now db → RefusesToRead None c.command db (timed [] c.formats it.now) e → ⊥
not_refused made s c it db e has source refused =
    let known : understood (schema_of made) find_meta_text ≡ Ok c = sym (ap (λ x. understood x find_meta_text) has) ∙ it.is in
    let bare = subst IsPlain known (find_plain made) in
    let same : db ≡ s.now = subst (λ b. IsSourceOf b s.now db) (ap (λ x. reads_listing x find_meta_text) has ∙ (find_is made).1) source in
    let command : c.command ≡ Select program names = ap command_of (sym known) ∙ (find_is made).0 in
    never_refused (schema_of made) 0 (is_one ∷ []) shown [] names [] db e (ap (λ (d : Database). d.schema) same ∙ has) (find_typed made)
    (subst (λ m. RefusesToRead None m db [] e) command (at_no_time c it.now c.command db [] e bare.1 refused))
