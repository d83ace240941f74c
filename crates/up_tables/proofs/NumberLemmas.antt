-- The row of `image_repository`.
use Rattle.std.proofs.Common.{◌≡◌, ◌≢◌, ℕ, ℤ, pos, List, [], ◌∷◌, map, filter, Bool, true, false, None, Some, slice_get, Ok, Err, Result, OnOk, IsTrue, refl, sym, ap, subst, ◌∙◌, codes, drop, arith}
use Rattle.std.proofs.Math.Bool.{and-true}
use Rattle.std.specs.List.{AllByRecursion, list_all}
use Rattle.std.specs.List.Sorted.{IsPermutation}
use Rattle.sqlite.specs.declared.types.Value.TheVariants.{Null, Int}
use Rattle.sqlite.specs.declared.error.Error.{Error}
use Rattle.sqlite.specs.Order.{Row, column}
use Rattle.sqlite.specs.Term.{Term, lit, col, eval_all, holds}
use Rattle.sqlite.specs.Query.{IsAnswer}
use Rattle.sqlite.specs.Cast.{cast_row}
use Rattle.sqlite.specs.Source.TheVariants.{Values, Query}
use Rattle.sqlite.specs.Command.TheVariants.{Insert, Update}
use Rattle.sqlite.specs.Does.{Does, OnRows}
use Rattle.sqlite.specs.Edit.{edit_of, edited, taken_by, with_rowid}
use Rattle.sqlite.specs.Effect.{Answers, Database}
use Rattle.sqlite.specs.Listing.{understood}
use Rattle.sqlite.specs.Program.{overlay}
use Rattle.sqlite.specs.Rowids.TheVariants.{Chosen}
use Rattle.sqlite.specs.Rows.{Task, stamped}
use Rattle.sqlite.specs.Schema.{Schema}
use Rattle.sqlite.specs.State.{State, HasCleanDisk, Survives, Executes, ExecutesInside, Shown, mode_of}
use Rattle.sqlite.specs.Table.{Table}
use Rattle.sqlite.specs.Tree.{Trees, put_row, without_rowid}
use Rattle.sqlite.proofs.Callers.{IsPlain, command_of, one_permutation, one_step, runs_as, statement_of}
use Rattle.sqlite_rules.specs.Action.{works}
use Rattle.sqlite_schema.specs.declared.program.Program.{Program}
use Rattle.sqlite_schema.specs.declared.schema.Keys.TheVariants.{Enforced}
use Rattle.sqlite_tied.specs.Compute.{everything}
use Rattle.sqlite_value.specs.declared.keys.Collation.{Collation}
use Rattle.sqlite_value.specs.declared.keys.Collation.TheVariants.{Binary}
use Rattle.up_tables.specs.Forms.{image_repository_of, image_repository_values}
use Rattle.up_tables.specs.Found.{image_repository_shown}
use Rattle.up_tables.specs.Lines.{AreNamed, AreNew, image_repository_row, meta_row_of}
use Rattle.up_tables.specs.Making.{first_numbers_text, same_numbers_text}
use Rattle.up_tables.specs.Rows.{columns_at, has_number}
use Rattle.up_tables.specs.Stands.{Alters, GoesOn, HasTables, IfClean, IsInside, IsWithin}
use Rattle.up_tables.specs.Tables.{image_repository_table, meta_table, up_schema}
use Rattle.up_tables.specs.Texts.{find_image_repository_text, update_image_repository_text}
use Rattle.up_tables.specs.declared.image_repository.ImageRepositoryRow.{ImageRepositoryRow}
use Rattle.up_tables.proofs.AnswerLemmas.{over, answer_is, equals_int, shows_passing}
use Rattle.up_tables.proofs.BlameLemmas.{Takes}
use Rattle.up_tables.proofs.Casts.{cast_int, cast_null}
use Rattle.up_tables.proofs.CreateLemmas.{went}
use Rattle.up_tables.proofs.InsertLemmas.{concluded, inserted, inserts_row}
use Rattle.up_tables.proofs.MetaReads.{is_one}
use Rattle.up_tables.proofs.Parts.{Inserts}
use Rattle.up_tables.proofs.PlaceLemmas.{itself}
use Rattle.up_tables.proofs.ReadLemmas.{Asks, asked}
use Rattle.up_tables.proofs.RefusalLemmas.{Writes}
use Rattle.up_tables.proofs.RunLemmas.{IsRun, idle, run_alters, run_in, then_ok}
use Rattle.up_tables.proofs.StoredLemmas.{IsQueryIn}
use Rattle.up_tables.proofs.UpdateLemmas.{updates_row}

casts : (root targets : ℕ) → cast_row image_repository_table (image_repository_row root targets) ≡ image_repository_row root targets
casts root targets = rw (cast_null, cast_int (pos 1), cast_int (pos root), cast_int (pos targets)) refl

-- ---- before founding

abbrev first_terms : List Term
first_terms = lit (Int (pos 1)) ∷ lit Null ∷ lit (Int (pos 0)) ∷ lit (Int (pos 0)) ∷ []

first_is : (command_of (understood up_schema first_numbers_text) ≡ Insert 10 (Values first_terms 4)) × IsPlain (understood up_schema first_numbers_text)
unfolding understood everything
first_is = (refl, (refl, refl))

first_inserts : (old new : State) (count : ℕ) → old.now.schema ≡ up_schema → Executes first_numbers_text [] old new (Ok count) → Inserts up_schema image_repository_table (image_repository_row 0 0) old.now new.now
first_inserts old new count has h =
    inserts_row up_schema first_numbers_text 10 image_repository_table first_terms 4 [] (image_repository_row 0 0) first_is.0 first_is.1 refl refl refl refl (casts 0 0) (idle 21) old new count has h

-- the other tables stay as they were named
numbered : (old new : Database) → AreNamed old.trees → Inserts up_schema image_repository_table (image_repository_row 0 0) old new → AreNew new.trees
numbered old new was ins =
    let more = ins.others in
    let less = was.others in
    record {
      meta = more.0 (λ h. let h' = h in cc) ∙ was.meta;
      image_repository = ins.rows ∙ ap (put_row (image_repository_row 0 0)) was.image_repository;
      others = (more.1.0 (λ h. let h' = h in cc) ∙ less.0, (more.1.1.0 (λ h. let h' = h in cc) ∙ less.1.0, (more.1.1.1.0 (λ h. let h' = h in cc) ∙ less.1.1.0, (more.1.1.1.1.0 (λ h. let h' = h in cc) ∙ less.1.1.1.0, (more.1.1.1.1.1.0 (λ h. let h' = h in cc) ∙ less.1.1.1.1.0, (more.1.1.1.1.1.1.0 (λ h. let h' = h in cc) ∙ less.1.1.1.1.1.0, (more.1.1.1.1.1.1.1.0 (λ h. let h' = h in cc) ∙ less.1.1.1.1.1.1.0, (more.1.1.1.1.1.1.1.1.0 (λ h. let h' = h in cc) ∙ less.1.1.1.1.1.1.1.0, (more.1.1.1.1.1.1.1.1.1.0 (λ h. let h' = h in cc) ∙ less.1.1.1.1.1.1.1.1.0, (more.1.1.1.1.1.1.1.1.1.1.1.0 (λ h. let h' = h in cc) ∙ less.1.1.1.1.1.1.1.1.1.0, tt))))))))));
    }

pub numbered_in : (r : Result ℕ Error) (old new : State) → IfClean (IsWithin up_schema AreNamed) old → Survives old new (λ _. ⊥)
    → (HasCleanDisk new → IsTrue old.in_transaction → ExecutesInside 0 first_numbers_text [] old new r) → OnOk r (IfClean (GoesOn up_schema AreNew) new)
numbered_in (Err e) old new was survives ran = tt
numbered_in (Ok count) old new was survives ran = λ clean.
    let before = was (omega (arith, survives.clean)) in
    let h = ran clean before.mode in
    let here = before.here h.1.was_open in
    let ins = first_inserts old new count here.schema_is h.0 in
    record { mode = h.1.mode; is_open = h.1.is_open; here = record { schema_is = ins.schema_is; sound = ins.sound; rows = numbered old.now new.now here.rows ins } }

-- ---- read

abbrev shown : List Term
shown = col 1 2 ∷ col 1 3 ∷ []

abbrev names : List (List ℕ)
names = codes "root" ∷ codes "targets" ∷ []

find_is : Asks up_schema find_image_repository_text (over 21 (is_one ∷ []) shown []) names
unfolding understood everything
find_is = (refl, refl, (refl, refl), refl)

-- the rows of rowid 1 pass, whatever else they have
passes : (r : Row) → list_all (holds ([] ∷ r ∷ [])) (is_one ∷ []) ≡ has_number 0 (pos 1) r
passes r = and-true _ ∙ equals_int (column r 0) (pos 1)

same_filter : (p q : Row → Bool) → ((r : Row) → p r ≡ q r) → (rows : List Row) → filter p rows ≡ filter q rows
same_filter p q same [] = refl
same_filter p q same (r ∷ rows) = let one = same r in let rest = same_filter p q same rows in rw (one, rest) refl

shown_rows : (old new : State) (rows : List Row) → old.now.schema ≡ up_schema → Shown find_image_repository_text [] old new rows → IsPermutation (image_repository_shown (old.now.trees image_repository_table.tree)) rows
shown_rows old new rows has h =
    subst (λ (xs : List Row). IsPermutation (map (columns_at (2 ∷ 3 ∷ [])) xs) rows) (same_filter _ (has_number 0 (pos 1)) passes (old.now.trees image_repository_table.tree))
    (shows_passing (is_one ∷ []) shown [] (old.now.trees image_repository_table.tree) rows (asked up_schema find_image_repository_text 21 (is_one ∷ []) shown [] names [] find_is old new rows has h))

find_takes : Takes find_image_repository_text [] (over 21 (is_one ∷ []) shown [])
unfolding understood everything
find_takes = (refl, refl, λ trees h. absurd (let e = h in cc))

pub numbers_found : IsQueryIn (λ (all rows : List Row). all ≡ rows) find_image_repository_text [] image_repository_table image_repository_shown (is_one ∷ []) shown names
numbers_found = record { asks = find_is; takes = find_takes; answers = λ old new all rows has same h. subst (λ xs. IsPermutation (image_repository_shown xs) rows) (sym same) (shown_rows old new rows has h) }

-- ---- set

abbrev update_shown : List Term
update_shown = col 1 0 ∷ col 1 0 ∷ lit Null ∷ col 0 0 ∷ col 0 1 ∷ []

abbrev program : Program
program = record { lets = []; body = over 21 (is_one ∷ []) update_shown [] }

set_is : (command_of (understood up_schema update_image_repository_text) ≡ Update 10 program) × IsPlain (understood up_schema update_image_repository_text)
unfolding understood everything
set_is = (refl, (refl, refl))

-- the one row passes
one_row : (params : Row) (root targets : ℕ) (rows : List Row) → rows ≡ image_repository_row root targets ∷ [] → filter (λ r. list_all (holds (params ∷ r ∷ [])) (is_one ∷ [])) rows ≡ image_repository_row root targets ∷ []
one_row params root targets rows is =
    let hit : list_all (holds (params ∷ image_repository_row root targets ∷ [])) (is_one ∷ []) ≡ true = and-true _ ∙ equals_int (Int (pos 1)) (pos 1) ∙ itself (pos 1) in
    rw (is, hit) refl

update_rows : (db : Trees) (r : ImageRepositoryRow) (root targets : ℕ) (rows : List Row) → db 21 ≡ image_repository_row root targets ∷ [] → Answers (record { schema = up_schema; trees = db }) program (image_repository_values r) rows
    → rows ≡ (Int (pos 1) ∷ image_repository_of r) ∷ []
update_rows db r root targets rows is h =
    let same = shows_passing (is_one ∷ []) update_shown (image_repository_values r) (db 21) rows (answer_is (overlay db []) 21 (is_one ∷ []) update_shown [] (image_repository_values r) rows (h.answer Null)) in
    one_permutation _ rows (subst (λ xs. IsPermutation xs rows) (ap (map (λ x. eval_all update_shown (image_repository_values r ∷ x ∷ []))) (one_row (image_repository_values r) root targets (db 21) is)) same)

no_other : (root targets : ℕ) → without_rowid (pos 1) (image_repository_row root targets ∷ []) ≡ []
no_other root targets = let it = itself (pos 1) in rw it refl

pub sets_numbers : (r : Result ℕ Error) (old new : State) (it : ImageRepositoryRow) → Survives old new (λ _. ⊥) → IfClean IsInside old
    → (HasCleanDisk new → IsTrue old.in_transaction → ExecutesInside 0 update_image_repository_text (image_repository_values it) old new r)
    → HasCleanDisk new → OnOk r ((root targets : ℕ) → HasTables old → old.now.trees image_repository_table.tree ≡ image_repository_row root targets ∷ [] → Alters image_repository_table (λ rows. rows ≡ image_repository_of it ∷ []) old new)
sets_numbers r old new it survives inside ran clean = then_ok r sets (run_in update_image_repository_text (image_repository_values it) old new r survives inside ran clean)
  where
    sets : IsRun update_image_repository_text (image_repository_values it) old new → (root targets : ℕ) → HasTables old → old.now.trees image_repository_table.tree ≡ image_repository_row root targets ∷ []
        → Alters image_repository_table (λ rows. rows ≡ image_repository_of it ∷ []) old new
    sets run root targets has is =
        let done = updates_row up_schema update_image_repository_text 10 image_repository_table program (image_repository_values it) set_is.0 set_is.1 refl (idle 21) old new run.count (pos 1) (drop 1 (image_repository_of it)) (has run.was_open).schema_is
        (casts it.root it.targets) (λ rows. update_rows old.now.trees it root targets rows is) run.went in
        run_alters update_image_repository_text (image_repository_values it) image_repository_table _ old new run done.schema_is done.sound
        (done.rows ∙ ap (λ xs. put_row (image_repository_of it) (without_rowid (pos 1) xs)) is ∙ ap (put_row (image_repository_of it)) (no_other root targets)) done.others

-- ---- faults of the write

pub numbers_write : (it : ImageRepositoryRow) → Writes update_image_repository_text (image_repository_values it) (Update 10 program)
unfolding understood everything
numbers_write it = record { row = refl; is = set_is.0; plain = set_is.1; writes = refl; whole = refl; count = refl }

-- ---- taken from `meta`

-- what an INSERT puts in that takes its one row of a query; its first column is the rowid
module _ (schema : Schema) (text : List ℕ) (at : ℕ) (table : Table) (program : Program) (params row : Row) (id : ℤ) (is : command_of (understood schema text) ≡ Insert at (Query program)) (plain : IsPlain (understood schema text))
    (place : slice_get schema.tables at ≡ Some table) (uncounted : table.is_counted ≡ false) (bare : stamped table params ≡ params) (casts : cast_row table (Int id ∷ row) ≡ Int id ∷ row)
    (idle : (olds news : List Row) → works schema Enforced 0 table.tree olds news ≡ []) where
  inserts_answer : (old new : State) (count : ℕ) → old.now.schema ≡ schema → ((rows : List Row) → Answers (record { schema = schema; trees = old.now.trees }) program params rows → rows ≡ (Int id ∷ row) ∷ [])
      → Executes text params old new (Ok count) → Inserts schema table (Int id ∷ row) old.now new.now
  inserts_answer old new count has answers h =
      let db = old.now.trees in
      let command = Insert at (Query program) in
      let w = runs_as text params old new schema has command is plain count h in
      let does = subst (λ s. Does old.step_limit (mode_of old) params (record old.now { schema = s }) (statement_of text (understood schema text)) None command (Ok (w.tally, new.now))) has w.changed in
      let task : Task = record { limit = old.step_limit; keys = Enforced; schema = schema; table = table; params = params } in
      let on : OnRows task (mode_of old) None command db (Ok (w.tally, new.now)) = rw place at does in
      let done = went on in
      let now = concluded task (mode_of old) done.0 w.tally new.now done.2 in
      let ins = inserted task (Query program) db done.0 uncounted done.1 in
      let rows : ins.0 ≡ (Int id ∷ row) ∷ [] = answers ins.0 (subst (λ p. Answers (record { schema = schema; trees = db }) program p ins.0) bare ins.1) in
      let e = edit_of db table [] Chosen 0 ins.0 in
      let step = one_step schema Enforced db done.0.trees e (idle (taken_by db e) e.news) ins.2 in
      let edit : edited db (edit_of db table [] Chosen 0 ((Int id ∷ row) ∷ [])) ≡ put_row (with_rowid Chosen (db table.tree) (Int id ∷ row)) (db table.tree) =
      ap (λ r. put_row (with_rowid Chosen (db table.tree) r) (db table.tree)) casts in
      record {
        schema_is = ap (λ (d : Database). d.schema) now;
        sound = w.sound;
        rows = ap (λ (d : Database). d.trees table.tree) now ∙ step.rows ∙ ap (λ all. edited db (edit_of db table [] Chosen 0 all)) rows ∙ edit;
        others = subst (λ (d : Database). AllByRecursion (λ t. t.tree ≢ table.tree → d.trees t.tree ≡ db t.tree) schema.tables) (sym now) step.tables;
      }

abbrev taken_shown : List Term
taken_shown = col 1 0 ∷ lit Null ∷ col 1 4 ∷ col 1 5 ∷ []

-- the collations of columns that are not compared
abbrev by_bytes : List Collation
by_bytes = Binary ∷ Binary ∷ Binary ∷ Binary ∷ []

abbrev taking : Program
taking = record { lets = []; body = record (over 0 [] taken_shown []) { collations = by_bytes } }

take_is : (command_of (understood up_schema same_numbers_text) ≡ Insert 10 (Query taking)) × IsPlain (understood up_schema same_numbers_text)
unfolding understood everything
take_is = (refl, (refl, refl))

-- without DISTINCT nothing is compared
bare_answer : (db : Trees) (rows : List Row) → IsAnswer taking.body db [] rows → IsAnswer (over 0 [] taken_shown []) db [] rows
bare_answer db rows a = record { staged = a.staged; grouped = a.grouped; kept = a.kept; distinct = a.distinct; ordered = a.ordered; same = a.same; sorted = a.sorted; shown = a.shown }

taken_rows : (db : Trees) (number root image_version stamp : ℕ) (rows : List Row) → db 0 ≡ meta_row_of number root image_version stamp ∷ [] → Answers (record { schema = up_schema; trees = db }) taking [] rows
    → rows ≡ image_repository_row root image_version ∷ []
taken_rows db number root image_version stamp rows is h =
    let same = shows_passing [] taken_shown [] (db 0) rows (answer_is (overlay db []) 0 [] taken_shown [] [] rows (bare_answer (overlay db []) rows (h.answer Null))) in
    one_permutation _ rows (subst (λ xs. IsPermutation xs rows) (ap (λ xs. map (λ r. eval_all taken_shown ([] ∷ r ∷ [])) (filter (λ r. true) xs)) is) same)

pub takes_numbers : (r : Result ℕ Error) (old new : State) → Survives old new (λ _. ⊥) → IfClean IsInside old
    → (HasCleanDisk new → IsTrue old.in_transaction → ExecutesInside 0 same_numbers_text [] old new r)
    → HasCleanDisk new → OnOk r ((number root image_version stamp : ℕ) → HasTables old → old.now.trees meta_table.tree ≡ meta_row_of number root image_version stamp ∷ [] → old.now.trees image_repository_table.tree ≡ []
    → Alters image_repository_table (λ rows. rows ≡ image_repository_row root image_version ∷ []) old new)
takes_numbers r old new survives inside ran clean = then_ok r takes (run_in same_numbers_text [] old new r survives inside ran clean)
  where
    takes : IsRun same_numbers_text [] old new → (number root image_version stamp : ℕ) → HasTables old → old.now.trees meta_table.tree ≡ meta_row_of number root image_version stamp ∷ []
        → old.now.trees image_repository_table.tree ≡ [] → Alters image_repository_table (λ rows. rows ≡ image_repository_row root image_version ∷ []) old new
    takes run number root image_version stamp has is none =
        let row = image_repository_row root image_version in
        let done = inserts_answer up_schema same_numbers_text 10 image_repository_table taking [] (drop 1 row) (pos 1) take_is.0 take_is.1 refl refl refl (casts root image_version) (idle 21) old new run.count (has run.was_open).schema_is
        (λ rows. taken_rows old.now.trees number root image_version stamp rows is) run.went in
        run_alters same_numbers_text [] image_repository_table _ old new run done.schema_is done.sound (done.rows ∙ ap (put_row row) none) done.others
