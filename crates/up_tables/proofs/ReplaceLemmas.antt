-- An ECU's row is put in the place of another one's.
use Rattle.std.proofs.Common.{◌≡◌, ℕ, ℤ, pos, List, [], ◌∷◌, map, filter, true, false, Result, OnOk, IsTrue, refl, sym, ap, subst, ◌∙◌, bytes_eq}
use Rattle.std.specs.List.{list_all}
use Rattle.std.specs.List.Sorted.{IsPermutation}
use Rattle.std.proofs.Math.Bool.{and-true}
use Rattle.sqlite.specs.declared.types.Value.TheVariants.{Null, Int, Text, Blob}
use Rattle.sqlite.specs.declared.error.Error.{Error}
use Rattle.sqlite.specs.Order.{Row, column}
use Rattle.sqlite.specs.Term.{Term, lit, col, eval_all, holds}
use Rattle.sqlite.specs.Command.TheVariants.{Update}
use Rattle.sqlite.specs.Effect.{Answers}
use Rattle.sqlite.specs.Listing.{understood}
use Rattle.sqlite.specs.State.{State, HasCleanDisk, Survives, ExecutesInside}
use Rattle.sqlite.specs.Tree.{Trees, has_rowid}
use Rattle.sqlite.proofs.Callers.{IsPlain, command_of, one_permutation}
use Rattle.sqlite_catalog.specs.Listing.{IsSound}
use Rattle.sqlite_tied.specs.Compute.{everything}
use Rattle.sqlite_rules.specs.Lists.{Has}
use Rattle.sqlite_keyed.proofs.ListLemmas.{filter_same}
use Rattle.sqlite_schema.specs.declared.program.Program.{Program}
use Rattle.sqlite_trees.specs.View.{IsShaped}
use Rattle.sqlite_trees.specs.declared.store.Shape.TheVariants.{Table}
use Rattle.up_tables.proofs.RefusalLemmas.{Writes}
use Rattle.up_tables.specs.Texts.{replace_ecu_text}
use Rattle.up_tables.specs.Tables.{up_schema, ecu_table}
use Rattle.up_tables.specs.Rows.{has_text, rows_with}
use Rattle.up_tables.specs.Lines.{EcuLine, ecu_row}
use Rattle.up_tables.proofs.Parts.{IsKept}
use Rattle.up_tables.specs.Replaced.{replaced_line, with_replaced}
use Rattle.up_tables.specs.Stands.{Lists, IfClean, IsInside, Alters, HasTables}
use Rattle.up_tables.proofs.AnswerLemmas.{over, answer_is, shows_passing, equals_text}
use Rattle.up_tables.proofs.Casts.{cast_int, cast_null}
use Rattle.up_tables.proofs.EcuUpdate.{equals, casts}
use Rattle.up_tables.proofs.EcuSteps.{row_in, keyed_id, passes_alike, tests_alike}
use Rattle.up_tables.proofs.EcuRows.{text_is, own_text, swapped_parts, swapped_shaped}
use Rattle.up_tables.proofs.PlaceLemmas.{only}
use Rattle.up_tables.proofs.RunLemmas.{IsRun, run_in, then_ok, run_alters, idle}
use Rattle.up_tables.proofs.UpdateLemmas.{updates_row}

abbrev shown : List Term
shown = col 1 0 ∷ col 1 0 ∷ col 0 0 ∷ col 1 2 ∷ col 1 3 ∷ col 0 1 ∷ col 0 2 ∷ lit Null ∷ lit Null ∷ lit Null ∷ lit (Int (pos 0)) ∷ lit Null ∷ []

abbrev program : Program
program = record { lets = []; body = over 11 (equals 1 3 ∷ []) shown [] }

replace_is : (command_of (understood up_schema replace_ecu_text) ≡ Update 6 program) × IsPlain (understood up_schema replace_ecu_text)
unfolding understood everything
replace_is = (refl, (refl, refl))

abbrev pub given : List ℕ → List ℕ → List ℕ → List ℕ → Row
given ecu hardware public_key old = Text ecu ∷ Text hardware ∷ Blob public_key ∷ Text old ∷ []

kept : (ecu hardware public_key : List ℕ) (was : EcuLine) → IsKept (replaced_line ecu hardware public_key was)
kept ecu hardware public_key was = record { file = refl; size = cast_null; hash = refl; report = refl }

-- the query of the update answers the row of the old ECU with the new one's values
update_rows : (db : Trees) (ecu hardware public_key : List ℕ) (was : EcuLine) (id : ℤ) (rows : List Row) → IsSound up_schema db → IsShaped Table (db 11) → Has (db 11) (Int id ∷ ecu_row was)
    → Answers (record { schema = up_schema; trees = db }) program (given ecu hardware public_key was.ecu) rows → rows ≡ (Int id ∷ Int id ∷ ecu_row (replaced_line ecu hardware public_key was)) ∷ []
update_rows db ecu hardware public_key was id rows sound shaped there h =
    let params = given ecu hardware public_key was.ecu in
    let same = shows_passing (equals 1 3 ∷ []) shown params (db 11) rows (answer_is (Rattle.sqlite.specs.Program.overlay db []) 11 (equals 1 3 ∷ []) shown [] params rows (h.answer Null)) in
    let tests : (r : Row) → list_all (holds (params ∷ r ∷ [])) (equals 1 3 ∷ []) ≡ has_text 1 was.ecu r = λ r. and-true _ ∙ equals_text (column r 1) was.ecu in
    let one : filter (λ r. list_all (holds (params ∷ r ∷ [])) (equals 1 3 ∷ [])) (db 11) ≡ (Int id ∷ ecu_row was) ∷ [] =
    filter_same _ _ tests (db 11) ∙ passes_alike (has_text 1 was.ecu) (has_rowid id) (db 11) (tests_alike db was id sound shaped there) ∙ only id (Int id ∷ ecu_row was) (db 11) refl shaped.0 there in
    one_permutation _ rows (subst (λ xs. IsPermutation xs rows) (ap (map (λ r. eval_all shown (params ∷ r ∷ []))) one) same)

-- in a transaction: the new ECU's row stands in place of the old one's, under the same rowid
pub replaces_in : (r : Result ℕ Error) (old new : State) (ecu hardware public_key key : List ℕ) → Survives old new (λ _. ⊥) → IfClean IsInside old
    → (HasCleanDisk new → IsTrue old.in_transaction → ExecutesInside 0 replace_ecu_text (given ecu hardware public_key key) old new r)
    → HasCleanDisk new → OnOk r ((rows_of : List ℕ → List Row) (was : EcuLine) → HasTables old → Lists 2 rows_of (old.now.trees ecu_table.tree) → Has (rows_of was.vehicle) (ecu_row was) → was.ecu ≡ key
    → Alters ecu_table (Lists 2 (with_replaced was (replaced_line ecu hardware public_key was) rows_of)) old new)
replaces_in r old new ecu hardware public_key key survives inside ran clean = then_ok r replaces (run_in replace_ecu_text (given ecu hardware public_key key) old new r survives inside ran clean)
  where
    replaces : IsRun replace_ecu_text (given ecu hardware public_key key) old new → (rows_of : List ℕ → List Row) (was : EcuLine) → HasTables old → Lists 2 rows_of (old.now.trees ecu_table.tree) → Has (rows_of was.vehicle) (ecu_row was) → was.ecu ≡ key
        → Alters ecu_table (Lists 2 (with_replaced was (replaced_line ecu hardware public_key was) rows_of)) old new
    replaces run rows_of was has lists there named =
        let db = old.now.trees in
        let rows = db 11 in
        let here = has run.was_open in
        let row = ecu_row (replaced_line ecu hardware public_key was) in
        let params = given ecu hardware public_key key in
        let sound : IsSound up_schema db = subst (λ s. IsSound s db) here.schema_is here.sound in
        let it = row_in 2 was.vehicle rows (ecu_row was) lists.shaped (subst (λ xs. Has xs (ecu_row was)) (sym (lists.parts was.vehicle)) there) in
        let done = updates_row up_schema replace_ecu_text 6 ecu_table program params replace_is.0 replace_is.1 refl (idle 11) old new run.count it.0 row here.schema_is (casts (Int it.0) (replaced_line ecu hardware public_key was) (kept ecu hardware public_key was) (cast_int it.0))
        (λ shown_rows h. update_rows db ecu hardware public_key was it.0 shown_rows sound lists.shaped it.1 (subst (λ k. Answers (record { schema = up_schema; trees = db }) program (given ecu hardware public_key k) shown_rows) (sym named) h)) run.went in
        let group : has_text 2 was.vehicle (Int it.0 ∷ ecu_row was) ≡ true = text_is was.vehicle was.vehicle ∙ own_text was.vehicle in
        let same : (n : List ℕ) → has_text 2 n (Int it.0 ∷ row) ≡ has_text 2 n (Int it.0 ∷ ecu_row was) = λ n. refl in
        let out : (n : List ℕ) → bytes_eq was.vehicle n ≡ false → has_text 2 n (Int it.0 ∷ ecu_row was) ≡ false = λ n other. text_is was.vehicle n ∙ other in
        let keyed : has_text 1 was.ecu (Int it.0 ∷ ecu_row was) ≡ true = text_is was.ecu was.ecu ∙ own_text was.ecu in
        let one : (x : Row) → Has rows x → has_text 1 was.ecu x ≡ true → has_rowid it.0 x ≡ true = λ x at hit. keyed_id db was it.0 x sound lists.shaped it.1 at hit in
        let now : Lists 2 (with_replaced was (replaced_line ecu hardware public_key was) rows_of) (new.now.trees ecu_table.tree) = record {
          shaped = subst (IsShaped Table) (sym done.rows) (swapped_shaped 2 it.0 was.ecu was.vehicle (ecu_row was) row rows lists.shaped it.1 group same out keyed one);
          parts = λ n. ap (rows_with 2 n) done.rows ∙ swapped_parts 2 it.0 was.ecu was.vehicle (ecu_row was) row rows lists.shaped it.1 group same out keyed one rows_of lists.parts n;
        } in
        run_alters replace_ecu_text params ecu_table _ old new run done.schema_is done.sound now done.others

-- ---- faults of the write

pub replace_writes : (ecu hardware public_key old : List ℕ) → Writes replace_ecu_text (given ecu hardware public_key old) (Update 6 program)
unfolding understood everything
replace_writes ecu hardware public_key old = record { row = refl; is = replace_is.0; plain = replace_is.1; writes = refl; whole = refl; count = refl }
