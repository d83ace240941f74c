-- What the update that closes a campaign does.
use Rattle.std.proofs.Common.{◌≡◌, inl, ℕ, ℤ, pos, List, [], ◌∷◌, map, filter, Result, OnOk, IsTrue, refl, sym, ap, subst, ◌∙◌}
use Rattle.std.specs.List.{list_all}
use Rattle.std.specs.List.Sorted.{IsPermutation}
use Rattle.sqlite.specs.declared.types.Value.TheVariants.{Null, Int, Text}
use Rattle.sqlite.specs.declared.error.Error.{Error}
use Rattle.sqlite.specs.Order.{Row, column}
use Rattle.sqlite.specs.Term.{Term, lit, col, eval_all, holds}
use Rattle.sqlite.specs.Cast.{cast_row}
use Rattle.sqlite.specs.Command.TheVariants.{Update}
use Rattle.sqlite.specs.Effect.{Answers}
use Rattle.sqlite.specs.Listing.{understood}
use Rattle.sqlite.specs.State.{State, HasCleanDisk, Survives, ExecutesInside}
use Rattle.sqlite.specs.Tree.{Trees}
use Rattle.sqlite.proofs.Callers.{IsPlain, command_of, one_permutation}
use Rattle.sqlite_tied.specs.Compute.{everything}
use Rattle.sqlite_rules.specs.Lists.{Has}
use Rattle.sqlite_rules.proofs.ListLemmas.{has_kept}
use Rattle.sqlite_keyed.proofs.ListLemmas.{filter_same}
use Rattle.std.proofs.Math.Bool.{and-true}
use Rattle.sqlite_schema.specs.declared.program.Program.{Program}
use Rattle.sqlite_trees.specs.View.{IsShaped}
use Rattle.sqlite_trees.specs.declared.store.Shape.TheVariants.{Table}
use Rattle.up_tables.proofs.RefusalLemmas.{Writes}
use Rattle.up_tables.specs.Texts.{close_campaign_text}
use Rattle.up_tables.specs.Tables.{up_schema, campaign_table}
use Rattle.up_tables.specs.Rows.{rows_with, has_text, with_only}
use Rattle.up_tables.specs.Lines.{campaign_line}
use Rattle.up_tables.specs.Stands.{Lists, IfClean, IsInside, Alters, HasTables}
use Rattle.up_tables.proofs.AnswerLemmas.{over, answer_is, shows_passing, equals_text}
use Rattle.up_tables.proofs.Casts.{cast_int}
use Rattle.up_tables.proofs.EcuUpdate.{equals}
use Rattle.up_tables.proofs.EcuSteps.{row_in}
use Rattle.up_tables.proofs.EcuRows.{text_is, own_text}
use Rattle.up_tables.proofs.OnlyLemmas.{alone, rewritten_shaped, rewritten_parts}
use Rattle.up_tables.proofs.RunLemmas.{IsRun, run_in, then_ok, run_alters, idle}
use Rattle.up_tables.proofs.UpdateLemmas.{updates_row}

abbrev shown : List Term
shown = col 1 0 ∷ col 1 0 ∷ col 1 1 ∷ col 1 2 ∷ col 1 3 ∷ lit (Int (pos 0)) ∷ []

abbrev program : Program
program = record { lets = []; body = over 7 (equals 1 0 ∷ []) shown [] }

close_is : (command_of (understood up_schema close_campaign_text) ≡ Update 4 program) × IsPlain (understood up_schema close_campaign_text)
unfolding understood everything
close_is = (refl, (refl, refl))

casts : (id : ℤ) (name reach items : List ℕ) (running : ℤ) → cast_row campaign_table (Int id ∷ campaign_line name reach items running) ≡ Int id ∷ campaign_line name reach items running
casts id name reach items running = rw (cast_int id, cast_int running) refl

-- the query of the update answers the row of the name, which doesn't run then
update_rows : (db : Trees) (name reach items : List ℕ) (running id : ℤ) (rows : List Row) → rows_with 1 name (db 7) ≡ campaign_line name reach items running ∷ [] → Has (db 7) (Int id ∷ campaign_line name reach items running)
    → Answers (record { schema = up_schema; trees = db }) program (Text name ∷ []) rows → rows ≡ (Int id ∷ Int id ∷ campaign_line name reach items (pos 0)) ∷ []
update_rows db name reach items running id rows listed there h =
    let given = Text name ∷ [] in
    let was = campaign_line name reach items running in
    let same = shows_passing (equals 1 0 ∷ []) shown given (db 7) rows (answer_is (Rattle.sqlite.specs.Program.overlay db []) 7 (equals 1 0 ∷ []) shown [] given rows (h.answer Null)) in
    let tests : (r : Row) → list_all (holds (given ∷ r ∷ [])) (equals 1 0 ∷ []) ≡ has_text 1 name r = λ r. and-true _ ∙ equals_text (column r 1) name in
    let only : filter (has_text 1 name) (db 7) ≡ (Int id ∷ was) ∷ [] = alone was id (filter (has_text 1 name) (db 7)) listed (has_kept (has_text 1 name) (db 7) (Int id ∷ was) there (text_is name name ∙ own_text name)) in
    let one : filter (λ r. list_all (holds (given ∷ r ∷ [])) (equals 1 0 ∷ [])) (db 7) ≡ (Int id ∷ was) ∷ [] = filter_same _ _ tests (db 7) ∙ only in
    one_permutation _ rows (subst (λ xs. IsPermutation xs rows) (ap (map (λ r. eval_all shown (given ∷ r ∷ []))) one) same)

-- in a transaction: the row of a campaign that is listed says that it doesn't run
pub closes_in : (r : Result ℕ Error) (old new : State) (name : List ℕ) → Survives old new (λ _. ⊥) → IfClean IsInside old
    → (HasCleanDisk new → IsTrue old.in_transaction → ExecutesInside 0 close_campaign_text (Text name ∷ []) old new r)
    → HasCleanDisk new → OnOk r ((rows_of : List ℕ → List Row) (reach items : List ℕ) (running : ℤ) → HasTables old → Lists 1 rows_of (old.now.trees campaign_table.tree) → rows_of name ≡ campaign_line name reach items running ∷ []
    → Alters campaign_table (Lists 1 (with_only name (campaign_line name reach items (pos 0)) rows_of)) old new)
closes_in r old new name survives inside ran clean = then_ok r closes (run_in close_campaign_text (Text name ∷ []) old new r survives inside ran clean)
  where
    closes : IsRun close_campaign_text (Text name ∷ []) old new → (rows_of : List ℕ → List Row) (reach items : List ℕ) (running : ℤ) → HasTables old → Lists 1 rows_of (old.now.trees campaign_table.tree) → rows_of name ≡ campaign_line name reach items running ∷ []
        → Alters campaign_table (Lists 1 (with_only name (campaign_line name reach items (pos 0)) rows_of)) old new
    closes run rows_of reach items running has lists is =
        let rows = old.now.trees campaign_table.tree in
        let was = campaign_line name reach items running in
        let row = campaign_line name reach items (pos 0) in
        let listed = lists.parts name ∙ is in
        let it = row_in 1 name rows was lists.shaped (subst (λ xs. Has xs was) (sym listed) (inl refl)) in
        let done = updates_row up_schema close_campaign_text 4 campaign_table program (Text name ∷ []) close_is.0 close_is.1 refl (idle 7) old new run.count it.0 row (has run.was_open).schema_is (casts it.0 name reach items (pos 0))
        (λ rows. update_rows old.now.trees name reach items running it.0 rows listed it.1) run.went in
        let now : Lists 1 (with_only name row rows_of) (new.now.trees campaign_table.tree) = record {
          shaped = subst (IsShaped Table) (sym done.rows) (rewritten_shaped it.0 was row rows lists.shaped it.1);
          parts = λ n. ap (rows_with 1 n) done.rows ∙ rewritten_parts it.0 was row rows lists.shaped it.1 1 name rows_of (λ n. text_is name n) (λ n. text_is name n) lists.parts is n;
        } in
        run_alters close_campaign_text (Text name ∷ []) campaign_table _ old new run done.schema_is done.sound now done.others

-- ---- faults of the write

pub close_writes : (name : List ℕ) → Writes close_campaign_text (Text name ∷ []) (Update 4 program)
unfolding understood everything
close_writes name = record { row = refl; is = close_is.0; plain = close_is.1; writes = refl; whole = refl; count = refl }
