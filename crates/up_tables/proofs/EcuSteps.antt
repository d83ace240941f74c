-- What the update of an ECU's row does.
use Rattle.std.proofs.Common.{◌≡◌, ℕ, ℤ, List, [], ◌∷◌, map, filter, drop, Ok, true, refl, sym, ap, subst, ◌∙◌, Bool, false}
use Rattle.std.specs.List.{AllByRecursion, list_all}
use Rattle.std.specs.List.Sorted.{IsPermutation}
use Rattle.sqlite.specs.declared.types.Value.TheVariants.{Null, Int, Text, Real, Blob}
use Rattle.sqlite.specs.Order.{Row, column}
use Rattle.sqlite.specs.Term.{eval_all, holds}
use Rattle.sqlite.specs.Effect.{Answers, IsDatabase}
use Rattle.sqlite.specs.State.{State, Executes}
use Rattle.sqlite.specs.Tree.{Trees, has_rowid, rowid}
use Rattle.sqlite.proofs.Callers.{one_permutation}
use Rattle.sqlite_catalog.specs.Listing.{IsSound}
use Rattle.sqlite_rules.specs.Lists.{Has}
use Rattle.sqlite_rules.proofs.ListLemmas.{all_has, has_filtered, all_from}
use Rattle.sqlite_rules.proofs.ProbeLemmas.{has_mapped}
use Rattle.sqlite_keyed.proofs.ListLemmas.{filter_same}
use Rattle.std.proofs.Math.Bool.{and-true}
use Rattle.sqlite_trees.specs.View.{IsShaped, is_int}
use Rattle.sqlite_trees.specs.declared.store.Shape.TheVariants.{Table}
use Rattle.up_tables.specs.Tables.{up_schema, ecu_table}
use Rattle.up_tables.specs.Texts.{update_ecu_text}
use Rattle.up_tables.specs.Rows.{rows_with, has_text}
use Rattle.up_tables.specs.Lines.{EcuLine, ecu_row, IsSameEcu}
use Rattle.up_tables.proofs.Parts.{IsKept, Rewrites}
use Rattle.up_tables.proofs.AnswerLemmas.{answer_is, shows_passing, equals_text}
use Rattle.up_tables.proofs.Casts.{cast_int}
use Rattle.up_tables.proofs.KeyLemmas.{one_key}
use Rattle.up_tables.proofs.PlaceLemmas.{only, unique}
use Rattle.up_tables.proofs.RunLemmas.{idle}
use Rattle.up_tables.proofs.EcuUpdate.{equals, casts, shown, program, update_is}
use Rattle.up_tables.proofs.EcuRows.{differs, text_is, own_text}
use Rattle.up_tables.proofs.UpdateLemmas.{updates_row}

pub with_id : (it row : Row) → is_int (rowid it) ≡ true → drop 1 it ≡ row → (id : ℤ) × (it ≡ Int id ∷ row)
with_id [] row int is = absurd (let e = int in cc)
with_id (Null ∷ more) row int is = absurd (let e = int in cc)
with_id (Int n ∷ more) row int is = (n, ap (λ xs. Int n ∷ xs) is)
with_id (Real x ∷ more) row int is = absurd (let e = int in cc)
with_id (Text t ∷ more) row int is = absurd (let e = int in cc)
with_id (Blob b ∷ more) row int is = absurd (let e = int in cc)

-- a row of a part of the table, with its rowid
pub row_in : (at : ℕ) (name : List ℕ) (rows : List Row) (row : Row) → IsShaped Table rows → Has (rows_with at name rows) row → (id : ℤ) × Has rows (Int id ∷ row)
row_in at name rows row shaped there =
    let y = has_mapped (drop 1) (filter (has_text at name) rows) row there in
    let z = has_filtered (has_text at name) rows y.0 y.1 in
    let it = with_id y.0 row (all_has (λ r. is_int (rowid r) ≡ true) rows y.0 shaped.1 z.0) (sym y.2) in
    (it.0, subst (Has rows) it.1 z.0)

-- the row with the key has that rowid
pub keyed_id : (db : Trees) (old : EcuLine) (id : ℤ) (x : Row) → IsSound up_schema db → IsShaped Table (db 11) → Has (db 11) (Int id ∷ ecu_row old) → Has (db 11) x → has_text 1 old.ecu x ≡ true → has_rowid id x ≡ true
keyed_id db old id x sound shaped there here hit =
    differs (rowid x) id (all_has (λ r. is_int (rowid r) ≡ true) (db 11) x shaped.1 here) (one_key db x _ id old.ecu sound here there hit)

-- two tests that agree on the rows pass the same ones
pub passes_alike : (p q : Row → Bool) (rows : List Row) → AllByRecursion (λ r. p r ≡ q r) rows → filter p rows ≡ filter q rows
passes_alike p q [] all = refl
passes_alike p q (r ∷ rows) all = let rest = passes_alike p q rows all.1 in rw (all.0, rest) refl

-- the row with the name has that rowid, and no other has it
pub tests_alike : (db : Trees) (was : EcuLine) (id : ℤ) → IsSound up_schema db → IsShaped Table (db 11) → Has (db 11) (Int id ∷ ecu_row was) → AllByRecursion (λ x. has_text 1 was.ecu x ≡ has_rowid id x) (db 11)
tests_alike db was id sound shaped there = all_from (λ x. has_text 1 was.ecu x ≡ has_rowid id x) (db 11) (λ x h. go x h (has_text 1 was.ecu x) (has_rowid id x) refl refl)
  where
    its : AllByRecursion (λ x. has_rowid id x ≡ true → x ≡ Int id ∷ ecu_row was) (db 11)
    its = unique id (Int id ∷ ecu_row was) (db 11) refl shaped.0 there

    go : (x : Row) → Has (db 11) x → (a b : Bool) → has_text 1 was.ecu x ≡ a → has_rowid id x ≡ b → has_text 1 was.ecu x ≡ has_rowid id x
    go x h true true p q = p ∙ sym q
    go x h false false p q = p ∙ sym q
    go x h true false p q = absurd (let e = sym (keyed_id db was id x sound shaped there h p) ∙ q in cc)
    go x h false true p q = absurd (let e = sym p ∙ ap (has_text 1 was.ecu) (all_has (λ y. has_rowid id y ≡ true → y ≡ Int id ∷ ecu_row was) (db 11) x its h q) ∙ text_is was.ecu was.ecu ∙ own_text was.ecu in cc)

-- the query of the update shows the row with what is reported now
update_rows : (db : Trees) (was e : EcuLine) (id : ℤ) (rows : List Row) → IsSound up_schema db → IsShaped Table (db 11) → IsSameEcu was e → Has (db 11) (Int id ∷ ecu_row was)
    → Answers (record { schema = up_schema; trees = db }) program (ecu_row e) rows → rows ≡ (Int id ∷ Int id ∷ ecu_row e) ∷ []
update_rows db was e id rows sound shaped alike there h =
    let params = ecu_row e in
    let same = shows_passing (equals 1 0 ∷ []) shown params (db 11) rows (answer_is (Rattle.sqlite.specs.Program.overlay db []) 11 (equals 1 0 ∷ []) shown [] params rows (h.answer Null)) in
    let tests : (r : Row) → list_all (holds (params ∷ r ∷ [])) (equals 1 0 ∷ []) ≡ has_text 1 was.ecu r = λ r. and-true _ ∙ equals_text (column r 1) e.ecu ∙ ap (λ n. has_text 1 n r) (sym alike.ecu) in
    let one : filter (λ r. list_all (holds (params ∷ r ∷ [])) (equals 1 0 ∷ [])) (db 11) ≡ (Int id ∷ ecu_row was) ∷ [] =
    filter_same _ _ tests (db 11) ∙ passes_alike (has_text 1 was.ecu) (has_rowid id) (db 11) (tests_alike db was id sound shaped there) ∙ only id (Int id ∷ ecu_row was) (db 11) refl shaped.0 there in
    one_permutation _ rows (subst (λ xs. IsPermutation xs rows) (ap (map (λ r. eval_all shown (params ∷ r ∷ []))) one ∙ rw (alike.ecu, alike.vehicle, alike.place, alike.hardware, alike.public_key) refl) same)

pub updates_ecu : (old new : State) (was e : EcuLine) (id : ℤ) (count : ℕ) → old.now.schema ≡ up_schema → IsDatabase old.now → IsShaped Table (old.now.trees ecu_table.tree) → IsKept e → IsSameEcu was e
    → Has (old.now.trees ecu_table.tree) (Int id ∷ ecu_row was) → Executes update_ecu_text (ecu_row e) old new (Ok count) → Rewrites up_schema ecu_table id (ecu_row e) old.now new.now
updates_ecu old new was e id count has sound shaped kept alike there h =
    updates_row up_schema update_ecu_text 6 ecu_table program (ecu_row e) update_is.0 update_is.1 refl (idle 11) old new count id (ecu_row e) has (casts (Int id) e kept (cast_int id))
    (λ rows. update_rows old.now.trees was e id rows (subst (λ s. IsSound s old.now.trees) has sound) shaped alike there) h
