-- The statements on kept manifests.
use Rattle.std.proofs.Common.{◌≡◌, ℕ, pos, List, [], ◌∷◌, filter, Bool, ◌&&◌, refl, sym, ap, ◌∙◌, codes, append-nil, drop}
use Rattle.std.specs.Ordering.{is_eq}
use Rattle.std.proofs.Math.Bool.{and-true}
use Rattle.sqlite.specs.declared.types.Value.TheVariants.{Null, Int, Text}
use Rattle.sqlite.specs.Order.{Row, column, value_cmp}
use Rattle.sqlite.specs.Cast.{cast_row}
use Rattle.sqlite.specs.Listing.{understood}
use Rattle.sqlite_tied.specs.Compute.{everything}
use Rattle.up_tables.specs.Texts.{insert_kept_text, find_kept_text}
use Rattle.up_tables.specs.Rows.{bare, columns_at, has_text, has_number}
use Rattle.up_tables.specs.Stands.{Lists}
use Rattle.up_tables.proofs.AnswerLemmas.{equals_text, equals_int}
use Rattle.up_tables.proofs.Casts.{cast_int, cast_null}
use Rattle.up_tables.proofs.EcuRows.{text_is, column_after}
use Rattle.up_tables.proofs.EcuUpdate.{equals}
use Rattle.up_tables.proofs.StoredLemmas.{IsInsertOf, IsQueryOf}
use Rattle.up_tables.specs.Tables.{kept_table}
use Rattle.up_tables.specs.Forms.{kept_row, kept_places}
use Rattle.up_tables.specs.declared.kept.KeptRow.{KeptRow}
use Rattle.up_tables.proofs.ReadLemmas.{bare_filter, filter_both}

-- ---- put in

casts : (k : KeptRow) → cast_row kept_table (Null ∷ kept_row k) ≡ Null ∷ kept_row k
casts k = rw (cast_null, cast_int (pos k.counter), cast_int (pos k.version), cast_int (pos k.moment), cast_int (pos k.root)) refl

pub kept_put : (k : KeptRow) → IsInsertOf insert_kept_text kept_table 1 k.vehicle.now (kept_row k) 7 8
unfolding understood everything
kept_put k = record {
  writes = record { row = refl; is = refl; plain = (refl, refl); writes = refl; whole = refl; count = refl };
  there = refl;
  uncounted = refl;
  unstamped = append-nil _;
  values = refl;
  casts = casts k;
  named = λ x n. text_is k.vehicle.now n;
}

-- ---- read

abbrev part : Row → Row
part = columns_at kept_places

abbrev names : List (List ℕ)
names = codes "vehicle" ∷ codes "counter" ∷ codes "version" ∷ codes "moment" ∷ codes "root" ∷ codes "signed" ∷ codes "plan_text" ∷ codes "reply" ∷ []

abbrev its : List ℕ → ℕ → Row → Bool
its vehicle counter x = has_text 0 vehicle x && has_number 1 (pos counter) x

its_rows : (vehicle : List ℕ) (counter : ℕ) (rows_of : List ℕ → List Row) (rows : List Row) → Lists 1 rows_of rows → filter (has_number 1 (pos counter)) (rows_of vehicle) ≡ filter (its vehicle counter) (bare rows)
its_rows vehicle counter rows_of rows lists =
    let test : (x : Row) → has_text 1 vehicle x ≡ has_text 0 vehicle (drop 1 x) = λ x. ap (λ v. is_eq (value_cmp v (Text vehicle))) (column_after x 0) in
    ap (filter (has_number 1 (pos counter))) (sym (lists.parts vehicle) ∙ bare_filter (has_text 1 vehicle) (has_text 0 vehicle) test rows) ∙ sym (filter_both (has_text 0 vehicle) (has_number 1 (pos counter)) (bare rows))

pub kept_found : (vehicle : List ℕ) (counter : ℕ) → IsQueryOf find_kept_text (Text vehicle ∷ Int (pos counter) ∷ []) kept_table 1 (λ rows_of. filter (has_number 1 (pos counter)) (rows_of vehicle)) part (equals 1 0 ∷ equals 2 1 ∷ []) 8 names (its vehicle counter)
unfolding understood everything
kept_found vehicle counter = record {
  asks = (refl, refl, (refl, refl), refl);
  takes = (refl, refl, λ trees h. absurd (let e = h in cc));
  base = λ db. refl;
  meets = λ x. rw (equals_text (column x 1) vehicle, equals_int (column x 2) (pos counter), column_after x 0, column_after x 1) (ap (λ b. has_text 0 vehicle (drop 1 x) && b) (and-true _));
  shows = λ x. rw (column_after x 0, column_after x 1, column_after x 2, column_after x 3, column_after x 4, column_after x 5, column_after x 6, column_after x 7) refl;
  whole = λ r. refl;
  its = its_rows vehicle counter;
}
