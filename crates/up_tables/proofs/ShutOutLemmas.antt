-- The statements on vehicles that were shut out.
use Rattle.std.proofs.Common.{◌≡◌, List, [], ◌∷◌, ℕ, refl, codes, append-nil}
use Rattle.sqlite.specs.declared.types.Value.TheVariants.{Text}
use Rattle.sqlite.specs.Order.{Row}
use Rattle.sqlite.specs.Listing.{understood}
use Rattle.sqlite_tied.specs.Compute.{everything}
use Rattle.up_tables.specs.Texts.{insert_retired_vehicle_text, find_retired_vehicle_text}
use Rattle.up_tables.specs.Tables.{retired_vehicle_table}
use Rattle.up_tables.specs.Rows.{columns_at, has_text}
use Rattle.up_tables.specs.Lines.{retired_vehicle_line}
use Rattle.up_tables.proofs.AnswerLemmas.{all_columns}
use Rattle.up_tables.proofs.Casts.{cast_null}
use Rattle.up_tables.proofs.EcuRows.{text_is, column_after}
use Rattle.up_tables.proofs.EcuUpdate.{equals}
use Rattle.up_tables.proofs.StoredLemmas.{IsInsertOf, IsQueryOf, named_its, named_meets}

pub shut_out_put : (vehicle : List ℕ) → IsInsertOf insert_retired_vehicle_text retired_vehicle_table 1 vehicle (retired_vehicle_line vehicle) 11 1
unfolding understood everything
shut_out_put vehicle = record {
  writes = record { row = refl; is = refl; plain = (refl, refl); writes = refl; whole = refl; count = refl };
  there = refl;
  uncounted = refl;
  unstamped = append-nil _;
  values = refl;
  casts = rw cast_null refl;
  named = λ x n. text_is vehicle n;
}

abbrev part : Row → Row
part = columns_at (0 ∷ [])

shows : (params r : Row) → Rattle.sqlite.specs.Term.eval_all (all_columns 1) (params ∷ r ∷ []) ≡ part (Rattle.std.proofs.Common.drop 1 r)
shows params r = rw (column_after r 0) refl

pub shut_out_found : (name : List ℕ) → IsQueryOf find_retired_vehicle_text (Text name ∷ []) retired_vehicle_table 1 (λ rows_of. rows_of name) part (equals 1 0 ∷ []) 1 (codes "vehicle" ∷ []) (has_text 0 name)
unfolding understood everything
shut_out_found name = record {
  asks = (refl, refl, (refl, refl), refl);
  takes = (refl, refl, λ trees h. absurd (let e = h in cc));
  base = λ db. refl;
  meets = named_meets 0 name;
  shows = shows (Text name ∷ []);
  whole = λ r. refl;
  its = named_its 0 name;
}
