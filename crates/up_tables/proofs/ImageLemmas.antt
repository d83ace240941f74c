-- The statements on images.
use Rattle.std.proofs.Common.{◌≡◌, ℕ, pos, List, [], ◌∷◌, true, length, refl, sym, codes, append-nil, inl, inr}
use Rattle.sqlite.specs.declared.types.Value.TheVariants.{Text}
use Rattle.sqlite.specs.Order.{Row}
use Rattle.sqlite.specs.Listing.{understood}
use Rattle.sqlite_tied.specs.Compute.{everything}
use Rattle.up_tables.specs.Texts.{insert_image_text, find_image_text, all_images_text}
use Rattle.up_tables.specs.Tables.{image_table}
use Rattle.up_tables.specs.Rows.{columns_at, has_text}
use Rattle.up_tables.specs.Forms.{image_row, image_places}
use Rattle.up_tables.specs.declared.image.ImageRow.{ImageRow}
use Rattle.up_tables.proofs.AnswerLemmas.{all_columns}
use Rattle.up_tables.proofs.ByNameLemmas.{filter_true}
use Rattle.up_tables.proofs.Casts.{cast_int, cast_null}
use Rattle.up_tables.proofs.EcuRows.{text_is, column_after}
use Rattle.up_tables.proofs.EcuUpdate.{equals}
use Rattle.up_tables.proofs.StoredLemmas.{IsInsertOf, IsListingOf, IsQueryOf, named_its, named_meets}
use Rattle.up_tables.proofs.TypedLemmas.{first_texts}

-- ---- put in

pub image_put : (i : ImageRow) → IsInsertOf insert_image_text image_table 1 i.file.now (image_row i) 3 7
unfolding understood everything
image_put i = record {
  writes = record { row = refl; is = refl; plain = (refl, refl); writes = refl; whole = refl; count = refl };
  there = refl;
  uncounted = refl;
  unstamped = append-nil _;
  values = refl;
  casts = rw (cast_null, cast_int (pos i.length), cast_int (pos i.release_count)) refl;
  named = λ x n. text_is i.file.now n;
}

-- ---- read

abbrev part : Row → Row
part = columns_at image_places

abbrev names : List (List ℕ)
names = codes "file" ∷ codes "length" ∷ codes "sha256" ∷ codes "hardware" ∷ codes "release_count" ∷ codes "needs" ∷ codes "conflicts" ∷ []

shows : (params r : Row) → Rattle.sqlite.specs.Term.eval_all (all_columns 7) (params ∷ r ∷ []) ≡ part (Rattle.std.proofs.Common.drop 1 r)
shows params r = rw (column_after r 0, column_after r 1, column_after r 2, column_after r 3, column_after r 4, column_after r 5, column_after r 6) refl

pub image_found : (name : List ℕ) → IsQueryOf find_image_text (Text name ∷ []) image_table 1 (λ rows_of. rows_of name) part (equals 1 0 ∷ []) 7 names (has_text 0 name)
unfolding understood everything
image_found name = record {
  asks = (refl, refl, (refl, refl), refl);
  takes = (refl, refl, λ trees h. absurd (let e = h in cc));
  base = λ db. refl;
  meets = named_meets 0 name;
  shows = shows (Text name ∷ []);
  whole = λ r. refl;
  its = named_its 0 name;
}

pub images_listed : IsListingOf all_images_text image_table (λ rows. rows) part [] 7 names (λ _. true)
unfolding understood everything
images_listed = record {
  asks = (refl, refl, (refl, refl), refl);
  takes = (refl, refl, λ trees h. absurd (let e = h in cc));
  base = λ db. refl;
  meets = λ r. refl;
  shows = shows [];
  whole = λ r. refl;
  keeps = λ r n. refl;
  texts = λ db sound. first_texts image_table (inr (inr (inr (inl refl)))) refl db sound (codes "file") _ refl;
  its = λ rows. sym (filter_true rows);
}
