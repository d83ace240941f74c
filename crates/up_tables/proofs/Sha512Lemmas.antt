-- The statements on second hashes of images.
use Rattle.std.proofs.Common.{◌≡◌, ℕ, List, [], ◌∷◌, true, refl, sym, codes, append-nil, inl, inr}
use Rattle.sqlite.specs.declared.types.Value.TheVariants.{Text}
use Rattle.sqlite.specs.Order.{Row}
use Rattle.sqlite.specs.Term.{Term}
use Rattle.sqlite.specs.Listing.{understood}
use Rattle.sqlite_tied.specs.Compute.{everything}
use Rattle.up_tables.specs.Texts.{insert_sha512_text, find_sha512_text, all_sha512s_text}
use Rattle.up_tables.specs.Tables.{image_sha512_table}
use Rattle.up_tables.specs.Rows.{columns_at, has_text}
use Rattle.up_tables.specs.Lines.{sha512_line}
use Rattle.up_tables.specs.Forms.{sha512_places}
use Rattle.up_tables.proofs.AnswerLemmas.{all_columns}
use Rattle.up_tables.proofs.ByNameLemmas.{filter_true}
use Rattle.up_tables.proofs.Casts.{cast_null}
use Rattle.up_tables.proofs.EcuRows.{text_is, column_after}
use Rattle.up_tables.proofs.EcuUpdate.{equals}
use Rattle.up_tables.proofs.StoredLemmas.{IsInsertOf, IsListingOf, IsQueryOf, named_its, named_meets}
use Rattle.up_tables.proofs.TypedLemmas.{first_texts}

-- ---- put in

pub sha512_put : (file sha512 : List ℕ) → IsInsertOf insert_sha512_text image_sha512_table 1 file (sha512_line file sha512) 9 2
unfolding understood everything
sha512_put file sha512 = record {
  writes = record { row = refl; is = refl; plain = (refl, refl); writes = refl; whole = refl; count = refl };
  there = refl;
  uncounted = refl;
  unstamped = append-nil _;
  values = refl;
  casts = rw cast_null refl;
  named = λ x n. text_is file n;
}

-- ---- read

abbrev part : Row → Row
part = columns_at sha512_places

abbrev names : List (List ℕ)
names = codes "file" ∷ codes "sha512" ∷ []

shows : (params r : Row) → Rattle.sqlite.specs.Term.eval_all (all_columns 2) (params ∷ r ∷ []) ≡ part (Rattle.std.proofs.Common.drop 1 r)
shows params r = rw (column_after r 0, column_after r 1) refl

pub sha512_found : (name : List ℕ) → IsQueryOf find_sha512_text (Text name ∷ []) image_sha512_table 1 (λ rows_of. rows_of name) part (equals 1 0 ∷ []) 2 names (has_text 0 name)
unfolding understood everything
sha512_found name = record {
  asks = (refl, refl, (refl, refl), refl);
  takes = (refl, refl, λ trees h. absurd (let e = h in cc));
  base = λ db. refl;
  meets = named_meets 0 name;
  shows = shows (Text name ∷ []);
  whole = λ r. refl;
  its = named_its 0 name;
}

pub sha512s_listed : IsListingOf all_sha512s_text image_sha512_table (λ rows. rows) part [] 2 names (λ _. true)
unfolding understood everything
sha512s_listed = record {
  asks = (refl, refl, (refl, refl), refl);
  takes = (refl, refl, λ trees h. absurd (let e = h in cc));
  base = λ db. refl;
  meets = λ r. refl;
  shows = shows [];
  whole = λ r. refl;
  keeps = λ r n. refl;
  texts = λ db sound. first_texts image_sha512_table (inr (inr (inr (inr (inr (inr (inr (inr (inr (inl refl)))))))))) refl db sound (codes "file") _ refl;
  its = λ rows. sym (filter_true rows);
}
