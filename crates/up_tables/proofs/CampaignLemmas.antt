-- The statements on campaigns that put rows in and read them.
use Rattle.std.proofs.Common.{◌≡◌, ℕ, pos, List, [], ◌∷◌, filter, refl, ap, ◌∙◌, codes, append-nil, drop, inl, inr}
use Rattle.std.specs.Ordering.{is_eq}
use Rattle.std.proofs.Math.Bool.{and-true}
use Rattle.sqlite.specs.declared.types.Value.TheVariants.{Int, Text}
use Rattle.sqlite.specs.Order.{Row, column, value_cmp}
use Rattle.sqlite.specs.Term.{eval_all, Term, lit, col, op2}
use Rattle.sqlite.specs.Listing.{understood}
use Rattle.sqlite_tied.specs.Compute.{everything}
use Rattle.sqlite_sql.specs.declared.ops.BinaryOp.TheVariants.{Compare}
use Rattle.sqlite_sql.specs.declared.ops.CompareOp.TheVariants.{Eq}
use Rattle.sqlite_value.specs.declared.keys.Collation.TheVariants.{Binary}
use Rattle.up_tables.specs.Texts.{insert_campaign_text, find_campaign_text, running_campaigns_text}
use Rattle.up_tables.specs.Rows.{columns_at, has_number, has_text}
use Rattle.up_tables.proofs.AnswerLemmas.{all_columns, equals_int}
use Rattle.up_tables.proofs.Casts.{cast_int, cast_null}
use Rattle.up_tables.proofs.EcuRows.{text_is, column_after}
use Rattle.up_tables.proofs.EcuUpdate.{equals}
use Rattle.up_tables.specs.Tables.{campaign_table}
use Rattle.up_tables.specs.Forms.{campaign_row, campaign_places}
use Rattle.up_tables.specs.Lines.{yes_or_no}
use Rattle.up_tables.specs.declared.campaign.CampaignRow.{CampaignRow}
use Rattle.up_tables.proofs.StoredLemmas.{IsInsertOf, IsListingOf, IsQueryOf, named_its, named_meets}
use Rattle.up_tables.proofs.TypedLemmas.{first_texts}

-- ---- put in

pub campaign_put : (c : CampaignRow) → IsInsertOf insert_campaign_text campaign_table 1 c.name.now (campaign_row c) 4 4
unfolding understood everything
campaign_put c = record {
  writes = record { row = refl; is = refl; plain = (refl, refl); writes = refl; whole = refl; count = refl };
  there = refl;
  uncounted = refl;
  unstamped = append-nil _;
  values = refl;
  casts = rw (cast_null, cast_int (yes_or_no c.running)) refl;
  named = λ x n. text_is c.name.now n;
}

-- ---- read

abbrev part : Row → Row
part = columns_at campaign_places

abbrev names : List (List ℕ)
names = codes "name" ∷ codes "reach" ∷ codes "items" ∷ codes "running" ∷ []

shows : (params r : Row) → eval_all (all_columns 4) (params ∷ r ∷ []) ≡ part (drop 1 r)
shows params r = rw (column_after r 0, column_after r 1, column_after r 2, column_after r 3) refl

pub campaign_found : (name : List ℕ) → IsQueryOf find_campaign_text (Text name ∷ []) campaign_table 1 (λ rows_of. rows_of name) part (equals 1 0 ∷ []) 4 names (has_text 0 name)
unfolding understood everything
campaign_found name = record {
  asks = (refl, refl, (refl, refl), refl);
  takes = (refl, refl, λ trees h. absurd (let e = h in cc));
  base = λ db. refl;
  meets = named_meets 0 name;
  shows = shows (Text name ∷ []);
  whole = λ r. refl;
  its = named_its 0 name;
}

abbrev runs : Term
runs = op2 (Compare Eq Binary) (col 1 4) (lit (Int (pos 1)))

pub running_listed : IsListingOf running_campaigns_text campaign_table (filter (has_number 3 (pos 1))) part (runs ∷ []) 4 names (has_number 3 (pos 1))
unfolding understood everything
running_listed = record {
  asks = (refl, refl, (refl, refl), refl);
  takes = (refl, refl, λ trees h. absurd (let e = h in cc));
  base = λ db. refl;
  meets = λ x. and-true _ ∙ equals_int (column x 4) (pos 1) ∙ ap (λ v. is_eq (value_cmp v (Int (pos 1)))) (column_after x 3);
  shows = shows [];
  whole = λ r. refl;
  keeps = λ r n. refl;
  texts = λ db sound. first_texts campaign_table (inr (inr (inr (inr (inl refl))))) refl db sound (codes "name") _ refl;
  its = λ rows. refl;
}
