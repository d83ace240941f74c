-- Images of files, and what items offer, one after another.
use Rattle.std.proofs.Common.{◌≡◌, ℕ, ◌+◌, ◌<◌, List, [], ◌∷◌, ◌++◌, Bool, true, false, cond, length, get_or, take, map, refl, ap, sym, ◌∙◌, bytes_eq, nat_cmp}
use Rattle.std.specs.Prelude.{Option, Some, None, filter, option_copied}
use Rattle.std.specs.List.{filter_map}
use Rattle.std.specs.BTreeMap.{BTreeMap, get_by}
use Rattle.std.specs.Cmp.Lexicographic.{slice_cmp, bytes_decides}
use Rattle.std.specs.Map.{update}
use Rattle.std.proofs.lemmas.List.{take_more, map-append, append-nil}
use Rattle.std.proofs.lemmas.List.Elements.{filter_map-append}
use Rattle.up_canon.specs.Names.{Name}
use Rattle.up_plan.specs.Images.{ImageData}
use Rattle.up_plan.specs.Offers.{OfferData, greatest_of_file}
use Rattle.up_plan.specs.Planning.{greatest, greater}
use Rattle.up_plan.specs.declared.campaign.Item.{Item}
use Rattle.up_plan.proofs.Greatest.{greatest_more, filter_more, filter_less}
use denote.Ref.{Bor}

-- tests that agree keep the same
pub filter_same : {A : Type 0} (p q : A → Bool) → ((x : A) → p x ≡ q x) → (xs : List A) → filter p xs ≡ filter q xs
filter_same p q same [] = refl
filter_same p q same (x ∷ xs) = rw (same x, filter_same p q same xs) refl

-- the image x enters its file's place
module _ (files new : BTreeMap (Bor Name) (Bor ImageData)) (images : List ImageData) (i : ℕ) (x : ImageData) (h : i < length images) (at : x ≡ get_or images i x) (best : Bor ImageData)
    (known : (q : Name) → option_copied (get_by (λ k. slice_cmp nat_cmp q k.now) files) ≡ greatest_of_file (take i images) q) where
  by_test : (q : Name) (b : Bool) → bytes_eq x.file q ≡ b → best.now ≡ greater (option_copied (get_by (λ k. slice_cmp nat_cmp x.file k.now) files)) x
      → option_copied (cond b (Some best) (get_by (λ k. slice_cmp nat_cmp q k.now) files)) ≡ greatest_of_file (take (i + 1) images) q
  by_test q true e is =
      ap Some (is ∙ ap (λ o. greater o x) (known x.file ∙ ap (greatest_of_file (take i images)) ((bytes_decides x.file q).0 e)))
      ∙ sym (greatest_more (filter (λ image. bytes_eq image.file q) (take i images)) x)
      ∙ ap greatest (sym (filter_more (λ image. bytes_eq image.file q) images i x h at e))
  by_test q false e is = known q ∙ ap greatest (sym (filter_less (λ image. bytes_eq image.file q) images i x h at e))

  pub file_more : (key : Name) → key ≡ x.file → best.now ≡ greater (option_copied (get_by (λ k. slice_cmp nat_cmp key k.now) files)) x
      → (q : Name) → get_by (λ k. slice_cmp nat_cmp q k.now) new ≡ update bytes_eq (λ ds. get_by (λ k. slice_cmp nat_cmp ds k.now) files) key (Some best) q
      → option_copied (get_by (λ k. slice_cmp nat_cmp q k.now) new) ≡ greatest_of_file (take (i + 1) images) q
  file_more key named is q put =
      ap option_copied (put ∙ ap (λ n. cond (bytes_eq n q) (Some best) (get_by (λ k. slice_cmp nat_cmp q k.now) files)) named)
      ∙ by_test q (bytes_eq x.file q) refl (is ∙ ap (λ n. greater (option_copied (get_by (λ k. slice_cmp nat_cmp n k.now) files)) x) named)

-- one more item, of whichever way an item offers
module _ (f : Item → Option OfferData) (items : List (Bor Item)) (i : ℕ) (x : Bor Item) (h : i < length items) (at : x ≡ get_or items i x) where
  pub offers_more : (o : OfferData) → f x.now ≡ Some o → filter_map f (map (λ j. j.now) (take (i + 1) items)) ≡ filter_map f (map (λ j. j.now) (take i items)) ++ o ∷ []
  offers_more o e = rw (take_more items i x h, ← at, map-append, filter_map-append, e) refl

  pub offers_less : f x.now ≡ None → filter_map f (map (λ j. j.now) (take (i + 1) items)) ≡ filter_map f (map (λ j. j.now) (take i items))
  offers_less e = rw (take_more items i x h, ← at, map-append, filter_map-append, e, append-nil) refl
