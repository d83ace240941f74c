-- The greatest image that is offered, found item by item.
use Rattle.std.proofs.Common.{◌≡◌, ◌&&◌, ℕ, ◌+◌, ◌<◌, List, [], ◌∷◌, ◌++◌, Bool, true, refl, sym, ◌∙◌, ap, map, take, length, get_or, bytes_eq, nat_lt, inl, inr}
use Rattle.std.specs.Prelude.{Option, Some, None, filter, option_map}
use Rattle.std.specs.List.{filter_map, cons_option, list_any}
use Rattle.std.specs.Cmp.Lexicographic.{bytes_decides}
use Rattle.std.proofs.lemmas.List.{take_more, map-append}
use Rattle.up_canon.specs.Names.{Name}
use Rattle.up_canon.specs.Steps.{if_passes}
use Rattle.up_plan.specs.Images.{ImageData}
use Rattle.up_plan.specs.ByOffers.{resulting_by, with_wanted_by}
use Rattle.up_plan.specs.Offers.{OfferData, greatest_of_file, greatest_offer, offer_of, offers_of}
use Rattle.up_plan.specs.Planning.{greatest, is_offered, level, offered, reported_image, resulting, wanted, with_wanted}
use Rattle.up_plan.specs.declared.assigned.Fitted.{Fitted}
use Rattle.up_plan.specs.declared.campaign.Item.{Item}
use Rattle.up_plan.proofs.Above.{greatest_in, greatest_none_above, greatest_of_none, same_file}
use Rattle.up_plan.proofs.Members.{In, any_in, both, both_of, filter_in, in_any, in_filter, in_map, map_in}
use Rattle.up_plan.proofs.Parts.{filter_wider, greatest_kept}

module _ {A B : Type 0} (f : A → Option B) where
  found_step : (x : A) (xs : List A) (y : B) (o : Option B) → f x ≡ o → (In (filter_map f xs) y → (z : A) × In xs z × (f z ≡ Some y)) → In (cons_option o (filter_map f xs)) y → (z : A) × In (x ∷ xs) z × (f z ≡ Some y)
  found_step x xs y None e ih h = let found = ih h in (found.0, inr found.1, found.2)
  found_step x xs y (Some z) e ih (inl same) = (x, inl refl, e ∙ ap Some same)
  found_step x xs y (Some z) e ih (inr h) = let found = ih h in (found.0, inr found.1, found.2)

  in_filter_map : (xs : List A) (y : B) → In (filter_map f xs) y → (x : A) × In xs x × (f x ≡ Some y)
  in_filter_map [] y h = absurd h
  in_filter_map (x ∷ xs) y h = found_step x xs y (f x) refl (in_filter_map xs y) h

  kept_step : (xs : List A) (y : B) (o : Option B) → In (filter_map f xs) y → In (cons_option o (filter_map f xs)) y
  kept_step xs y None h = h
  kept_step xs y (Some z) h = inr h

  here_step : (xs : List A) (y : B) (o : Option B) → o ≡ Some y → In (cons_option o (filter_map f xs)) y
  here_step xs y None e = cc
  here_step xs y (Some z) e = inl cc

  filter_map_in : (xs : List A) (x : A) (y : B) → In xs x → f x ≡ Some y → In (filter_map f xs) y
  filter_map_in [] x y h e = absurd h
  filter_map_in (z ∷ xs) x y (inl same) e = here_step xs y (f z) (ap f same ∙ e)
  filter_map_in (z ∷ xs) x y (inr h) e = kept_step xs y (f z) (filter_map_in xs x y h e)

module _ (images : List ImageData) (items : List Item) (hardware : Name) where
  -- an item for the hardware, and the greatest image of its file
  record IsFrom (image : ImageData) : Type 0 where
    item : Item
    listed : In items item
    hardware_is : bytes_eq item.hardware hardware ≡ true
    best : greatest_of_file images item.file ≡ Some image

  offer_is : (item : Item) (o : OfferData) (g : Option ImageData) → greatest_of_file images item.file ≡ g → option_map (λ image. record { hardware = item.hardware; image = image }) g ≡ Some o
      → (greatest_of_file images item.file ≡ Some o.image) × (item.hardware ≡ o.hardware)
  offer_is item o None is e = cc
  offer_is item o (Some image) is e = let same : record { hardware = item.hardware; image = image } ≡ o = cc in (is ∙ ap (λ p. Some p.image) same, ap (λ p. p.hardware) same)

  abbrev listed_offers : List ImageData
  listed_offers = map (λ o. o.image) (filter (λ o. bytes_eq o.hardware hardware) (offers_of images items))

  from_listed : (image : ImageData) → In listed_offers image → IsFrom image
  from_listed image h =
      let made = in_map (λ o. o.image) (filter (λ o. bytes_eq o.hardware hardware) (offers_of images items)) image h in
      let kept = in_filter (λ o. bytes_eq o.hardware hardware) (offers_of images items) made.0 made.1 in
      let found = in_filter_map (offer_of images) items made.0 kept.0 in
      let is = offer_is found.0 made.0 (greatest_of_file images found.0.file) refl found.2 in
      record { item = found.0; listed = found.1; hardware_is = ap (λ n. bytes_eq n hardware) is.1 ∙ kept.1; best = is.0 ∙ ap Some made.2 }

  listed_from : (image : ImageData) → IsFrom image → In listed_offers image
  listed_from image from =
      let o : OfferData = record { hardware = from.item.hardware; image = image } in
      map_in (λ o. o.image) (filter (λ o. bytes_eq o.hardware hardware) (offers_of images items)) o
      (filter_in (λ o. bytes_eq o.hardware hardware) (offers_of images items) o
      (filter_map_in (offer_of images) items from.item o from.listed (ap (option_map (λ image. record { hardware = from.item.hardware; image = image })) from.best)) from.hardware_is)

  file_of : (image : ImageData) (from : IsFrom image) → In images image × (image.file ≡ from.item.file)
  file_of image from =
      let kept = in_filter (λ i. bytes_eq i.file from.item.file) images image (greatest_in (filter (λ i. bytes_eq i.file from.item.file) images) image from.best) in
      (kept.0, (bytes_decides image.file from.item.file).0 kept.1)

  offered_from : (image : ImageData) → IsFrom image → In (offered images items hardware) image
  offered_from image from =
      let kept = file_of image from in
      filter_in (is_offered items hardware) images image kept.0
      (any_in (λ i. bytes_eq i.hardware hardware && bytes_eq i.file image.file) items from.item from.listed
      (both (bytes_eq from.item.hardware hardware) (bytes_eq from.item.file image.file) from.hardware_is ((bytes_decides from.item.file image.file).1 (sym kept.1))))

  -- the greatest that is offered is the greatest of its file
  best_from : (image : ImageData) → greatest (offered images items hardware) ≡ Some image → IsFrom image
  best_from image is =
      let kept = in_filter (is_offered items hardware) images image (greatest_in (offered images items hardware) image is) in
      let found = in_any (λ i. bytes_eq i.hardware hardware && bytes_eq i.file image.file) items kept.1 in
      let item = found.0 in
      let fits = both_of (bytes_eq item.hardware hardware) (bytes_eq item.file image.file) found.2 in
      let file = (bytes_decides item.file image.file).0 fits.1 in
      let of_file : ImageData → Bool = λ i. bytes_eq i.file item.file in
      let part = greatest_kept of_file (offered images items hardware) image is ((bytes_decides image.file item.file).1 (sym file)) in
      let whole = filter_wider of_file (is_offered items hardware) (λ x same. ap (λ f. list_any (λ i. bytes_eq i.hardware hardware && bytes_eq i.file f) items) ((bytes_decides x.file item.file).0 same ∙ file) ∙ kept.1) images in
      record { item = item; listed = found.1; hardware_is = fits.0; best = ap greatest (sym whole) ∙ part }

  by_greatest : (o q : Option ImageData) → greatest listed_offers ≡ o → greatest (offered images items hardware) ≡ q → o ≡ q
  by_greatest None None is was = refl
  by_greatest None (Some b) is was = absurd (greatest_of_none listed_offers is b (listed_from b (best_from b was)))
  by_greatest (Some a) None is was = absurd (greatest_of_none (offered images items hardware) was a (offered_from a (from_listed a (greatest_in listed_offers a is))))
  by_greatest (Some a) (Some b) is was =
      let to = from_listed a (greatest_in listed_offers a is) in
      let back = best_from b was in
      let file = same_file a b (greatest_none_above (offered images items hardware) b was a (offered_from a to)) (greatest_none_above listed_offers a is b (listed_from b back)) in
      sym to.best ∙ ap (greatest_of_file images) (sym (file_of a to).1 ∙ file ∙ (file_of b back).1) ∙ back.best

  pub best_offer : greatest_offer (offers_of images items) hardware ≡ greatest (offered images items hardware)
  best_offer = by_greatest (greatest listed_offers) (greatest (offered images items hardware)) refl refl

with_same : (images : List ImageData) (e : Fitted) (wish : Option ImageData) → with_wanted_by e (reported_image images e) wish ≡ with_wanted images e wish
with_same images e None = refl
with_same images e (Some image) = refl

module _ (images : List ImageData) (items : List Item) where
  -- an ECU by what the items offer
  pub resulting_offer : (e : Fitted) (offers : List OfferData) (known : Option ImageData) → offers ≡ offers_of images items → known ≡ reported_image images e
      → resulting_by offers e known ≡ with_wanted images e (wanted images items e)
  resulting_offer e offers known is same =
      ap (λ os. resulting_by os e known) is
      ∙ ap (resulting_by (offers_of images items) e) same
      ∙ ap (λ best. with_wanted_by e (reported_image images e) (if_passes (λ image. nat_lt (level images e) image.release) best)) (best_offer images items e.hardware)
      ∙ with_same images e (wanted images items e)

  -- one more ECU
  pub resulting_more : (fitted : List Fitted) (i : ℕ) (e : Fitted) → i < length fitted → e ≡ get_or fitted i e
      → resulting images items (take (i + 1) fitted) ≡ resulting images items (take i fitted) ++ with_wanted images e (wanted images items e) ∷ []
  resulting_more fitted i e h at = rw (take_more fitted i e h, ← at, map-append) refl
