-- Images whose filename nothing names change no plan.
use Rattle.std.proofs.Common.{◌≡◌, ◌&&◌, ◌||◌, List, [], ◌∷◌, Bool, true, false, cond, refl, sym, ◌∙◌, ap, bytes_eq}
use Rattle.std.specs.Prelude.{Option, Some, None, filter, find}
use Rattle.std.specs.List.{list_all}
use Rattle.std.specs.Cmp.Lexicographic.{bytes_decides}
use Rattle.up_canon.specs.Names.{Name}
use Rattle.up_plan.specs.declared.assigned.Fitted.{Fitted}
use Rattle.up_plan.specs.declared.campaign.Item.{Item}
use Rattle.up_plan.specs.Images.{ImageData}
use Rattle.up_plan.specs.Planning.{is_offered, is_reported, items_for, offered, plan_from, plan_of, reported_image, resulting, wanted, with_wanted}
use Rattle.up_plan.specs.Laws.{OtherImagesChangeNothing}
use Rattle.up_plan.proofs.Members.{both_of}
use Rattle.up_plan.proofs.Orders.{file_of}

-- ---- a test behind a weaker one

module _ {A : Type 0} (p q : A → Bool) (weaker : (x : A) → q x ≡ true → p x ≡ true) where
  filter_within : (xs : List A) → filter q (filter p xs) ≡ filter q xs
  filter_within [] = refl
  filter_within (x ∷ xs) = by_test (p x) (q x) refl refl (filter_within xs)
    where
      by_test : (a b : Bool) → p x ≡ a → q x ≡ b → filter q (filter p xs) ≡ filter q xs → filter q (cond a (x ∷ filter p xs) (filter p xs)) ≡ cond b (x ∷ filter q xs) (filter q xs)
      by_test true true pass also rest = rw (also, rest)
      by_test true false pass also rest = rw (also, rest)
      by_test false true pass also rest = let both : false ≡ true = sym pass ∙ weaker x also in cc
      by_test false false pass also rest = rest

  pub find_within : (xs : List A) → find q (filter p xs) ≡ find q xs
  find_within [] = refl
  find_within (x ∷ xs) = by_test (p x) (q x) refl refl (find_within xs)
    where
      by_test : (a b : Bool) → p x ≡ a → q x ≡ b → find q (filter p xs) ≡ find q xs → find q (cond a (x ∷ filter p xs) (filter p xs)) ≡ cond b (Some x) (find q xs)
      by_test true true pass also rest = rw also
      by_test true false pass also rest = rw (also, rest)
      by_test false true pass also rest = let both : false ≡ true = sym pass ∙ weaker x also in cc
      by_test false false pass also rest = rest

-- ---- images behind a test of their filenames

module _ (p : Name → Bool) where
  abbrev passing : List ImageData → List ImageData
  passing images = filter (λ image. p image.file) images

  same_file_passes : (file other : Name) → bytes_eq file other ≡ true → p file ≡ true → p other ≡ true
  same_file_passes file other same h = ap p (sym ((bytes_decides file other).0 same)) ∙ h

  offer_passes : (items : List Item) (hardware : Name) → list_all (λ i. p i.file) items ≡ true → (image : ImageData) → is_offered items hardware image ≡ true → p image.file ≡ true
  offer_passes [] hardware all image h = cc
  offer_passes (i ∷ items) hardware all image h = by_test (bytes_eq i.hardware hardware && bytes_eq i.file image.file) refl h (offer_passes items hardware (both_of (p i.file) _ all).1 image)
    where
      by_test : (b : Bool) → (bytes_eq i.hardware hardware && bytes_eq i.file image.file) ≡ b → (b || is_offered items hardware image) ≡ true → (is_offered items hardware image ≡ true → p image.file ≡ true) → p image.file ≡ true
      by_test true is h more = same_file_passes i.file image.file (both_of (bytes_eq i.hardware hardware) _ is).1 (both_of (p i.file) _ all).0
      by_test false is h more = more h

  offered_within : (images : List ImageData) (items : List Item) (hardware : Name) → list_all (λ i. p i.file) items ≡ true → offered (passing images) items hardware ≡ offered images items hardware
  offered_within images items hardware all = filter_within (λ image. p image.file) (is_offered items hardware) (offer_passes items hardware all) images

  report_passes : (e : Fitted) → p e.image.file ≡ true → (image : ImageData) → is_reported e.hardware e.image image ≡ true → p image.file ≡ true
  report_passes e pass image h = ap p ((bytes_decides image.file e.image.file).0 (file_of e.hardware e.image image h)) ∙ pass

  registered_within : (images : List ImageData) (e : Fitted) → p e.image.file ≡ true → reported_image (passing images) e ≡ reported_image images e
  registered_within images e pass = find_within (λ image. p image.file) (is_reported e.hardware e.image) (report_passes e pass) images

  with_within : (images : List ImageData) (e : Fitted) (w : Option ImageData) → p e.image.file ≡ true → with_wanted (passing images) e w ≡ with_wanted images e w
  with_within images e None pass = rw (registered_within images e pass) refl
  with_within images e (Some image) pass = refl

  resulting_within : (images : List ImageData) (items : List Item) (fitted : List Fitted) → list_all (λ i. p i.file) items ≡ true → list_all (λ e. p e.image.file) fitted ≡ true
      → resulting (passing images) items fitted ≡ resulting images items fitted
  resulting_within images items [] all each = refl
  resulting_within images items (e ∷ fitted) all each =
      let here = (both_of (p e.image.file) _ each).0 in
      let first : with_wanted (passing images) e (wanted (passing images) items e) ≡ with_wanted images e (wanted images items e) =
      rw (offered_within images items e.hardware all, registered_within images e here) (with_within images e _ here) in
      rw (first, resulting_within images items fitted all (both_of (p e.image.file) _ each).1) refl

pub others_change_nothing : OtherImagesChangeNothing
unfolding plan_of
others_change_nothing p images others campaigns vehicle fitted items each same =
    ap plan_from (sym (resulting_within p images (items_for campaigns vehicle) fitted items each)
    ∙ ap (λ xs. resulting xs (items_for campaigns vehicle) fitted) same
    ∙ resulting_within p others (items_for campaigns vehicle) fitted items each)
