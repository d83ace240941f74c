-- Lists with the same members give the same plan.
use Rattle.std.proofs.Common.{◌≡◌, ◌&&◌, ◌==◌, List, [], ◌∷◌, ◌++◌, Bool, true, false, cond, refl, sym, ◌∙◌, ap, inl, inr, bytes_eq}
use Rattle.std.specs.Prelude.{Option, Some, None, map, filter, find, flat_map}
use Rattle.std.specs.Cmp.Lexicographic.{bytes_decides}
use Rattle.std.proofs.lemmas.List.Elements.{filter-append}
use Rattle.up_canon.specs.Names.{Name}
use Rattle.up_plan.specs.Campaigns.{CampaignData}
use Rattle.up_plan.specs.Images.{ImageData}
use Rattle.up_plan.specs.Planning.{agrees, greatest, is_for, is_offered, is_reported, items_for, reaches, reported_image, resulting, wanted, with_wanted}
use Rattle.up_manifest.specs.declared.report.Installed.{Installed}
use Rattle.up_plan.specs.declared.assigned.Fitted.{Fitted}
use Rattle.up_plan.specs.declared.campaign.Item.{Item}
use Rattle.up_plan.proofs.Above.{greatest_in, greatest_none_above, greatest_of_none, same_file}
use Rattle.up_plan.proofs.Members.{In, in_filter, filter_in, both_of}
use Rattle.up_plan.proofs.Offering.{filter_same}

pub map_same : {A B : Type 0} (f g : A → B) → ((x : A) → f x ≡ g x) → (xs : List A) → map f xs ≡ map g xs
map_same f g same [] = refl
map_same f g same (x ∷ xs) = rw (same x, map_same f g same xs) refl

-- items that offer alike
pub same_offers : (images : List ImageData) (items others : List Item) (fitted : List Fitted) → ((hardware : Name) (image : ImageData) → is_offered items hardware image ≡ is_offered others hardware image)
    → resulting images items fitted ≡ resulting images others fitted
same_offers images items others fitted same =
    map_same (λ e. with_wanted images e (wanted images items e)) (λ e. with_wanted images e (wanted images others e))
    (λ e. rw (filter_same (is_offered items e.hardware) (is_offered others e.hardware) (same e.hardware) images) refl) fitted

-- a campaign that is closed or for other vehicles has no items for the vehicle
pub items_without : (before after : List CampaignData) (c : CampaignData) (vehicle : Name) → (c.running && reaches vehicle c.reach) ≡ false
    → items_for (before ++ c ∷ after) vehicle ≡ items_for (before ++ after) vehicle
items_without before after c vehicle off =
    ap (flat_map (λ d. d.items))
    (filter-append (λ d. d.running && reaches vehicle d.reach) before (c ∷ after)
    ∙ ap (λ b. filter (λ d. d.running && reaches vehicle d.reach) before ++ cond b (c ∷ filter (λ d. d.running && reaches vehicle d.reach) after) (filter (λ d. d.running && reaches vehicle d.reach) after)) off
    ∙ sym (filter-append (λ d. d.running && reaches vehicle d.reach) before after))

-- ---- the first that passes

module _ {A : Type 0} (p : A → Bool) where
  found_step : (y : A) (ys : List A) (x : A) (b : Bool) → p y ≡ b → (find p ys ≡ Some x → In ys x × (p x ≡ true)) → cond b (Some y) (find p ys) ≡ Some x → In (y ∷ ys) x × (p x ≡ true)
  found_step y ys x true e ih h = let same : y ≡ x = cc in (inl same, ap p (sym same) ∙ e)
  found_step y ys x false e ih h = (inr (ih h).0, (ih h).1)

  found_in : (xs : List A) (x : A) → find p xs ≡ Some x → In xs x × (p x ≡ true)
  found_in [] x h = cc
  found_in (y ∷ ys) x h = found_step y ys x (p y) refl (found_in ys x) h

  find_step : (y : A) (ys : List A) (x : A) (b : Bool) → p y ≡ b → ((p y ≡ true) → y ≡ x) → (p y ≡ false → find p ys ≡ Some x) → cond b (Some y) (find p ys) ≡ Some x
  find_step y ys x true e one ih = ap Some (one e)
  find_step y ys x false e one ih = ih e

  find_only : (xs : List A) (x : A) → In xs x → p x ≡ true → ((y : A) → In xs y → p y ≡ true → y ≡ x) → find p xs ≡ Some x
  find_only [] x h passes only = absurd h
  find_only (y ∷ ys) x (inl same) passes only =
      find_step y ys x (p y) refl (λ e. same) (λ e. let no : false ≡ true = sym e ∙ ap p same ∙ passes in cc)
  find_only (y ∷ ys) x (inr h) passes only = find_step y ys x (p y) refl (only y (inl refl)) (λ e. find_only ys x h passes (λ z k. only z (inr k)))

  by_first : (xs ys : List A) → ((x : A) → In xs x → In ys x) → ((x : A) → In ys x → In xs x) → ((x y : A) → In xs x → In xs y → p x ≡ true → p y ≡ true → x ≡ y)
      → (o q : Option A) → find p xs ≡ o → find p ys ≡ q → o ≡ q
  by_first xs ys to back only None None e f = refl
  by_first xs ys to back only None (Some y) e f =
      let there = found_in ys y f in
      let some = find_only xs y (back y there.0) there.1 (λ z k passes. only z y k (back y there.0) passes there.1) in
      cc
  by_first xs ys to back only (Some x) q e f =
      let here = found_in xs x e in
      sym (find_only ys x (to x here.0) here.1 (λ z k passes. only z x (back z k) here.0 passes here.1)) ∙ f

  pub find_same : (xs ys : List A) → ((x : A) → In xs x → In ys x) → ((x : A) → In ys x → In xs x) → ((x y : A) → In xs x → In xs y → p x ≡ true → p y ≡ true → x ≡ y) → find p xs ≡ find p ys
  find_same xs ys to back only = by_first xs ys to back only (find p xs) (find p ys) refl refl

-- ---- images in another order

pub file_of : (hardware : Name) (installed : Installed) (x : ImageData) → is_reported hardware installed x ≡ true → bytes_eq x.file installed.file ≡ true
file_of hardware installed x h =
    let hashes = both_of (bytes_eq x.file installed.file && (x.length == installed.length) && bytes_eq x.sha256 installed.sha256 && agrees x.sha512 installed.sha512) (is_for hardware x) h in
    let first = both_of (bytes_eq x.file installed.file && (x.length == installed.length) && bytes_eq x.sha256 installed.sha256) (agrees x.sha512 installed.sha512) hashes.0 in
    let second = both_of (bytes_eq x.file installed.file && (x.length == installed.length)) (bytes_eq x.sha256 installed.sha256) first.0 in
    (both_of (bytes_eq x.file installed.file) (x.length == installed.length) second.0).0

module _ (images others : List ImageData) (to : (x : ImageData) → In images x → In others x) (back : (x : ImageData) → In others x → In images x)
    (distinct : (a b : ImageData) → In images a → In images b → a.file ≡ b.file → a ≡ b) where
  same_registered : (e : Fitted) → reported_image images e ≡ reported_image others e
  same_registered e =
      find_same (is_reported e.hardware e.image) images others to back
      (λ x y h k p q. distinct x y h k ((bytes_decides x.file e.image.file).0 (file_of e.hardware e.image x p) ∙ sym ((bytes_decides y.file e.image.file).0 (file_of e.hardware e.image y q))))

  by_best : (xs ys : List ImageData) → ((x : ImageData) → In xs x → In ys x) → ((x : ImageData) → In ys x → In xs x) → ((x : ImageData) → In xs x → In images x)
      → (o q : Option ImageData) → greatest xs ≡ o → greatest ys ≡ q → o ≡ q
  by_best xs ys there here known None None e f = refl
  by_best xs ys there here known None (Some b) e f = absurd (greatest_of_none xs e b (here b (greatest_in ys b f)))
  by_best xs ys there here known (Some a) None e f = absurd (greatest_of_none ys f a (there a (greatest_in xs a e)))
  by_best xs ys there here known (Some a) (Some b) e f =
      let in_xs = greatest_in xs a e in
      let in_ys = greatest_in ys b f in
      ap Some (distinct a b (known a in_xs) (known b (here b in_ys)) (same_file a b (greatest_none_above ys b f a (there a in_xs)) (greatest_none_above xs a e b (here b in_ys))))

  same_greatest : (p : ImageData → Bool) → greatest (filter p images) ≡ greatest (filter p others)
  same_greatest p =
      by_best (filter p images) (filter p others)
      (λ x h. let k = in_filter p images x h in filter_in p others x (to x k.0) k.1)
      (λ x h. let k = in_filter p others x h in filter_in p images x (back x k.0) k.1)
      (λ x h. (in_filter p images x h).0)
      (greatest (filter p images)) (greatest (filter p others)) refl refl

  same_with : (e : Fitted) (w : Option ImageData) → with_wanted images e w ≡ with_wanted others e w
  same_with e None = rw (same_registered e) refl
  same_with e (Some image) = refl

  pub same_images : (items : List Item) (fitted : List Fitted) → resulting images items fitted ≡ resulting others items fitted
  same_images items fitted =
      map_same (λ e. with_wanted images e (wanted images items e)) (λ e. with_wanted others e (wanted others items e))
      (λ e. rw (same_greatest (is_offered items e.hardware), same_registered e) (same_with e _)) fitted
