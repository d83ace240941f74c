-- Images that are looked up by their filenames give the same plan.
use Rattle.std.proofs.Common.{◌≡◌, List, [], ◌∷◌, Bool, true, false, cond, map, refl, sym, ap, ap₂, ◌∙◌, subst, bytes_eq}
use Rattle.std.specs.Prelude.{T, Option, Some, None, filter, find, option_map, option_to_list}
use Rattle.std.specs.List.{AllByRecursion, cons_option}
use Rattle.std.specs.Ordering.{nat_cmp, eq_by_cmp, is_eq}
use Rattle.std.specs.Cmp.Lexicographic.{slice_cmp, bytes_decides}
use Rattle.std.specs.FinMap as table
use Rattle.std.specs.FinMap.Entries.{below_all, is_sorted}
use Rattle.std.specs.FinMap.Entries as entries
use Rattle.std.specs.declared.cmp.Ordering.{Ordering}
use Rattle.std.specs.declared.cmp.Ordering.TheVariants.{Less}
use Rattle.std.proofs.lemmas.Map.Text.{is_eq-slice_cmp}
use Rattle.up_canon.specs.Names.{Name, Table}
use Rattle.up_canon.specs.Steps.{if_passes}
use Rattle.up_canon.proofs.TableLemmas.{both, less}
use Rattle.up_plan.specs.declared.assigned.Fitted.{Fitted}
use Rattle.up_plan.specs.declared.campaign.Item.{Item}
use Rattle.up_plan.specs.ByFile.{AreByFile, offers_at, registered_at, resulting_at}
use Rattle.up_plan.specs.ByOffers.{resulting_by}
use Rattle.up_plan.specs.Images.{ImageData}
use Rattle.up_plan.specs.Offers.{OfferData, greatest_of_file, offers_of}
use Rattle.up_plan.specs.Planning.{greatest, is_reported, reported_image, resulting, wanted, with_wanted}
use Rattle.up_plan.proofs.BestOffers.{resulting_offer}
use Rattle.up_plan.proofs.Orders.{file_of, map_same}
use Rattle.up_plan.proofs.OtherImages.{find_within}

abbrev R : Name → Name → Ordering
R = slice_cmp nat_cmp

-- ---- the images of a filename are the one that stands under it

abbrev values_of : List (Name × ImageData) → List ImageData
values_of es = map (λ e. e.1) es

abbrev of_file : Name → ImageData → Bool
of_file file image = bytes_eq image.file file

apart : (a b : Name) → R a b ≡ Less → bytes_eq b a ≡ false
apart a b h = by_test (bytes_eq b a) refl
  where
    by_test : (t : Bool) → bytes_eq b a ≡ t → t ≡ false
    by_test false e = refl
    by_test true e = let same : is_eq (R a b) ≡ true = is_eq-slice_cmp a b ∙ (bytes_decides a b).1 (sym ((bytes_decides b a).0 e)) in let no : is_eq (R a b) ≡ false = ap is_eq h in cc

-- behind an entry of this filename there is none
none_behind : (file : Name) (es : List (Name × ImageData)) → T (below_all R file es) → AllByRecursion (λ e. e.1.file ≡ e.0) es → filter (of_file file) (values_of es) ≡ []
none_behind file [] above named = refl
none_behind file (e ∷ es) above named =
    let parts = both _ _ above in
    let other : of_file file e.1 ≡ false = ap (λ n. bytes_eq n file) named.0 ∙ apart file e.0 (less _ parts.0) in
    rw other (none_behind file es parts.1 named.1)

at_entries : (file : Name) (es : List (Name × ImageData)) → T (is_sorted R es) → AllByRecursion (λ e. e.1.file ≡ e.0) es
    → filter (of_file file) (values_of es) ≡ option_to_list (entries.find R file es)
at_entries file [] sorted named = refl
at_entries file (e ∷ es) sorted named =
    let parts = both _ _ sorted in
    let test : eq_by_cmp R file e.0 ≡ bytes_eq file e.0 = is_eq-slice_cmp file e.0 in
    by_test (bytes_eq file e.0) refl test parts.0 (at_entries file es parts.1 named.1)
  where
    by_test : (b : Bool) → bytes_eq file e.0 ≡ b → eq_by_cmp R file e.0 ≡ bytes_eq file e.0 → T (below_all R e.0 es)
        → filter (of_file file) (values_of es) ≡ option_to_list (entries.find R file es)
        → filter (of_file file) (values_of (e ∷ es)) ≡ option_to_list (entries.find R file (e ∷ es))
    by_test true is test above rest =
        let same : file ≡ e.0 = (bytes_decides file e.0).0 is in
        let here : of_file file e.1 ≡ true = (bytes_decides e.1.file file).1 (named.0 ∙ sym same) in
        let none : filter (of_file file) (values_of es) ≡ [] = none_behind file es (subst (λ n. T (below_all R n es)) (sym same) above) named.1 in
        rw (here, none, test, is) refl
    by_test false is test above rest =
        let other : of_file file e.1 ≡ false = by_file (of_file file e.1) refl in
        rw (other, test, is) rest
      where
        by_file : (b : Bool) → of_file file e.1 ≡ b → b ≡ false
        by_file false h = refl
        by_file true h = let no : bytes_eq file e.0 ≡ true = (bytes_decides file e.0).1 (sym ((bytes_decides e.1.file file).0 h) ∙ named.0) in cc

abbrev IsNamed : List (Name × ImageData) → Type 0
IsNamed es = AllByRecursion (λ e. e.1.file ≡ e.0) es

-- ---- each entry is found at its name

-- what is found behind an entry of a lesser name is found from that entry on
later : (f : Name × ImageData) (fs gs : List (Name × ImageData)) → T (below_all R f.0 gs)
    → AllByRecursion (λ e. entries.find R e.0 fs ≡ Some e.1) gs → AllByRecursion (λ e. entries.find R e.0 (f ∷ fs) ≡ Some e.1) gs
later f fs [] h all = tt
later f fs (g ∷ gs) h all =
    let parts = both _ _ h in
    let above : eq_by_cmp R g.0 f.0 ≡ false = is_eq-slice_cmp g.0 f.0 ∙ apart f.0 g.0 (less _ parts.0) in
    (ap (λ b. cond b (Some f.1) (entries.find R g.0 fs)) above ∙ all.0, later f fs gs parts.1 all.1)

sorted_found : (es : List (Name × ImageData)) → T (is_sorted R es) → AllByRecursion (λ e. entries.find R e.0 es ≡ Some e.1) es
sorted_found [] h = tt
sorted_found (f ∷ fs) h =
    let parts = both _ _ h in
    let here : eq_by_cmp R f.0 f.0 ≡ true = is_eq-slice_cmp f.0 f.0 ∙ (bytes_decides f.0 f.0).1 refl in
    (ap (λ b. cond b (Some f.1) (entries.find R f.0 fs)) here, later f fs fs parts.0 (sorted_found fs parts.1))

each_named : (images : Table ImageData) → AreByFile images → (es : List (Name × ImageData)) → AllByRecursion (λ e. entries.find R e.0 (table.entries images) ≡ Some e.1) es → IsNamed es
each_named images named [] h = tt
each_named images named (e ∷ es) h = (named e.0 e.1 (table.get-entries images e.0 ∙ h.0), each_named images named es h.1)

-- ---- what a table has at a filename

greatest_of_one : (o : Option ImageData) → greatest (option_to_list o) ≡ o
greatest_of_one None = refl
greatest_of_one (Some image) = refl

find_of_one : (p : ImageData → Bool) (o : Option ImageData) → find p (option_to_list o) ≡ if_passes p o
find_of_one p None = refl
find_of_one p (Some image) = refl

module _ (images : Table ImageData) (named : AreByFile images) where
  at_file : (file : Name) → filter (of_file file) (table.values images) ≡ option_to_list (table.get images file)
  at_file file =
      let sorted = table.entries_sorted images in
      at_entries file (table.entries images) sorted (each_named images named (table.entries images) (sorted_found (table.entries images) sorted))
      ∙ ap option_to_list (sym (table.get-entries images file))

  greatest_at : (file : Name) → greatest_of_file (table.values images) file ≡ table.get images file
  greatest_at file = ap greatest (at_file file) ∙ greatest_of_one (table.get images file)

  registered_found : (e : Fitted) → registered_at images e ≡ reported_image (table.values images) e
  registered_found e =
      sym (find_of_one (is_reported e.hardware e.image) (table.get images e.image.file))
      ∙ ap (find (is_reported e.hardware e.image)) (sym (at_file e.image.file))
      ∙ find_within (of_file e.image.file) (is_reported e.hardware e.image) (file_of e.hardware e.image) (table.values images)

  offers_found : (items : List Item) → offers_at images items ≡ offers_of (table.values images) items
  offers_found [] = refl
  offers_found (item ∷ items) =
      ap₂ cons_option (ap (option_map {U = OfferData} (λ image. record { hardware = item.hardware; image = image })) (sym (greatest_at item.file))) (offers_found items)

  pub resulting_found : (items : List Item) (fitted : List Fitted) → resulting_at images items fitted ≡ resulting (table.values images) items fitted
  resulting_found items fitted =
      map_same (λ e. resulting_by (offers_at images items) e (registered_at images e)) (λ e. with_wanted (table.values images) e (wanted (table.values images) items e))
      (λ e. resulting_offer (table.values images) items e (offers_at images items) (registered_at images e) (offers_found items) (registered_found e)) fitted
