-- The values of a register of images with one more.
use Rattle.std.proofs.Common.{◌≡◌, ℕ, suc, zero, List, [], ◌∷◌, Bool, true, cond, Some, None, map, refl, sym, ap, ◌∙◌}
use Rattle.std.specs.Prelude.{insert}
use Rattle.std.specs.List.{AllByRecursion, list_all}
use Rattle.std.specs.Ordering.{nat_cmp, is_eq}
use Rattle.std.specs.Cmp.Lexicographic.{slice_cmp}
use Rattle.std.specs.FinMap as table
use Rattle.std.specs.FinMap.{find, put, entries-insert}
use Rattle.std.specs.declared.cmp.Ordering.{Ordering}
use Rattle.std.specs.declared.cmp.Ordering.TheVariants.{Less, Equal, Greater}
use Rattle.std.proofs.lemmas.Cmp.{nat_list_cmp_total}
use Rattle.up_canon.specs.Names.{Name, Table}
use Rattle.up_canon.proofs.Printable.{both}
use Rattle.up_plan.specs.Images.{ImageData}
use Rattle.up_machine.specs.Registers.{place_among}
use Rattle.up_metadata.proofs.Lists.{and_left, and_right, each_weaker}
use Rattle.up_machine.proofs.Values.{each_found}

abbrev R : Name → Name → Ordering
R = slice_cmp nat_cmp

abbrev images_of : List (Name × ImageData) → List ImageData
images_of es = map (λ e. e.1) es

values_put : (es : List (Name × ImageData)) (v : ImageData) → AllByRecursion (λ e. e.1.file ≡ e.0) es → find R v.file es ≡ None
    → images_of (put R v.file v es) ≡ insert (images_of es) (place_among v.file (images_of es)) v
values_put [] v named none = refl
values_put (e ∷ es) v named none = by_case (R v.file e.0) refl (ap (R v.file) named.0) none (values_put es v named.1)
  where
    by_case : (o : Ordering) → R v.file e.0 ≡ o → R v.file e.1.file ≡ R v.file e.0 → cond (is_eq (R v.file e.0)) (Some e.1) (find R v.file es) ≡ None
        → (find R v.file es ≡ None → images_of (put R v.file v es) ≡ insert (images_of es) (place_among v.file (images_of es)) v)
        → images_of (put R v.file v (e ∷ es)) ≡ insert (images_of (e ∷ es)) (place_among v.file (images_of (e ∷ es))) v
    by_case Less is same none more = rw (same, is) refl
    by_case Equal is same none more =
        let clash : Some e.1 ≡ None = ap (λ o. cond (is_eq o) (Some e.1) (find R v.file es)) (sym is) ∙ none in cc
    by_case Greater is same none more =
        rw (same, is) (ap (λ xs. e.1 ∷ xs) (more (ap (λ o. cond (is_eq o) (Some e.1) (find R v.file es)) (sym is) ∙ none)))

-- a new image goes to its place among the others
pub values_insert : (t : Table ImageData) (v : ImageData) → ((file : Name) (image : ImageData) → table.get t file ≡ Some image → image.file ≡ file) → table.get t v.file ≡ None
    → table.values (table.insert t v.file v) ≡ insert (table.values t) (place_among v.file (table.values t)) v
values_insert t v named none =
    ap images_of (entries-insert nat_list_cmp_total t v.file v)
    ∙ values_put (table.entries t) v (each_weaker _ _ (λ e there. named e.0 e.1 there) (table.entries t) (each_found t)) (sym (table.get-entries t v.file) ∙ none)

-- ---- one more element at a place

pub map_insert : {A B : Type 0} (f : A → B) (xs : List A) (i : ℕ) (y : A) → map f (insert xs i y) ≡ insert (map f xs) i (f y)
map_insert f xs zero y = refl
map_insert f [] (suc i) y = refl
map_insert f (x ∷ xs) (suc i) y = ap (λ rest. f x ∷ rest) (map_insert f xs i y)

pub all_insert : {A : Type 0} (p : A → Bool) (xs : List A) (i : ℕ) (y : A) → list_all p xs ≡ true → p y ≡ true → list_all p (insert xs i y) ≡ true
all_insert p xs zero y all here = both (p y) (list_all p xs) here all
all_insert p [] (suc i) y all here = both (p y) true here refl
all_insert p (x ∷ xs) (suc i) y all here = both (p x) _ (and_left _ (list_all p xs) all) (all_insert p xs i y (and_right (p x) _ all) here)
