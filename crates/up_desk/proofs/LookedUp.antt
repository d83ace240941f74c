-- Images that are looked up one after another.
use Rattle.std.specs.Prelude.{Result, Ok, Err, OnOk, IfOk}
use Rattle.std.proofs.Common.{◌≡◌, List, [], ◌∷◌, ◌++◌, Bool, true, false, cond, Option, Some, None, map, refl, sym, ap, ◌∙◌, subst}
use Rattle.std.specs.Prelude.{is_some}
use Rattle.std.specs.List.{AllByRecursion}
use Rattle.std.specs.FinMap as table
use Rattle.std.specs.FinMap.{get-empty, same_map, nat_cmp-IsAntisymmetric, slice_cmp-IsAntisymmetric}
use Rattle.std.proofs.lemmas.Cmp.{nat_list_cmp_total}
use Rattle.std.specs.Ordering.{nat_cmp, eq_by_cmp}
use Rattle.std.specs.Cmp.Lexicographic.{slice_cmp}
use Rattle.up_canon.specs.Names.{Name, Table}
use Rattle.up_plan.specs.declared.campaign.Item.{Item}
use Rattle.up_plan.specs.Images.{ImageData}
use Rattle.up_machine.proofs.Tables.{get_new, get_same, get_after-insert, one_name}
use Rattle.up_desk.specs.Gathered.{IsPart, with_image_found, with_found, gathered, item_files}

-- at this filename there is what is registered
abbrev Has : Table ImageData → Table ImageData → Name → Type 0
Has registered images file = table.get images file ≡ table.get registered file

-- ---- one more

-- what is there is put in again
put_again : (images : Table ImageData) (file : Name) (image : ImageData) → table.get images file ≡ Some image → table.insert images file image ≡ images
put_again images file image is = same_map nat_list_cmp_total (slice_cmp-IsAntisymmetric nat_cmp-IsAntisymmetric) _ _ (λ q. get_new images file q image ∙ by_test q (eq_by_cmp (slice_cmp nat_cmp) q file) refl)
  where
    by_test : (q : Name) (b : Bool) → eq_by_cmp (slice_cmp nat_cmp) q file ≡ b → cond b (Some image) (table.get images q) ≡ table.get images q
    by_test q true same = sym is ∙ ap (table.get images) (sym (one_name q file same))
    by_test q false same = refl

part_found : (registered images : Table ImageData) (file : Name) (o : Option ImageData) → table.get registered file ≡ o → IsPart registered images → IsPart registered (with_image_found images file o)
part_found registered images file None is part = part
part_found registered images file (Some new) is part = λ other image found.
    get_after-insert (λ name x. table.get registered name ≡ Some x) images file other image new found is (part other image)

nothing_there : (registered images : Table ImageData) (file : Name) → IsPart registered images → table.get registered file ≡ None → (o : Option ImageData) → table.get images file ≡ o → o ≡ None
nothing_there registered images file part none None is = refl
nothing_there registered images file part none (Some image) is = let there : table.get registered file ≡ Some image = part file image is in absurd (let e = sym none ∙ there in cc)

has_found : (registered images : Table ImageData) (file : Name) (o : Option ImageData) → table.get registered file ≡ o → IsPart registered images → Has registered (with_image_found images file o) file
has_found registered images file None is part = nothing_there registered images file part is (table.get images file) refl ∙ sym is
has_found registered images file (Some new) is part = get_same images file new ∙ sym is

has_stays : (registered images : Table ImageData) (file other : Name) (o : Option ImageData) → table.get registered file ≡ o → Has registered images other → Has registered (with_image_found images file o) other
has_stays registered images file other None is has = has
has_stays registered images file other (Some new) is has = get_new images file other new ∙ by_test (eq_by_cmp (slice_cmp nat_cmp) other file) refl
  where
    by_test : (b : Bool) → eq_by_cmp (slice_cmp nat_cmp) other file ≡ b → cond b (Some new) (table.get images other) ≡ table.get registered other
    by_test true same = sym is ∙ ap (table.get registered) (sym (one_name other file same))
    by_test false same = has

-- nothing changes where one is there
pub found_before : (registered images : Table ImageData) (file : Name) → IsPart registered images → table.contains_key images file ≡ true → images ≡ with_found registered images file
found_before registered images file part there = by_option (table.get images file) refl
  where
    by_option : (o : Option ImageData) → table.get images file ≡ o → images ≡ with_found registered images file
    by_option None is = absurd (let e : is_some (table.get images file) ≡ true = there in cc)
    by_option (Some image) is = sym (put_again images file image is) ∙ ap (with_image_found images file) (sym (part file image is))

-- ---- all

pub part_gathered : (registered : Table ImageData) (files : List Name) (images : Table ImageData) → IsPart registered images → IsPart registered (gathered registered files images)
part_gathered registered [] images part = part
part_gathered registered (file ∷ files) images part = part_gathered registered files (with_found registered images file) (part_found registered images file (table.get registered file) refl part)

stays_gathered : (registered : Table ImageData) (files : List Name) (images : Table ImageData) (other : Name) → Has registered images other → Has registered (gathered registered files images) other
stays_gathered registered [] images other has = has
stays_gathered registered (file ∷ files) images other has =
    stays_gathered registered files (with_found registered images file) other (has_stays registered images file other (table.get registered file) refl has)

all_gathered : (registered : Table ImageData) (files : List Name) (images : Table ImageData) → IsPart registered images → AllByRecursion (Has registered (gathered registered files images)) files
all_gathered registered [] images part = tt
all_gathered registered (file ∷ files) images part =
    let more = with_found registered images file in (
      stays_gathered registered files more file (has_found registered images file (table.get registered file) refl part),
      all_gathered registered files more (part_found registered images file (table.get registered file) refl part),
    )

pub none_part : (registered : Table ImageData) → IsPart registered table.empty
none_part registered file image found = absurd (let e = sym (get-empty (slice_cmp nat_cmp) file) ∙ found in cc)

-- ---- the lists of files

each_of_map : {A B : Type 0} (f : A → B) (P : B → Type 0) (xs : List A) → AllByRecursion P (map f xs) → AllByRecursion (λ x. P (f x)) xs
each_of_map f P [] h = tt
each_of_map f P (x ∷ xs) h = (h.0, each_of_map f P xs h.1)

-- ---- what decisions ask

-- the images that a new campaign names
pub images_known : (registered images : Table ImageData) (items : List Item) → images ≡ gathered registered (item_files items) table.empty
    → AllByRecursion (λ (item : Item). table.get images item.file ≡ table.get registered item.file) items
images_known registered images items is =
    each_of_map (λ (i : Item). i.file) (Has registered images) items
    (subst (λ (t : Table ImageData). AllByRecursion (Has registered t) (item_files items)) (sym is) (all_gathered registered (item_files items) table.empty (none_part registered)))

-- ---- step by step

pub gathered_more : (registered : Table ImageData) (files others : List Name) (images : Table ImageData) → gathered registered (files ++ others) images ≡ gathered registered others (gathered registered files images)
gathered_more registered [] others images = refl
gathered_more registered (file ∷ files) others images = gathered_more registered files others (with_found registered images file)

-- of what went through
pub if_ok_on : {A E P : Type 0} {Q : A → Type 0} (r : Result A E) → OnOk r P → (P → (x : A) → Q x) → IfOk r Q
if_ok_on (Ok x) h f = f h x
if_ok_on (Err e) h f = tt
