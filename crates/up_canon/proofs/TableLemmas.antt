-- Tables as names and values in order.
use Rattle.std.proofs.Common.{◌≡◌, ℕ, zero, suc, ◌+◌, ◌<◌, ◌≤◌, List, [], ◌∷◌, Bool, true, false, length, map, set, get_or, Option, Some, None, Result, Ok, Err, refl, sym, ap, subst, ◌∙◌, arith}
use Rattle.std.specs.Prelude.{T, IsTrue, slice_get, ◌&&◌, insert}
use Rattle.std.specs.List.{zip}
use Rattle.std.specs.Ordering.{nat_cmp, is_lt}
use Rattle.std.specs.declared.cmp.Ordering.{Ordering}
use Rattle.std.specs.declared.cmp.Ordering.TheVariants.{Less, Equal, Greater}
use Rattle.std.specs.Cmp.Lexicographic.{slice_cmp}
use Rattle.std.specs.FinMap as table
use Rattle.std.specs.FinMap.{FinMap, find, put, is_sorted, entries-from_sorted, entries-insert, same_entries_map, len-entries, get-from_sorted}
use Rattle.std.specs.FinMap.Entries.{below_all, is_sorted-put}
use Rattle.std.proofs.lemmas.Cmp.{nat_list_cmp_total}
use Rattle.up_canon.specs.Names.{Name}
use Rattle.up_canon.specs.Tables.{IsInOrder, shifted, place_by, place_of}

abbrev R : Name → Name → Ordering
R = slice_cmp nat_cmp

-- so many places on
abbrev pub moved : ℕ → Result ℕ ℕ → Result ℕ ℕ
moved i (Ok j) = Ok (i + j)
moved i (Err j) = Err (i + j)

as_T : (b : Bool) → b ≡ true → T b
as_T b h = subst T (sym h) tt

from_T : (b : Bool) → T b → b ≡ true
from_T true h = refl
from_T false h = absurd h

-- ---- what is found

abbrev pub row_at : {X : Type 0} → List X → Result ℕ ℕ → Option X
row_at values (Ok i) = slice_get values i
row_at values (Err i) = None

pub both : (a b : Bool) → T (a && b) → T a × T b
both true b p = (tt, p)
both false b p = absurd p

pub less : (o : Ordering) → T (is_lt o) → o ≡ Less
less Less p = refl
less Equal p = absurd p
less Greater p = absurd p

-- no key is below the first of keys that rise
unfound : {X : Type 0} (q x : Name) (es : List (Name × X)) → R q x ≡ Less → T (below_all R x es) → find R q es ≡ None
unfound q x [] p h = refl
unfound q x (e ∷ es) p h =
    let parts = both _ _ h in
    let below : R q e.0 ≡ Less = nat_list_cmp_total.trans q x e.0 p (less _ parts.0) in
    rw below (unfound q x es p parts.1)

pub find-placed : {X : Type 0} (q : Name) (ns : List Name) (vs : List X) → length ns ≡ length vs → T (is_sorted R (zip ns vs)) → find R q (zip ns vs) ≡ row_at vs (place_of q ns)
find-placed q [] vs paired h = refl
find-placed q (n ∷ ns) [] paired h = absurd (omega arith)
find-placed q (n ∷ ns) (v ∷ vs) paired h =
    let parts = both _ _ h in
    let same : length ns ≡ length vs = omega arith in
    by_case (R q n) refl (unfound q n (zip ns vs)) (find-placed q ns vs same parts.1) parts.0
  where
    by_case : (o : Ordering) → R q n ≡ o → (R q n ≡ Less → T (below_all R n (zip ns vs)) → find R q (zip ns vs) ≡ None) → find R q (zip ns vs) ≡ row_at vs (place_of q ns) → T (below_all R n (zip ns vs))
        → find R q ((n, v) ∷ zip ns vs) ≡ row_at (v ∷ vs) (place_by (R q n) (place_of q ns))
    by_case Less e none rest below = rw e (none e below)
    by_case Equal e none rest below = rw e refl
    by_case Greater e none rest below = rw e (rest ∙ later (place_of q ns))
      where
        later : (p : Result ℕ ℕ) → row_at vs p ≡ row_at (v ∷ vs) (shifted p)
        later (Ok i) = refl
        later (Err i) = refl

-- below the length, or at most it
abbrev PlaceFits : ℕ → Result ℕ ℕ → Type 0
PlaceFits n (Ok i) = i < n
PlaceFits n (Err i) = i ≤ n

-- ---- what is put

abbrev pub names_put : Name → List Name → Result ℕ ℕ → List Name
names_put q ns (Ok i) = ns
names_put q ns (Err i) = insert ns i q

abbrev pub values_put : {X : Type 0} → X → List X → Result ℕ ℕ → List X
values_put v vs (Ok i) = set vs i v
values_put v vs (Err i) = insert vs i v

pub put-placed : {X : Type 0} (q : Name) (x : X) (ns : List Name) (vs : List X) → length ns ≡ length vs
    → put R q x (zip ns vs) ≡ zip (names_put q ns (place_of q ns)) (values_put x vs (place_of q ns))
put-placed q x [] [] paired = refl
put-placed q x [] (v ∷ vs) paired = absurd (omega arith)
put-placed q x (n ∷ ns) [] paired = absurd (omega arith)
put-placed q x (n ∷ ns) (v ∷ vs) paired =
    let same : length ns ≡ length vs = omega arith in
    by_case (R q n) refl (put-placed q x ns vs same)
  where
    by_case : (o : Ordering) → R q n ≡ o → put R q x (zip ns vs) ≡ zip (names_put q ns (place_of q ns)) (values_put x vs (place_of q ns))
        → put R q x ((n, v) ∷ zip ns vs) ≡ zip (names_put q (n ∷ ns) (place_by (R q n) (place_of q ns))) (values_put x (v ∷ vs) (place_by (R q n) (place_of q ns)))
    by_case Less e rest = rw e refl
    by_case Equal e rest = rw e refl
    by_case Greater e rest = rw e (ap (λ es. (n, v) ∷ es) rest ∙ later (place_of q ns))
      where
        later : (p : Result ℕ ℕ) → (n, v) ∷ zip (names_put q ns p) (values_put x vs p) ≡ zip (names_put q (n ∷ ns) (shifted p)) (values_put x (v ∷ vs) (shifted p))
        later (Ok i) = refl
        later (Err i) = refl

-- ---- the table of names and values in order

abbrev pub table_of : {X : Type 0} → List Name → List X → FinMap R X
table_of ns vs = table.from_sorted (zip ns vs)

entries_of : {X : Type 0} (ns : List Name) (vs : List X) → IsInOrder ns vs → table.entries (table_of ns vs) ≡ zip ns vs
entries_of ns vs h = entries-from_sorted R (zip ns vs) (as_T _ h.sorted)

zip_size : {X : Type 0} (ns : List Name) (vs : List X) → length ns ≡ length vs → length (zip ns vs) ≡ length ns
zip_size [] vs h = refl
zip_size (n ∷ ns) [] h = absurd (omega arith)
zip_size (n ∷ ns) (v ∷ vs) h = let same : length ns ≡ length vs = omega arith in ap suc (zip_size ns vs same)

zip_values : {X : Type 0} (ns : List Name) (vs : List X) → length ns ≡ length vs → map (λ (e : Name × X). e.1) (zip ns vs) ≡ vs
zip_values [] [] h = refl
zip_values [] (v ∷ vs) h = absurd (omega arith)
zip_values (n ∷ ns) [] h = absurd (omega arith)
zip_values (n ∷ ns) (v ∷ vs) h = let same : length ns ≡ length vs = omega arith in ap (λ xs. v ∷ xs) (zip_values ns vs same)

pub len-table_of : {X : Type 0} (ns : List Name) (vs : List X) → IsInOrder ns vs → table.len (table_of ns vs) ≡ length ns
len-table_of ns vs h = len-entries (table_of ns vs) ∙ ap length (entries_of ns vs h) ∙ zip_size ns vs h.paired

pub values-table_of : {X : Type 0} (ns : List Name) (vs : List X) → IsInOrder ns vs → table.values (table_of ns vs) ≡ vs
values-table_of ns vs h = ap (map (λ e. e.1)) (entries_of ns vs h) ∙ zip_values ns vs h.paired

pub get-table_of : {X : Type 0} (q : Name) (ns : List Name) (vs : List X) → IsInOrder ns vs → table.get (table_of ns vs) q ≡ row_at vs (place_of q ns)
get-table_of q ns vs h = get-from_sorted R (zip ns vs) q (as_T _ h.sorted) ∙ find-placed q ns vs h.paired (as_T _ h.sorted)

pub empty-table_of : {X : Type 0} → table_of {X = X} [] [] ≡ table.empty
empty-table_of {X} = table.empty_of_len (table_of {X = X} [] []) (len-table_of {X = X} [] [] (record { paired = refl; sorted = refl }))

-- ---- the same after a value was put

insert_size : {A : Type 0} (xs : List A) (i : ℕ) (y : A) → length (insert xs i y) ≡ suc (length xs)
insert_size xs zero y = refl
insert_size [] (suc i) y = refl
insert_size (x ∷ xs) (suc i) y = ap suc (insert_size xs i y)

set_size : {A : Type 0} (xs : List A) (i : ℕ) (y : A) → length (set xs i y) ≡ length xs
set_size [] i y = refl
set_size (x ∷ xs) zero y = refl
set_size (x ∷ xs) (suc i) y = ap suc (set_size xs i y)

size_put : {X : Type 0} (q : Name) (x : X) (ns : List Name) (vs : List X) (p : Result ℕ ℕ) → length ns ≡ length vs → length (names_put q ns p) ≡ length (values_put x vs p)
size_put q x ns vs (Ok i) h = h ∙ sym (set_size vs i x)
size_put q x ns vs (Err i) h = insert_size ns i q ∙ ap suc h ∙ sym (insert_size vs i x)

pub in_order_put : {X : Type 0} (q : Name) (x : X) (ns : List Name) (vs : List X) → IsInOrder ns vs → IsInOrder (names_put q ns (place_of q ns)) (values_put x vs (place_of q ns))
in_order_put q x ns vs h = record {
  paired = size_put q x ns vs (place_of q ns) h.paired;
  sorted = subst (λ es. IsTrue (is_sorted R es)) (put-placed q x ns vs h.paired) (from_T _ (is_sorted-put R nat_list_cmp_total q x (zip ns vs) (as_T _ h.sorted)));
}

pub insert-table_of : {X : Type 0} (q : Name) (x : X) (ns : List Name) (vs : List X) → IsInOrder ns vs
    → table_of (names_put q ns (place_of q ns)) (values_put x vs (place_of q ns)) ≡ table.insert (table_of ns vs) q x
insert-table_of q x ns vs h =
    same_entries_map _ _ (
    entries_of _ _ (in_order_put q x ns vs h) ∙ sym (put-placed q x ns vs h.paired)
    ∙ ap (put R q x) (sym (entries_of ns vs h)) ∙ sym (entries-insert nat_list_cmp_total (table_of ns vs) q x))

-- ---- by what the search for the place answered

place_fits : (q : Name) (ns : List Name) → PlaceFits (length ns) (place_of q ns)
place_fits q [] = omega arith
place_fits q (n ∷ ns) = by_case (R q n) (place_of q ns) (place_fits q ns)
  where
    by_case : (o : Ordering) (p : Result ℕ ℕ) → PlaceFits (length ns) p → PlaceFits (suc (length ns)) (place_by o p)
    by_case Less p h = omega arith
    by_case Equal p h = omega arith
    by_case Greater (Ok i) h = omega arith
    by_case Greater (Err i) h = omega arith

fits_as : (q : Name) (ns ns' : List Name) (p : Result ℕ ℕ) → ns' ≡ ns → p ≡ place_of q ns' → PlaceFits (length ns) p
fits_as q ns ns' p same is = subst (PlaceFits (length ns)) (sym (is ∙ ap (place_of q) same)) (place_fits q ns)

pub found_fits : {X : Type 0} (q : Name) (ns ns' : List Name) (vs : List X) (i : ℕ) → IsInOrder ns vs → ns' ≡ ns → Ok i ≡ place_of q ns' → i < length vs
found_fits q ns ns' vs i h same is = let within : i < length ns = fits_as q ns ns' (Ok i) same is in let paired = h.paired in omega arith

pub missing_fits : {X : Type 0} (q : Name) (ns ns' : List Name) (vs : List X) (i : ℕ) → IsInOrder ns vs → ns' ≡ ns → Err i ≡ place_of q ns' → (i ≤ length ns) × (i ≤ length vs)
missing_fits q ns ns' vs i h same is = let within : i ≤ length ns = fits_as q ns ns' (Err i) same is in let paired = h.paired in (within, omega arith)

pub get_placed : {X : Type 0} (q : Name) (ns ns' : List Name) (vs : List X) (p : Result ℕ ℕ) → IsInOrder ns vs → ns' ≡ ns → p ≡ place_of q ns' → row_at vs p ≡ table.get (table_of ns vs) q
get_placed q ns ns' vs p h same is = ap (row_at vs) (is ∙ ap (place_of q) same) ∙ sym (get-table_of q ns vs h)

pub in_order_placed : {X : Type 0} (q : Name) (x : X) (ns ns' : List Name) (vs : List X) (p : Result ℕ ℕ) → IsInOrder ns vs → ns' ≡ ns → p ≡ place_of q ns'
    → IsInOrder (names_put q ns p) (values_put x vs p)
in_order_placed q x ns ns' vs p h same is =
    subst (λ r. IsInOrder (names_put q ns r) (values_put x vs r)) (sym (is ∙ ap (place_of q) same)) (in_order_put q x ns vs h)

pub insert_placed : {X : Type 0} (q : Name) (x : X) (ns ns' : List Name) (vs : List X) (p : Result ℕ ℕ) → IsInOrder ns vs → ns' ≡ ns → p ≡ place_of q ns'
    → table_of (names_put q ns p) (values_put x vs p) ≡ table.insert (table_of ns vs) q x
insert_placed q x ns ns' vs p h same is =
    subst (λ r. table_of (names_put q ns r) (values_put x vs r) ≡ table.insert (table_of ns vs) q x) (sym (is ∙ ap (place_of q) same)) (insert-table_of q x ns vs h)

pub found_at : {X : Type 0} (vs : List X) (k : ℕ) (x : X) → k < length vs → x ≡ get_or vs k x → Some x ≡ slice_get vs k
found_at [] k x h is = absurd (omega arith)
found_at (v ∷ vs) zero x h is = ap Some is
found_at (v ∷ vs) (suc k) x h is = let within : k < length vs = omega arith in found_at vs k x within is
