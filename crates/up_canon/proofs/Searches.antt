-- A binary search among names that rise finds the place of a name.
use Rattle.std.proofs.Common.{◌≡◌, ℕ, zero, suc, ◌-◌, ◌<◌, ◌≤◌, List, [], ◌∷◌, true, Some, Result, Ok, Err, length, get_or, slice_get, refl, sym, ap, subst, ◌∙◌, arith}
use Rattle.std.specs.Prelude.{T}
use Rattle.std.specs.List.{AllByRecursion, AllWithin, zip}
use Rattle.std.specs.List.Sorted.{IsNonDecreasingBy, IsSearchInRange, IsBinarySearchResult, IsStrictlySortedBy}
use Rattle.std.specs.Ordering.{nat_cmp, is_lt, ordering_index, ordering_reverse}
use Rattle.std.specs.declared.cmp.Ordering.{Ordering}
use Rattle.std.specs.declared.cmp.Ordering.TheVariants.{Less, Equal, Greater}
use Rattle.std.specs.Cmp.Lexicographic.{slice_cmp}
use Rattle.std.specs.FinMap.{is_sorted}
use Rattle.std.specs.FinMap.Entries.{below_all}
use Rattle.std.proofs.lemmas.Cmp.{nat_list_cmp_total}
use Rattle.std.proofs.lemmas.Option.{get_or_from_slice_get}
use Rattle.up_canon.specs.Names.{Name}
use Rattle.up_canon.specs.Tables.{IsInOrder, shifted, place_of}
use Rattle.up_canon.proofs.TableLemmas.{both, less}

abbrev R : Name → Name → Ordering
R = slice_cmp nat_cmp

all_at : {X : Type 0} (P : X → Type 0) (xs : List X) (i : ℕ) (d : X) → AllByRecursion P xs → i < length xs → P (get_or xs i d)
all_at P [] i d h lt = absurd (omega arith)
all_at P (x ∷ xs) zero d h lt = h.0
all_at P (x ∷ xs) (suc i) d h lt = all_at P xs i d h.1 (omega arith)

turned : (x y : Name) (o : Ordering) → R x y ≡ o → R y x ≡ ordering_reverse o
turned x y o h = nat_list_cmp_total.antisymm y x ∙ ap ordering_reverse h

bottom : (o : Ordering) → ordering_index o ≤ 0 → o ≡ Less
bottom Less h = refl
bottom Equal h = absurd (omega arith)
bottom Greater h = absurd (omega arith)

is_less : (o : Ordering) → is_lt o ≡ true → o ≡ Less
is_less Less h = refl
is_less Equal h = cc
is_less Greater h = cc

at_most : (o : Ordering) → ordering_index o ≤ 2
at_most Less = omega arith
at_most Equal = omega arith
at_most Greater = omega arith

-- the lower of two names doesn't compare higher
lower : (q x y : Name) → R x y ≡ Less → ordering_index (R x q) ≤ ordering_index (R y q)
lower q x y h = by_case (R y q) refl
  where
    by_case : (o : Ordering) → R y q ≡ o → ordering_index (R x q) ≤ ordering_index o
    by_case Less e = let below = nat_list_cmp_total.trans x y q h e in omega (arith, ap ordering_index below)
    by_case Equal e =
        let above : R q x ≡ Greater = sym (nat_list_cmp_total.congr y q x e) ∙ turned x y Less h in
        let below = turned q x Greater above in
        omega (arith, ap ordering_index below)
    by_case Greater e = at_most (R x q)

rises : (q : Name) (ns : List Name) → IsStrictlySortedBy R ns → IsNonDecreasingBy (λ y. ordering_index (R y q)) ns
unfolding IsStrictlySortedBy
rises q [] h i j d le lt = absurd (omega arith)
rises q (n ∷ ns) h zero zero d le lt = omega arith
rises q (n ∷ ns) h zero (suc j) d le lt = lower q n (get_or ns j d) (all_at (λ y. R n y ≡ Less) ns j d h.0 (omega arith))
rises q (n ∷ ns) h (suc i) zero d le lt = absurd (omega arith)
rises q (n ∷ ns) h (suc i) (suc j) d le lt = rises q ns h.1 i j d (omega arith) (omega arith)

found : (q : Name) (ns : List Name) (i : ℕ) → IsStrictlySortedBy R ns → i < length ns → ((d : Name) → R (get_or ns i d) q ≡ Equal) → Ok i ≡ place_of q ns
unfolding IsStrictlySortedBy
found q [] i h lt eq = absurd (omega arith)
found q (n ∷ ns) zero h lt eq = let here : R q n ≡ Equal = turned n q Equal (eq n) in rw here refl
found q (n ∷ ns) (suc i) h lt eq =
    let x = get_or ns i n in
    let within : i < length ns = omega arith in
    let below : R n x ≡ Less = all_at (λ y. R n y ≡ Less) ns i n h.0 within in
    let here : R q n ≡ Greater = sym (nat_list_cmp_total.congr x q n (eq n)) ∙ turned n x Less below in
    rw here (ap shifted (found q ns i h.1 within eq))

gap : (q : Name) (ns : List Name) (i : ℕ) → i ≤ length ns → AllWithin (λ y. R y q ≡ Less) ns 0 i → AllWithin (λ y. R y q ≡ Greater) ns i (length ns) → Err i ≡ place_of q ns
gap q [] zero le low high = refl
gap q [] (suc i) le low high = absurd (omega arith)
gap q (n ∷ ns) zero le low high = let here : R q n ≡ Less = turned n q Greater (high 0 n (omega arith) (omega arith)) in rw here refl
gap q (n ∷ ns) (suc i) le low high =
    let here : R q n ≡ Greater = turned n q Less (low 0 n (omega arith) (omega arith)) in
    rw here (ap shifted (gap q ns i (omega arith) (λ k d a b. low (suc k) d (omega arith) (omega arith)) (λ k d a b. high (suc k) d (omega arith) (omega arith))))

pub searched : (q : Name) (ns : List Name) (r : Result ℕ ℕ) → IsStrictlySortedBy R ns → IsSearchInRange r (length ns) → IsBinarySearchResult (λ y. R y q) ns r → r ≡ place_of q ns
searched q ns (Ok i) h within at = found q ns i h within at
searched q ns (Err i) h within at = let parts = at (rises q ns h) in gap q ns i within parts.0 parts.1

-- behind the last name
pub behind : (q : Name) (ns : List Name) (last : Name) → IsStrictlySortedBy R ns → slice_get ns (length ns - 1) ≡ Some last → is_lt (R last q) ≡ true → Err (length ns) ≡ place_of q ns
behind q ns last h is below =
    let here : (d : Name) → get_or ns (length ns - 1) d ≡ last = λ d. get_or_from_slice_get ns (length ns - 1) last d is in
    let less : R last q ≡ Less = is_less (R last q) below in
    gap q ns (length ns) (omega arith)
    (λ k d a b. bottom _ (subst (λ (o : Ordering). ordering_index (R (get_or ns k d) q) ≤ ordering_index o) (ap (λ x. R x q) (here d) ∙ less) (rises q ns h k (length ns - 1) d (omega arith) (omega arith))))
    (λ k d a b. absurd (omega arith))

-- ---- the names of a table in order rise

first_below : {X : Type 0} (n : Name) (ns : List Name) (vs : List X) → length ns ≡ length vs → T (below_all R n (zip ns vs)) → AllByRecursion (λ y. R n y ≡ Less) ns
first_below n [] vs paired h = tt
first_below n (m ∷ ns) [] paired h = absurd (omega arith)
first_below n (m ∷ ns) (v ∷ vs) paired h = let same : length ns ≡ length vs = omega arith in let parts = both _ _ h in (less _ parts.0, first_below n ns vs same parts.1)

names_rise : {X : Type 0} (ns : List Name) (vs : List X) → length ns ≡ length vs → T (is_sorted R (zip ns vs)) → IsStrictlySortedBy R ns
unfolding IsStrictlySortedBy
names_rise [] vs paired h = tt
names_rise (n ∷ ns) [] paired h = absurd (omega arith)
names_rise (n ∷ ns) (v ∷ vs) paired h = let same : length ns ≡ length vs = omega arith in let parts = both _ _ h in (first_below n ns vs same parts.0, names_rise ns vs same parts.1)

pub in_order_rise : {X : Type 0} (ns : List Name) (vs : List X) → IsInOrder ns vs → IsStrictlySortedBy R ns
in_order_rise ns vs h = names_rise ns vs h.paired (subst T (sym h.sorted) tt)
