-- In a list that is sorted by names, the items of one name are a part of it between two searches.
use Rattle.std.proofs.Common.{◌≡◌, ℕ, zero, suc, ◌+◌, ◌≤◌, List, [], ◌∷◌, Bool, true, false, length, get_or, take, drop, refl, sym, ◌∙◌, bytes_eq, arith}
use Rattle.std.specs.Prelude.{filter}
use Rattle.std.specs.List.{AllWithin}
use Rattle.std.specs.List.Sorted.{IsNonDecreasingBy, IsPartitionedBy, IsPartitionPoint, IsSortedByKey}
use Rattle.std.specs.Ordering.{nat_cmp, is_eq, is_lt, ordering_index}
use Rattle.std.specs.declared.cmp.Ordering.{Ordering}
use Rattle.std.specs.declared.cmp.Ordering.TheVariants.{Less, Equal, Greater}
use Rattle.std.specs.Cmp.{both_ways}
use Rattle.std.specs.Cmp.Lexicographic.{bytes_decides, slice_cmp}
use Rattle.std.proofs.lemmas.Cmp.{nat_list_cmp_total}
use Rattle.std.proofs.lemmas.List.{get_or-drop, length-drop}
use Rattle.std.proofs.lemmas.List.Sorted.{IsNonDecreasingBy-drop, searchable_from_sorted}
use Rattle.std.proofs.lemmas.Map.Text.{is_eq-slice_cmp}
use Rattle.up_canon.specs.Names.{Name}

abbrev R : Name → Name → Ordering
R = slice_cmp nat_cmp

-- ---- what a filter keeps of a list whose items pass up to a place

module _ {A : Type 0} (p : A → Bool) where
  kept : (x : A) (xs ys : List A) → p x ≡ true → filter p xs ≡ ys → filter p (x ∷ xs) ≡ x ∷ ys
  kept x xs ys pass rest = rw (pass, rest) refl

  left : (x : A) (xs ys : List A) → p x ≡ false → filter p xs ≡ ys → filter p (x ∷ xs) ≡ ys
  left x xs ys fail rest = rw (fail, rest) refl

  pub filter_past : (xs : List A) (i : ℕ) → AllWithin (λ x. p x ≡ false) xs 0 i → filter p xs ≡ filter p (drop i xs)
  filter_past xs zero none = refl
  filter_past [] (suc i) none = refl
  filter_past (x ∷ xs) (suc i) none = left x xs _ (none 0 x (omega arith) (omega arith)) (filter_past xs i (λ k d low high. none (suc k) d (omega arith) (omega arith)))

  filter_none : (xs : List A) → AllWithin (λ x. p x ≡ false) xs 0 (length xs) → filter p xs ≡ []
  filter_none [] none = refl
  filter_none (x ∷ xs) none = left x xs [] (none 0 x (omega arith) (omega arith)) (filter_none xs (λ k d low high. none (suc k) d (omega arith) (omega arith)))

  pub filter_to : (xs : List A) (i : ℕ) → IsPartitionPoint (λ x. p x ≡ true) (λ x. p x ≡ false) xs i → filter p xs ≡ take i xs
  filter_to xs zero point = filter_none xs point.1
  filter_to [] (suc i) point = refl
  filter_to (x ∷ xs) (suc i) point =
      kept x xs _ (point.0 0 x (omega arith) (omega arith))
      (filter_to xs i (λ k d low high. point.0 (suc k) d (omega arith) (omega arith), λ k d low high. point.1 (suc k) d (omega arith) (omega arith)))

-- ---- three ways that a name compares

no_higher : (a b : Ordering) → ordering_index a ≤ ordering_index b → is_lt b ≡ true → is_lt a ≡ true
no_higher Less b le h = refl
no_higher Equal Less le h = absurd (omega arith)
no_higher Greater Less le h = absurd (omega arith)
no_higher Equal Equal le h = cc
no_higher Equal Greater le h = cc
no_higher Greater Equal le h = cc
no_higher Greater Greater le h = cc

between : (a b : Ordering) → ordering_index a ≤ ordering_index b → is_lt a ≡ false → is_eq b ≡ true → is_eq a ≡ true
between Less b le h k = cc
between Equal b le h k = refl
between Greater Less le h k = cc
between Greater Equal le h k = absurd (omega arith)
between Greater Greater le h k = cc

apart : (a : Ordering) → is_lt a ≡ true → is_eq a ≡ false
apart Less h = refl
apart Equal h = cc
apart Greater h = cc

bytes_turned : (a b : Name) → bytes_eq a b ≡ bytes_eq b a
bytes_turned a b = both_ways (bytes_eq a b) (bytes_eq b a) (λ h. (bytes_decides b a).1 (sym ((bytes_decides a b).0 h))) (λ h. (bytes_decides a b).1 (sym ((bytes_decides b a).0 h)))

turned : (a b : Name) → is_eq (R a b) ≡ bytes_eq b a
turned a b = is_eq-slice_cmp a b ∙ bytes_turned a b

-- ---- a name's items among those in byte order

module _ {A : Type 0} (name : A → Name) (q : Name) (xs : List A) (order : IsSortedByKey name R xs) where
  rises : IsNonDecreasingBy (λ x. ordering_index (R (name x) q)) xs
  rises = searchable_from_sorted nat_list_cmp_total name xs q order

  pub below_first : IsPartitionedBy (λ x. is_lt (R (name x) q)) xs
  below_first i j d le within below = no_higher (R (name (get_or xs i d)) q) (R (name (get_or xs j d)) q) (rises i j d le within) below

  module _ (first : ℕ) (within : first ≤ length xs) (point : IsPartitionPoint (λ x. is_lt (R (name x) q) ≡ true) (λ x. is_lt (R (name x) q) ≡ false) xs first) where
    same_of : (x : A) → is_eq (R (name x) q) ≡ bytes_eq q (name x)
    same_of x = turned (name x) q

    pub equal_first : IsPartitionedBy (λ x. bytes_eq q (name x)) (drop first xs)
    equal_first i j d le below same =
        sym (same_of (get_or (drop first xs) i d))
        ∙ between (R (name (get_or (drop first xs) i d)) q) (R (name (get_or (drop first xs) j d)) q)
        (IsNonDecreasingBy-drop (λ x. ordering_index (R (name x) q)) first xs rises i j d le below)
        (rw (get_or-drop first xs i d) (point.1 (first + i) d (omega arith) (omega (arith, length-drop first xs))))
        (same_of (get_or (drop first xs) j d) ∙ same)

    pub range_is : (count : ℕ) → IsPartitionPoint (λ x. bytes_eq q (name x) ≡ true) (λ x. bytes_eq q (name x) ≡ false) (drop first xs) count
        → take count (drop first xs) ≡ filter (λ x. bytes_eq q (name x)) xs
    range_is count end =
        sym (filter_past (λ x. bytes_eq q (name x)) xs first (λ k d low high. sym (same_of (get_or xs k d)) ∙ apart (R (name (get_or xs k d)) q) (point.0 k d low high))
        ∙ filter_to (λ x. bytes_eq q (name x)) (drop first xs) count end)
