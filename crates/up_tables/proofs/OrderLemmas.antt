-- Rows that a query shows in the order of a column, as rows of the table.
use Rattle.std.proofs.Common.{◌≡◌, ◌+◌, ℕ, List, [], ◌∷◌, map, Ordering, Less, Equal, Greater, is_lt, false, refl, sym, ap, ap₂, subst, ◌∙◌, arith, get_or}
use Rattle.std.specs.List.{swap}
use Rattle.std.specs.List.Sorted.{IsPermutation, IsSorted, IsSortedByKey, SwapsInRange, apply_swaps}
use Rattle.std.specs.Ordering.{ordering_then}
use Rattle.std.proofs.lemmas.List.{length-map, map-set}
use Rattle.std.proofs.Math.ListN.{get_or-map, set}

module _ {A B : Type 0} (f : A → B) where
  map_swap : (xs : List A) (i j : ℕ) → map f (swap xs i j) ≡ swap (map f xs) i j
  map_swap [] i j = refl
  map_swap (x ∷ xs) i j =
      let all = x ∷ xs in
      map-set f (set all i (get_or all j x)) j (get_or all i x)
      ∙ ap₂ (λ ys y. set ys j y) (map-set f all i (get_or all j x) ∙ ap (λ y. set (map f all) i y) (sym (get_or-map f all j x))) (sym (get_or-map f all i x))

  map_moved : (xs : List A) (moves : List (ℕ × ℕ)) → map f (apply_swaps xs moves) ≡ apply_swaps (map f xs) moves
  map_moved xs [] = refl
  map_moved xs (m ∷ moves) = map_swap (apply_swaps xs moves) m.0 m.1 ∙ ap (λ ys. swap ys m.0 m.1) (map_moved xs moves)

  -- an order of what is told of each is one of the elements themselves
  pub ordered_back : (xs : List A) (ys : List B) → IsPermutation (map f xs) ys → (zs : List A) × IsPermutation xs zs × (ys ≡ map f zs)
  ordered_back xs ys same = (
    apply_swaps xs same.moves,
    record { moves = same.moves; below = subst (λ n. SwapsInRange n same.moves) (length-map xs f) same.below; is = refl },
    same.is ∙ sym (map_moved xs same.moves),
  )

  then_equal : (o : Ordering) → is_lt (ordering_then o Equal) ≡ is_lt o
  then_equal Less = refl
  then_equal Equal = refl
  then_equal Greater = refl

  -- what is sorted by that is sorted by the key that it compares
  pub sorted_back : {K : Type 0} (key : A → K) (cmp : K → K → Ordering) (cmp' : B → B → Ordering) → ((a b : A) → cmp' (f a) (f b) ≡ ordering_then (cmp (key a) (key b)) Equal) → (zs : List A) → IsSorted cmp' (map f zs)
      → IsSortedByKey key cmp zs
  sorted_back key cmp cmp' compares zs sorted = λ k d low high.
      let a = get_or zs (k + 1) d in
      let b = get_or zs k d in
      let here : is_lt (cmp' (get_or (map f zs) (k + 1) (f d)) (get_or (map f zs) k (f d))) ≡ false = sorted k (f d) low (omega (arith, length-map zs f, high)) in
      sym (ap is_lt (ap₂ cmp' (get_or-map f zs (k + 1) d) (get_or-map f zs k d) ∙ compares a b) ∙ then_equal (cmp (key a) (key b))) ∙ here
