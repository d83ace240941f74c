-- How many of the keys that are shown signed.
use Rattle.std.proofs.Common.{◌≡◌, ℕ, ◌+◌, List, [], ◌∷◌, Bool, true, false, Option, Some, None, refl, arith}
use Rattle.std.specs.Prelude.{cond, count_by, nat_le, option_map, unwrap_or}
use Rattle.std.specs.List.{cons_option}
use Rattle.std.proofs.lemmas.List.Sums.{sum_by-cons}

-- a key counts where it shows a public part that passes
pub count_cons : (s : List ℕ → Bool) (o : Option (List ℕ)) (xs : List (List ℕ))
    → count_by s (cons_option o xs) ≡ cond (unwrap_or (option_map s o) false) 1 0 + count_by s xs
count_cons s None xs = omega arith
count_cons s (Some x) xs = sum_by-cons (λ y. cond (s y) 1 0) x xs

-- one key is enough where it passes
pub one_counts : (s : List ℕ → Bool) (p : List ℕ) → nat_le 1 (count_by s (p ∷ [])) ≡ s p
one_counts s p = by_test (s p)
  where
    by_test : (b : Bool) → nat_le 1 (0 + cond b 1 0) ≡ b
    by_test true = refl
    by_test false = refl
