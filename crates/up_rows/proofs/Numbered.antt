-- Numbered items, and one more at the end.
use Rattle.std.proofs.Common.{◌≡◌, ℕ, suc, ◌+◌, List, [], ◌∷◌, ◌++◌, map, ap, ◌∙◌, arith}
use Rattle.std.specs.Prelude.{length}
use Rattle.std.specs.List.{enumerate_from}

pub numbered_push : {A B : Type 0} (f : ℕ × A → B) (n : ℕ) (xs : List A) (x : A) → map f (enumerate_from n (xs ++ x ∷ [])) ≡ map f (enumerate_from n xs) ++ f (n + length xs, x) ∷ []
numbered_push f n [] x = ap (λ i. f (i, x) ∷ []) (none n)
  where
    none : (n : ℕ) → n ≡ n + 0
    none n = omega arith
numbered_push f n (y ∷ xs) x = ap (λ ys. f (n, y) ∷ ys) (numbered_push f (n + 1) xs x ∙ ap (λ i. map f (enumerate_from (n + 1) xs) ++ f (i, x) ∷ []) (later n (length xs)))
  where
    later : (n i : ℕ) → n + 1 + i ≡ n + suc i
    later n i = omega arith
