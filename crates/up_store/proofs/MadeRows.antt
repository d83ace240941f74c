-- A loop that makes rows one after another.
use Rattle.std.proofs.Common.{◌≡◌, ◌+◌, ℕ, zero, suc, List, [], ◌∷◌, Some, take, slice_get, sym, subst, arith}
use Rattle.up_store.proofs.Common.{AllByRecursion}

-- what holds of the rows before a place and of the one there holds of those before the next
pub each_more : {X : Type 0} (P : X → Type 0) (rows : List X) (i : ℕ) (row : X) → AllByRecursion P (take i rows) → slice_get rows i ≡ Some row → P row → AllByRecursion P (take (i + 1) rows)
each_more P [] i row all h new = absurd (let e = h in cc)
each_more P (x ∷ xs) zero row all h new = let same : x ≡ row = cc in (subst P (sym same) new, tt)
each_more P (x ∷ xs) (suc i) row all h new =
    let next : suc (i + 1) ≡ suc i + 1 = omega arith in
    subst (λ (n : ℕ). AllByRecursion P (take n (x ∷ xs))) next (all.0, each_more P xs i row all.1 h new)
