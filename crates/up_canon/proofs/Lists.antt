-- The items of a JSON list, and what holds of each of a list.
use Rattle.std.proofs.Common.{◌≡◌, List, [], ◌∷◌, ◌++◌, refl, ap}
use Rattle.std.specs.List.{AllByRecursion}
use Rattle.serde_json.specs.Data.{Data}
use Rattle.serde_json.specs.View.{items_of}
use Rattle.up_canon.specs.Members.{items_list}

pub items_listed : (ds : List Data) → items_list (items_of ds) ≡ ds
items_listed [] = refl
items_listed (d ∷ ds) = ap (λ (rest : List Data). d ∷ rest) (items_listed ds)

-- what holds of each of two lists holds of both behind one another
pub each_of_both : {A : Type 0} (P : A → Type 0) (xs ys : List A) → AllByRecursion P xs → AllByRecursion P ys → AllByRecursion P (xs ++ ys)
each_of_both P [] ys h i = i
each_of_both P (x ∷ xs) ys h i = (h.0, each_of_both P xs ys h.1 i)
