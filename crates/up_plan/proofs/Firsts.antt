-- The first of a list that is put together.
use Rattle.std.proofs.Common.{◌≡◌, List, [], ◌∷◌, ◌++◌, Bool, true, false, cond, refl}
use Rattle.std.specs.Prelude.{Some, None, map, filter, find, option_map}
use Rattle.up_canon.specs.Steps.{first_or_none}

pub first_here : {A : Type 0} (xs ys : List A) (x : A) → first_or_none xs ≡ Some x → first_or_none (xs ++ ys) ≡ Some x
first_here [] ys x h = cc
first_here (y ∷ xs) ys x h = h

pub first_later : {A : Type 0} (xs ys : List A) → first_or_none xs ≡ None → first_or_none (xs ++ ys) ≡ first_or_none ys
first_later [] ys h = refl
first_later (y ∷ xs) ys h = cc

-- what is found first is the first that passes
pub first_passing : {A B : Type 0} (f : A → B) (p : A → Bool) (xs : List A) → first_or_none (map f (filter p xs)) ≡ option_map f (find p xs)
first_passing f p [] = refl
first_passing f p (x ∷ xs) =
    elim (p x) as (λ b. first_or_none (map f (cond b (x ∷ filter p xs) (filter p xs))) ≡ option_map f (cond b (Some x) (find p xs))) [
      | true ↦ refl
      | false ↦ first_passing f p xs
    ]

pub first_found : {A B : Type 0} (f : A → B) (p : A → Bool) (xs : List A) (ys : List B) (x : A) → find p xs ≡ Some x → first_or_none (map f (filter p xs) ++ ys) ≡ Some (f x)
first_found f p xs ys x h = first_here (map f (filter p xs)) ys (f x) (rw h at (first_passing f p xs))

pub first_after : {A B : Type 0} (f : A → B) (p : A → Bool) (xs : List A) (ys : List B) → find p xs ≡ None → first_or_none (map f (filter p xs) ++ ys) ≡ first_or_none ys
first_after f p xs ys h = first_later (map f (filter p xs)) ys (rw h at (first_passing f p xs))
