-- What is made of no member of a list, where nothing is made of the list.
use Rattle.std.proofs.Common.{◌≡◌, ℕ, zero, suc, ◌<◌, List, [], ◌∷◌, ◌++◌, Bool, true, false, cond, length, get_or, map, refl, sym, ap, ◌∙◌, arith}
use Rattle.std.specs.Prelude.{Option, Some, filter, filter_map, flat_map}
use Rattle.std.proofs.lemmas.List.Elements.{filter_map-append}
use Rattle.up_canon.specs.Steps.{first_or_none}

pub nil_left : {A : Type 0} (xs ys : List A) → xs ++ ys ≡ [] → xs ≡ []
nil_left [] ys h = cc
nil_left (x ∷ xs) ys h = cc

pub nil_right : {A : Type 0} (xs ys : List A) → xs ++ ys ≡ [] → ys ≡ []
nil_right [] ys h = h
nil_right (x ∷ xs) ys h = cc

-- what is made of a list one after another
module _ {A B : Type 0} (g : List A → List B) (step : A → List B) (more : (x : A) (xs : List A) → g (x ∷ xs) ≡ step x ++ g xs) where
  pub none_at : (xs : List A) (i : ℕ) (x : A) → i < length xs → x ≡ get_or xs i x → g xs ≡ [] → step x ≡ []
  none_at [] i x h at none = let no : ⊥ = omega (arith, h) in absurd no
  none_at (y ∷ xs) zero x h at none = ap step at ∙ nil_left (step y) (g xs) (sym (more y xs) ∙ none)
  none_at (y ∷ xs) (suc i) x h at none = none_at xs i x (omega (arith, h)) at (nil_right (step y) (g xs) (sym (more y xs) ∙ none))

  pub none_read : (xs : List A) (i : ℕ) (d : A) → i < length xs → g xs ≡ [] → step (get_or xs i d) ≡ []
  none_read [] i d h none = let no : ⊥ = omega (arith, h) in absurd no
  none_read (y ∷ xs) zero d h none = nil_left (step y) (g xs) (sym (more y xs) ∙ none)
  none_read (y ∷ xs) (suc i) d h none = none_read xs i d (omega (arith, h)) (nil_right (step y) (g xs) (sym (more y xs) ∙ none))

pub no_first : {A : Type 0} (xs : List A) (x : A) → first_or_none xs ≡ Some x → xs ≡ [] → ⊥
no_first [] x first none = cc
no_first (y ∷ xs) x first none = cc

-- of those that pass
module _ {A B : Type 0} (f : A → List B) (p : A → Bool) where
  passing_more : (x : A) (xs : List A) → flat_map f (filter p (x ∷ xs)) ≡ cond (p x) (f x) [] ++ flat_map f (filter p xs)
  passing_more x xs = elim (p x) as (λ b. flat_map f (cond b (x ∷ filter p xs) (filter p xs)) ≡ cond b (f x) [] ++ flat_map f (filter p xs)) [ true ↦ refl | false ↦ refl ]

  pub none_passing : (xs : List A) (i : ℕ) (x : A) → i < length xs → x ≡ get_or xs i x → p x ≡ true → flat_map f (filter p xs) ≡ [] → f x ≡ []
  none_passing xs i x h at pass none = sym (ap (λ b. cond b (f x) []) pass) ∙ none_at (λ ys. flat_map f (filter p ys)) (λ y. cond (p y) (f y) []) passing_more xs i x h at none

module _ {A B : Type 0} (f : A → B) (p : A → Bool) where
  kept_more : (x : A) (xs : List A) → map f (filter p (x ∷ xs)) ≡ cond (p x) (f x ∷ []) [] ++ map f (filter p xs)
  kept_more x xs = elim (p x) as (λ b. map f (cond b (x ∷ filter p xs) (filter p xs)) ≡ cond b (f x ∷ []) [] ++ map f (filter p xs)) [ true ↦ refl | false ↦ refl ]

  pub none_kept : (xs : List A) (i : ℕ) (x : A) → i < length xs → x ≡ get_or xs i x → p x ≡ true → map f (filter p xs) ≡ [] → ⊥
  none_kept xs i x h at pass none =
      let no : f x ∷ [] ≡ [] = sym (ap (λ b. cond b (f x ∷ []) []) pass) ∙ none_at (λ ys. map f (filter p ys)) (λ y. cond (p y) (f y ∷ []) []) kept_more xs i x h at none in
      cc

module _ {A B C : Type 0} (f : A → Option B) (v : C → A) where
  found_more : (x : C) (xs : List C) → filter_map f (map v (x ∷ xs)) ≡ filter_map f (v x ∷ []) ++ filter_map f (map v xs)
  found_more x xs = filter_map-append f (v x ∷ []) (map v xs)

  pub none_found : (xs : List C) (i : ℕ) (x : C) (y : B) → i < length xs → x ≡ get_or xs i x → f (v x) ≡ Some y → filter_map f (map v xs) ≡ [] → ⊥
  none_found xs i x y h at some none =
      let nothing : filter_map f (v x ∷ []) ≡ [] = none_at (λ ys. filter_map f (map v ys)) (λ z. filter_map f (v z ∷ [])) found_more xs i x h at none in
      let no : y ∷ [] ≡ [] = rw some at nothing in
      cc
