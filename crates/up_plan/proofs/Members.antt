-- Members of a list, by recursion.
use Rattle.std.proofs.Common.{◌≡◌, ℕ, ◌<◌, ◌⊎◌, ◌&&◌, ◌||◌, List, [], ◌∷◌, ◌++◌, Bool, true, false, cond, length, get_or, refl, sym, ◌∙◌, ap, subst, inl, inr, arith}
use Rattle.std.specs.Prelude.{map, filter, flat_map, suc, zero}
use Rattle.std.specs.List.{list_any, All, Contains}
use Rattle.std.proofs.lemmas.List.Elements.{Contains-append_right}

abbrev pub In : {A : Type 0} → List A → A → Type 0
In [] x = ⊥
In (y ∷ ys) x = (y ≡ x) ⊎ In ys x

module _ {A : Type 0} where
  pub in_at : (xs : List A) (k : ℕ) (d : A) → k < length xs → In xs (get_or xs k d)
  in_at [] k d h = omega arith
  in_at (x ∷ xs) zero d h = inl refl
  in_at (x ∷ xs) (suc k) d h = inr (in_at xs k d (omega arith))

  pub in_from : (xs : List A) (x : A) → Contains xs x → In xs x
  in_from xs x h = subst (In xs) h.2 (in_at xs h.0 x h.1)

  pub contains_from : (xs : List A) (x : A) → In xs x → Contains xs x
  contains_from [] x h = absurd h
  contains_from (y ∷ xs) x (inl e) = subst (Contains (y ∷ xs)) e (zero, omega arith, refl)
  contains_from (y ∷ xs) x (inr h) = Contains-append_right (y ∷ []) xs x (contains_from xs x h)

  pub all_from : (P : A → Type 0) (xs : List A) → ((x : A) → In xs x → P x) → All P xs
  all_from P xs h = λ k d lt. h (get_or xs k d) (in_at xs k d lt)

  pub in_append : (xs ys : List A) (x : A) → In (xs ++ ys) x → In xs x ⊎ In ys x
  in_append [] ys x h = inr h
  in_append (y ∷ xs) ys x (inl e) = inl (inl e)
  in_append (y ∷ xs) ys x (inr h) = elim (in_append xs ys x h) [ inl l ↦ inl (inr l) | inr r ↦ inr r ]

  pub in_left : (xs ys : List A) (x : A) → In xs x → In (xs ++ ys) x
  in_left [] ys x h = absurd h
  in_left (y ∷ xs) ys x (inl e) = inl e
  in_left (y ∷ xs) ys x (inr h) = inr (in_left xs ys x h)

  pub in_right : (xs ys : List A) (x : A) → In ys x → In (xs ++ ys) x
  in_right [] ys x h = h
  in_right (y ∷ xs) ys x h = inr (in_right xs ys x h)

  module _ (p : A → Bool) where
    filter_step : (y : A) (ys : List A) (x : A) (b : Bool) → p y ≡ b → (In (filter p ys) x → In ys x × (p x ≡ true)) → In (cond b (y ∷ filter p ys) (filter p ys)) x → In (y ∷ ys) x × (p x ≡ true)
    filter_step y ys x true e ih (inl same) = (inl same, ap p (sym same) ∙ e)
    filter_step y ys x true e ih (inr h) = (inr (ih h).0, (ih h).1)
    filter_step y ys x false e ih h = (inr (ih h).0, (ih h).1)

    pub in_filter : (xs : List A) (x : A) → In (filter p xs) x → In xs x × (p x ≡ true)
    in_filter [] x h = absurd h
    in_filter (y ∷ ys) x h = filter_step y ys x (p y) refl (in_filter ys x) h

    kept_step : (y : A) (ys : List A) (x : A) (b : Bool) → p y ≡ b → p x ≡ true → (y ≡ x) ⊎ In (filter p ys) x → In (cond b (y ∷ filter p ys) (filter p ys)) x
    kept_step y ys x true e passes h = h
    kept_step y ys x false e passes (inl same) = let no : false ≡ true = sym e ∙ ap p same ∙ passes in cc
    kept_step y ys x false e passes (inr h) = h

    pub filter_in : (xs : List A) (x : A) → In xs x → p x ≡ true → In (filter p xs) x
    filter_in [] x h passes = absurd h
    filter_in (y ∷ ys) x (inl e) passes = kept_step y ys x (p y) refl passes (inl e)
    filter_in (y ∷ ys) x (inr h) passes = kept_step y ys x (p y) refl passes (inr (filter_in ys x h passes))

    any_step : (y : A) (ys : List A) (b : Bool) → p y ≡ b → (list_any p ys ≡ true → (x : A) × In ys x × (p x ≡ true)) → (b || list_any p ys) ≡ true → (x : A) × In (y ∷ ys) x × (p x ≡ true)
    any_step y ys true e ih h = (y, inl refl, e)
    any_step y ys false e ih h = let found = ih h in (found.0, inr found.1, found.2)

    pub in_any : (xs : List A) → list_any p xs ≡ true → (x : A) × In xs x × (p x ≡ true)
    in_any [] h = cc
    in_any (y ∷ ys) h = any_step y ys (p y) refl (in_any ys) h

    or_true : (b : Bool) → (b || true) ≡ true
    or_true true = refl
    or_true false = refl

    pub any_in : (xs : List A) (x : A) → In xs x → p x ≡ true → list_any p xs ≡ true
    any_in [] x h passes = absurd h
    any_in (y ∷ ys) x (inl e) passes = ap (λ b. b || list_any p ys) (ap p e ∙ passes)
    any_in (y ∷ ys) x (inr h) passes = ap (λ b. p y || b) (any_in ys x h passes) ∙ or_true (p y)

module _ {A B : Type 0} where
  pub in_map : (f : A → B) (xs : List A) (y : B) → In (map f xs) y → (x : A) × In xs x × (f x ≡ y)
  in_map f [] y h = absurd h
  in_map f (x ∷ xs) y (inl e) = (x, inl refl, e)
  in_map f (x ∷ xs) y (inr h) = let found = in_map f xs y h in (found.0, inr found.1, found.2)

  pub map_in : (f : A → B) (xs : List A) (x : A) → In xs x → In (map f xs) (f x)
  map_in f [] x h = absurd h
  map_in f (y ∷ xs) x (inl e) = inl (ap f e)
  map_in f (y ∷ xs) x (inr h) = inr (map_in f xs x h)

  pub in_flat_map : (f : A → List B) (xs : List A) (y : B) → In (flat_map f xs) y → (x : A) × In xs x × In (f x) y
  in_flat_map f [] y h = absurd h
  in_flat_map f (x ∷ xs) y h =
      elim (in_append (f x) (flat_map f xs) y h) [
        | inl here ↦ (x, inl refl, here)
        | inr later ↦ let found = in_flat_map f xs y later in (found.0, inr found.1, found.2)
      ]

  pub flat_map_in : (f : A → List B) (xs : List A) (x : A) (y : B) → In xs x → In (f x) y → In (flat_map f xs) y
  flat_map_in f [] x y h k = absurd h
  flat_map_in f (z ∷ xs) x y (inl e) k = in_left (f z) (flat_map f xs) y (subst (λ w. In (f w) y) (sym e) k)
  flat_map_in f (z ∷ xs) x y (inr h) k = in_right (f z) (flat_map f xs) y (flat_map_in f xs x y h k)

-- both of a conjunction
pub both_of : (a b : Bool) → (a && b) ≡ true → (a ≡ true) × (b ≡ true)
both_of true b h = (refl, h)
both_of false b h = cc

pub both : (a b : Bool) → a ≡ true → b ≡ true → (a && b) ≡ true
both true b h k = k
both false b h k = h
