-- The items of a list by their place, which counts from 0, and by their number, which counts from 1.
use Rattle.std.proofs.Common.{◌≡◌, ℕ, zero, suc, ◌+◌, ◌-◌, ◌<◌, ◌≤◌, List, [], ◌∷◌, ◌++◌, Bool, true, false, cond, Some, None, ◌⊎◌, inl, inr, refl, sym, ap, ◌∙◌, arith}
use Rattle.std.specs.Prelude.{length, slice_get, ◌==◌}
use Rattle.std.proofs.lemmas.Bool.{ne_eqb}
use Rattle.std.proofs.lemmas.List.{length-append}
use Rattle.std.proofs.lemmas.Option.{slice_get_within}
use Rattle.up_machine.specs.State.{nth}

pub nth_at_place : {A : Type 0} (xs : List A) (i place : ℕ) (x : A) → i ≡ 1 + place → slice_get xs place ≡ Some x → nth xs i ≡ Some x
nth_at_place xs i place x is there =
    let some = ne_eqb i 0 (λ e. omega arith) in
    let before : i - 1 ≡ place = omega arith in
    rw some (ap (slice_get xs) before ∙ there)

-- ---- where more items follow

pub slice_get-append : {A : Type 0} (xs ys : List A) (i : ℕ) → i < length xs → slice_get (xs ++ ys) i ≡ slice_get xs i
slice_get-append [] ys i h = absurd (omega arith)
slice_get-append (x ∷ xs) ys zero h = refl
slice_get-append (x ∷ xs) ys (suc i) h = slice_get-append xs ys i (omega arith)

pub nth-append : {A : Type 0} (xs ys : List A) (i : ℕ) → i ≤ length xs → nth (xs ++ ys) i ≡ nth xs i
nth-append xs ys zero h = refl
nth-append xs ys (suc i) h = ap (cond (suc i == 0) None) (slice_get-append xs ys (suc i - 1) (omega arith))

-- the i-th of a list stays where more follow
pub nth_stays : {A : Type 0} (xs ys : List A) (i : ℕ) (x : A) → nth xs i ≡ Some x → nth (xs ++ ys) i ≡ Some x
nth_stays xs ys i x h = by_test (i == 0) refl h
  where
    by_test : (b : Bool) → (i == 0) ≡ b → cond b None (slice_get xs (i - 1)) ≡ Some x → cond b None (slice_get (xs ++ ys) (i - 1)) ≡ Some x
    by_test true e h = cc
    by_test false e h = slice_get-append xs ys (i - 1) (slice_get_within xs (i - 1) x h) ∙ h

-- ---- one more item at the end

pub slice_get-last : {A : Type 0} (xs : List A) (x : A) → slice_get (xs ++ x ∷ []) (length xs) ≡ Some x
slice_get-last [] x = refl
slice_get-last (y ∷ xs) x = slice_get-last xs x

pub nth_last : {A : Type 0} (xs : List A) (x : A) → nth (xs ++ x ∷ []) (length (xs ++ x ∷ [])) ≡ Some x
nth_last xs x =
    let size = length-append xs (x ∷ []) in
    nth_at_place (xs ++ x ∷ []) (length (xs ++ x ∷ [])) (length xs) x (omega arith) (slice_get-last xs x)

-- ---- within a list

at_place : {A : Type 0} (ys : List A) (i : ℕ) → suc i ≤ length ys → (y : A) × (slice_get ys i ≡ Some y)
at_place [] i h = absurd (omega arith)
at_place (y ∷ ys) zero h = (y, refl)
at_place (y ∷ ys) (suc i) h = at_place ys i (omega arith)

pub nth_there : {A : Type 0} (xs : List A) (i : ℕ) → 1 ≤ i → i ≤ length xs → (x : A) × (nth xs i ≡ Some x)
nth_there xs zero low high = absurd (omega arith)
nth_there xs (suc i) low high =
    let some = ne_eqb (suc i) 0 (λ e. omega arith) in
    let before : suc i - 1 ≡ i = omega arith in
    let found = at_place xs i (omega arith) in
    (found.0, rw some (ap (slice_get xs) before ∙ found.1))

pub place_of : {A : Type 0} (xs : List A) (i : ℕ) (x : A) → nth xs i ≡ Some x → (place : ℕ) × (i ≡ 1 + place) × (slice_get xs place ≡ Some x)
place_of xs zero x h = cc
place_of xs (suc i) x h =
    let some = ne_eqb (suc i) 0 (λ e. omega arith) in
    let there : slice_get xs (suc i - 1) ≡ Some x = sym (ap (λ b. cond b None (slice_get xs (suc i - 1))) some) ∙ h in
    let before : suc i - 1 ≡ i = omega arith in
    (i, omega arith, ap (slice_get xs) (sym before) ∙ there)

-- ---- what an item of a longer list is

pub nth_none : {A : Type 0} (i : ℕ) (x : A) → nth [] i ≡ Some x → ⊥
nth_none zero x h = cc
nth_none (suc i) x h = let place = place_of [] (suc i) x h in let none = place.2 in cc

slice_get_one_more : {A : Type 0} (xs : List A) (y x : A) (i : ℕ) → slice_get (xs ++ y ∷ []) i ≡ Some x → (slice_get xs i ≡ Some x) ⊎ ((i ≡ length xs) × (y ≡ x))
slice_get_one_more [] y x zero h = inr (refl, cc)
slice_get_one_more [] y x (suc i) h = cc
slice_get_one_more (z ∷ xs) y x zero h = inl h
slice_get_one_more (z ∷ xs) y x (suc i) h = elim (slice_get_one_more xs y x i h) [
  | inl old ↦ inl old
  | inr new ↦ inr (ap suc new.0, new.1)
]

-- it was there, or is the one that was put behind
pub nth_one_more : {A : Type 0} (xs : List A) (y x : A) (i : ℕ) → nth (xs ++ y ∷ []) i ≡ Some x → (nth xs i ≡ Some x) ⊎ ((i ≡ length xs + 1) × (y ≡ x))
nth_one_more xs y x i h =
    let place = place_of (xs ++ y ∷ []) i x h in
    elim (slice_get_one_more xs y x place.0 place.2) [
      | inl old ↦ inl (nth_at_place xs i place.0 x place.1 old)
      | inr new ↦ inr (number place.0 place.1 new.0, new.1)
    ]
  where
    number : (p : ℕ) → i ≡ 1 + p → p ≡ length xs → i ≡ length xs + 1
    number p at last = omega (arith, at, last)
