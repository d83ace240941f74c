-- What a loop that takes some of the elements has taken after one more.
use Rattle.std.proofs.Common.{◌≡◌, ℕ, ◌+◌, ◌<◌, List, [], ◌∷◌, ◌++◌, Bool, true, false, Option, Some, None, length, get_or, take, refl, sym, ap, ◌∙◌, append-nil}
use Rattle.std.specs.Prelude.{◌&&◌, filter_map}
use Rattle.std.specs.List.{list_all, cons_option}
use Rattle.std.proofs.lemmas.List.{take_more}
use Rattle.std.proofs.lemmas.List.Elements.{filter_map-append}

one_more : {X Y : Type 0} (h : X → Option Y) (xs : List X) (i : ℕ) (x : X) → i < length xs → x ≡ get_or xs i x → filter_map h (take (i + 1) xs) ≡ filter_map h (take i xs) ++ cons_option (h x) []
one_more h xs i x within is =
    ap (filter_map h) (take_more xs i x within ∙ ap (λ y. take i xs ++ y ∷ []) (sym is)) ∙ filter_map-append h (take i xs) (x ∷ [])

pub passed_over : {X Y : Type 0} (h : X → Option Y) (xs : List X) (i : ℕ) (x : X) → i < length xs → x ≡ get_or xs i x → h x ≡ None → filter_map h (take (i + 1) xs) ≡ filter_map h (take i xs)
passed_over h xs i x within is none = one_more h xs i x within is ∙ ap (λ o. filter_map h (take i xs) ++ cons_option o []) none ∙ append-nil (filter_map h (take i xs))

pub taken : {X Y : Type 0} (h : X → Option Y) (xs : List X) (i : ℕ) (x : X) (y : Y) → i < length xs → x ≡ get_or xs i x → h x ≡ Some y → filter_map h (take (i + 1) xs) ≡ filter_map h (take i xs) ++ y ∷ []
taken h xs i x y within is some = one_more h xs i x within is ∙ ap (λ o. filter_map h (take i xs) ++ cons_option o []) some

pub all_and_one : {X : Type 0} (p : X → Bool) (xs : List X) (x : X) → list_all p xs ≡ true → p x ≡ true → list_all p (xs ++ x ∷ []) ≡ true
all_and_one p [] x all one = rw one refl
all_and_one p (y ∷ ys) x all one = by_test (p y) all (λ rest. all_and_one p ys x rest one)
  where
    by_test : (b : Bool) → (b && list_all p ys) ≡ true → (list_all p ys ≡ true → list_all p (ys ++ x ∷ []) ≡ true) → (b && list_all p (ys ++ x ∷ [])) ≡ true
    by_test true all more = more all
    by_test false all more = cc
