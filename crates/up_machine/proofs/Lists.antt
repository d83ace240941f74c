-- Tests and facts over each element of a list.
use Rattle.std.proofs.Common.{◌≡◌, ℕ, zero, suc, List, [], ◌∷◌, ◌++◌, Bool, true, false, cond, Some, None, refl, sym, ap, ◌∙◌, subst}
use Rattle.std.specs.Prelude.{◌||◌, slice_get, map, find, bytes_eq}
use Rattle.std.specs.List.{AllByRecursion, list_all, list_any}
use Rattle.std.specs.Cmp.Lexicographic.{bytes_decides}

pub each_one_more : {A : Type 0} (P : A → Type 0) (xs : List A) (y : A) → AllByRecursion P xs → P y → AllByRecursion P (xs ++ y ∷ [])
each_one_more P [] y h p = (p, tt)
each_one_more P (x ∷ xs) y h p = (h.0, each_one_more P xs y h.1 p)

pub each_at : {A : Type 0} (P : A → Type 0) (xs : List A) (i : ℕ) (x : A) → AllByRecursion P xs → slice_get xs i ≡ Some x → P x
each_at P [] i x h is = cc
each_at P (y ∷ xs) zero x h is = let same : y ≡ x = cc in subst P same h.0
each_at P (y ∷ xs) (suc i) x h is = each_at P xs i x h.1 is

pub none_passes : {A : Type 0} (p : A → Bool) (xs : List A) → find p xs ≡ None → AllByRecursion (λ x. p x ≡ false) xs
none_passes p [] h = tt
none_passes p (x ∷ xs) h = by_test (p x) refl h (none_passes p xs)
  where
    by_test : (b : Bool) → p x ≡ b → cond b (Some x) (find p xs) ≡ None → (find p xs ≡ None → AllByRecursion (λ x. p x ≡ false) xs) → AllByRecursion (λ x. p x ≡ false) (x ∷ xs)
    by_test true e h more = cc
    by_test false e h more = (e, more h)

pub found_passes : {A : Type 0} (p : A → Bool) (xs : List A) (x : A) → find p xs ≡ Some x → p x ≡ true
found_passes p [] x h = cc
found_passes p (y ∷ xs) x h = by_test (p y) refl h (found_passes p xs x)
  where
    by_test : (b : Bool) → p y ≡ b → cond b (Some y) (find p xs) ≡ Some x → (find p xs ≡ Some x → p x ≡ true) → p x ≡ true
    by_test true e h more = let same : y ≡ x = cc in ap p (sym same) ∙ e
    by_test false e h more = more h

-- where no name passes, no element of a name that passes is there
pub no_such : {A : Type 0} (name : A → List ℕ) (p : List ℕ → Bool) (xs : List A) (n : List ℕ) → find p (map name xs) ≡ None → p n ≡ true
    → list_any (λ x. bytes_eq (name x) n) xs ≡ false
no_such name p [] n h is = refl
no_such name p (x ∷ xs) n h is =
    let each = none_passes p (map name (x ∷ xs)) h in
    by_test (bytes_eq (name x) n) refl each.0 (no_such name p xs n (rest (p (name x)) each.0 h) is)
  where
    rest : (b : Bool) → b ≡ false → cond b (Some (name x)) (find p (map name xs)) ≡ None → find p (map name xs) ≡ None
    rest true e h = cc
    rest false e h = h

    by_test : (b : Bool) → bytes_eq (name x) n ≡ b → p (name x) ≡ false → list_any (λ x. bytes_eq (name x) n) xs ≡ false → (b || list_any (λ x. bytes_eq (name x) n) xs) ≡ false
    by_test true e fails more =
        let same : name x ≡ n = (bytes_decides (name x) n).0 e in
        let passes : p (name x) ≡ true = ap p same ∙ is in
        cc
    by_test false e fails more = more

-- ---- tests that answer alike

pub find_alike : {A : Type 0} (p q : A → Bool) → ((x : A) → p x ≡ q x) → (xs : List A) → find p xs ≡ find q xs
find_alike p q same [] = refl
find_alike p q same (x ∷ xs) = rw (same x, find_alike p q same xs)

pub all_alike : {A : Type 0} (p q : A → Bool) → ((x : A) → p x ≡ q x) → (xs : List A) → list_all p xs ≡ list_all q xs
all_alike p q same [] = refl
all_alike p q same (x ∷ xs) = rw (same x, all_alike p q same xs)

pub both_ways : (a b : Bool) → (a ≡ true → b ≡ true) → (b ≡ true → a ≡ true) → a ≡ b
both_ways true b there back = sym (there refl)
both_ways false true there back = back refl
both_ways false false there back = refl
