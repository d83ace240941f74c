-- Texts in quotes in which each byte stands for itself, and numbers without leading zeros.
use Rattle.std.proofs.Common.{◌≡◌, ℕ, suc, ◌+◌, ◌<◌, ◌^◌, List, [], ◌∷◌, ◌++◌, Bool, true, false, cond, Some, None, Result, Ok, Err, length, take, drop, slice_index, unwrap_or, IfSome, refl, sym, ap, ap₂, ◌∙◌, append_assoc, subst, arith}
use Rattle.std.specs.Prelude.{◌&&◌, ◌||◌, ◌==◌, not, nat_lt, flat_map, decimal, position}
use Rattle.std.specs.List.{list_all, prefix_len}
use Rattle.std.specs.Result.{result_ok}
use Rattle.std.specs.Str.Parse.{ParsesUnsigned, AllDigits, IsNumeral, digits_value, without_leading_plus}
use Rattle.std.proofs.lemmas.Bool.{and_parts}
use Rattle.std.proofs.lemmas.Bool.Decides.{nat_tests}
use Rattle.std.proofs.lemmas.Fmt.{decimal-digits_value}
use Rattle.std.proofs.lemmas.List.Folds.{list_all-append}
use Rattle.std.proofs.lemmas.Grind.{flat_map-append}
use Rattle.std.proofs.lemmas.Str.Parse.{IsNumeralModel}
use Rattle.up_canon.specs.Canon.{is_printable, is_printable_text, escape_of, json_string}
use Rattle.up_canon.proofs.Printable.{all-more}
use Rattle.up_manifest.specs.Plain.{is_direct}

-- ---- texts in quotes

direct-escape_of : (x : ℕ) → is_direct x ≡ true → escape_of x ≡ x ∷ []
direct-escape_of x h = by_test ((x == 34) || (x == 92)) (and_parts (is_printable x) _ h).1
  where
    by_test : (b : Bool) → not b ≡ true → cond b (92 ∷ x ∷ []) (x ∷ []) ≡ x ∷ []
    by_test true e = cc
    by_test false e = refl

unescaped : (t : List ℕ) → list_all is_direct t ≡ true → flat_map escape_of t ≡ t
unescaped [] h = refl
unescaped (x ∷ t) h =
    let p = and_parts (is_direct x) _ h in
    ap₂ (λ (a b : List ℕ). a ++ b) (direct-escape_of x p.0) (unescaped t p.1)

pub direct-prints : (t : List ℕ) → list_all is_direct t ≡ true → is_printable_text t ≡ true
direct-prints t h = all-more is_direct is_printable t (λ x k. (and_parts (is_printable x) _ k).0) h

pub printable-more : (before t : List ℕ) → is_printable_text before ≡ true → is_printable_text t ≡ true → is_printable_text (before ++ t) ≡ true
printable-more before t b h = list_all-append is_printable before t ∙ ap₂ (λ x y. x && y) b h

-- a text between its quotes, with what stands behind them
pub direct-json_string : (t rest : List ℕ) → list_all is_direct t ≡ true → 34 ∷ (t ++ 34 ∷ rest) ≡ json_string t ++ rest
direct-json_string t rest h = ap (λ (l : List ℕ). 34 ∷ l) (ap (λ (s : List ℕ). s ++ 34 ∷ rest) (sym (unescaped t h)) ∙ sym (append_assoc (flat_map escape_of t) (34 ∷ []) rest))

-- a piece behind a text that was read: as it stands escaped, or of bytes that stand for themselves
pub escape_of-more : (before t rest : List ℕ) → flat_map escape_of before ++ (flat_map escape_of t ++ rest) ≡ flat_map escape_of (before ++ t) ++ rest
escape_of-more before t rest =
    sym (append_assoc (flat_map escape_of before) (flat_map escape_of t) rest) ∙ ap (λ (s : List ℕ). s ++ rest) (sym (flat_map-append escape_of before t))

pub direct-more : (before t rest : List ℕ) → list_all is_direct t ≡ true → flat_map escape_of before ++ (t ++ rest) ≡ flat_map escape_of (before ++ t) ++ rest
direct-more before t rest h =
    let front = flat_map escape_of before in
    ap (λ (s : List ℕ). front ++ (s ++ rest)) (sym (unescaped t h)) ∙ escape_of-more before t rest

-- the closing quote
pub escape_of-ends : (t rest : List ℕ) → 34 ∷ (flat_map escape_of t ++ 34 ∷ rest) ≡ json_string t ++ rest
escape_of-ends t rest = ap (λ (l : List ℕ). 34 ∷ l) (sym (append_assoc (flat_map escape_of t) (34 ∷ []) rest))

-- what stands in front of the first that fails
pub front-passes : (p : ℕ → Bool) (xs : List ℕ) → list_all p (take (prefix_len p xs) xs) ≡ true
front-passes p [] = refl
front-passes p (x ∷ xs) = by_test (p x) refl (front-passes p xs)
  where
    by_test : (b : Bool) → p x ≡ b → list_all p (take (prefix_len p xs) xs) ≡ true → list_all p (take (cond b (1 + prefix_len p xs) 0) (x ∷ xs)) ≡ true
    by_test true e rest =
        let next : 1 + prefix_len p xs ≡ suc (prefix_len p xs) = omega arith in
        ap (λ n. list_all p (take n (x ∷ xs))) next ∙ ap₂ (λ (a b : Bool). a && b) e rest
    by_test false e rest = refl

-- what stands in front of the first byte that isn't such a one
pub front-of : (p : ℕ → Bool) (xs : List ℕ) → list_all p (take (unwrap_or (position (λ b. not (p b)) xs) 0) xs) ≡ true
front-of p xs = by_test (nat_lt (prefix_len twice xs) (length xs))
  where
    twice : ℕ → Bool
    twice b = not (not (p b))

    once : (x : ℕ) → twice x ≡ true → p x ≡ true
    once x h = by_bool (p x) h
      where
        by_bool : (b : Bool) → not (not b) ≡ true → b ≡ true
        by_bool true e = refl
        by_bool false e = cc

    by_test : (b : Bool) → list_all p (take (unwrap_or (cond b (Some (prefix_len twice xs)) None) 0) xs) ≡ true
    by_test true = all-more twice p (take (prefix_len twice xs) xs) once (front-passes twice xs)
    by_test false = refl

-- ---- numbers

model : IsNumeralModel (AllDigits 10) (digits_value 10)
model = record { to = λ ds h. h; from = λ ds h. h; same = λ ds h. refl }

-- digits of which the first is neither a plus nor a zero
pub parsed-decimal : {E : Type 0} (bs : List ℕ) (r : Result ℕ E) → ParsesUnsigned 64 10 bs r → 48 < slice_index bs 0 → IfSome (result_ok r) (λ n. bs ≡ decimal n)
parsed-decimal bs (Err e) h first = tt
parsed-decimal bs (Ok n) h first =
    let unsigned : (slice_index bs 0 == 43) ≡ false = grind (arith, nat_tests) in
    let all : without_leading_plus bs ≡ bs = ap (λ (b : Bool). drop (cond b 1 0) bs) unsigned in
    let parts = subst (λ (ds : List ℕ). (IsNumeral 10 ds × (digits_value 10 ds < 2 ^ 64)) × (n ≡ digits_value 10 ds)) all h in
    sym (decimal-digits_value model bs parts.0.0.1 parts.0.0.0 (λ zero. absurd (omega arith)) parts.0.1) ∙ ap decimal (sym parts.1)
