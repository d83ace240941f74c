-- Hexadecimal digits in lower case are those that their bytes are written in.
use Rattle.std.proofs.Common.{◌≡◌, ℕ, zero, suc, ◌+◌, ◌-◌, ◌*◌, ◌/◌, ◌%◌, ◌<◌, List, [], ◌∷◌, Bool, true, false, cond, Some, Result, Ok, Err, slice_index, refl, sym, ap, ap₂, ◌∙◌, inl, inr, arith}
use Rattle.std.specs.Prelude.{◌&&◌, ◌||◌, ◌==◌, nat_lt, MatchResult}
use Rattle.std.specs.List.{list_all}
use Rattle.std.proofs.lemmas.Bool.{and_parts, cases_lt, eqb-true}
use Rattle.std.proofs.lemmas.Bool.Decides.{nat_tests}
use Rattle.hex.specs.Hex.{decode_of, decode_sized, decode_pairs, pair_value, encode_with, encode_lower, lower_digits, hex_digit_value}
use Rattle.hex.specs.declared.error.FromHexError.{FromHexError}
use Rattle.hex.proofs.HexLemmas.{decode_of-ok, decode_of-even, decode_sized-ok, decode_sized-twice}
use Rattle.hex.proofs.Pairs.{cons_byte, decode_pairs-ok_pair}
use Rattle.up_canon.specs.HexText.{is_lower_digit}
use Rattle.up_canon.specs.Names.{is_from_to}
use Rattle.up_canon.proofs.ByteTests.{bytes_tested}
use Rattle.up_canon.proofs.Printable.{all-more}
use Rattle.up_manifest.specs.Plain.{is_direct}

-- ---- the table of digits

abbrev spelled : ℕ → ℕ
spelled x = cond (nat_lt x 10) (48 + x) (87 + x)

abbrev are_spelled : ℕ → Bool
are_spelled zero = true
are_spelled (suc n) = (slice_index lower_digits n == spelled n) && are_spelled n

spelled-at : (n k : ℕ) → are_spelled n ≡ true → k < n → slice_index lower_digits k ≡ spelled k
spelled-at zero k h lt = absurd (omega arith)
spelled-at (suc n) k h lt =
    let parts = and_parts (slice_index lower_digits n == spelled n) (are_spelled n) h in
    elim (cases_lt k n) [
      | inl below ↦ spelled-at n k parts.1 below
      | inr top ↦
          let e : k ≡ n = omega arith in
          rw e (eqb-true (slice_index lower_digits n) (spelled n) parts.0)
    ]

in_table : (x : ℕ) → x < 16 → slice_index lower_digits x ≡ spelled x
in_table x lt = spelled-at 16 x refl lt

-- ---- a digit

record Digit (c : ℕ) : Type 0 where
  value : ℕ
  small : value < 16
  reads : hex_digit_value c ≡ Some value
  is : slice_index lower_digits value ≡ c

digit : (c : ℕ) → is_lower_digit c ≡ true → Digit c
digit c h = by_test (is_from_to 48 57 c) refl
  where
    by_test : (b : Bool) → is_from_to 48 57 c ≡ b → Digit c
    by_test true e =
        let low : c - 48 < 10 = grind (arith, nat_tests) in
        let least : 48 + (c - 48) ≡ c = grind (arith, nat_tests) in
        let test : nat_lt (c - 48) 10 ≡ true = grind (arith, nat_tests) in
        record {
          value = c - 48;
          small = omega arith;
          reads = grind (arith, nat_tests);
          is = in_table (c - 48) (omega arith) ∙ ap (λ b. cond b (48 + (c - 48)) (87 + (c - 48))) test ∙ least;
        }
    by_test false e =
        let high : is_from_to 97 102 c ≡ true = ap (λ b. b || is_from_to 97 102 c) (sym e) ∙ h in
        let small : c - 87 < 16 = grind (arith, nat_tests) in
        let least : 87 + (c - 87) ≡ c = grind (arith, nat_tests) in
        let test : nat_lt (c - 87) 10 ≡ false = grind (arith, nat_tests) in
        record {
          value = c - 87;
          small = small;
          reads = grind (arith, nat_tests);
          is = in_table (c - 87) small ∙ ap (λ b. cond b (48 + (c - 87)) (87 + (c - 87))) test ∙ least;
        }

-- a digit stands for itself in quotes
lower-direct : (x : ℕ) → is_lower_digit x ≡ true → is_direct x ≡ true
lower-direct x h = grind (arith, nat_tests)

pub digits-direct : (s : List ℕ) → list_all is_lower_digit s ≡ true → list_all is_direct s ≡ true
digits-direct s h = all-more is_lower_digit is_direct s lower-direct h

-- ---- pairs of digits

written : (i : ℕ) (s bytes : List ℕ) → decode_pairs i s ≡ Ok bytes → list_all is_lower_digit s ≡ true → s ≡ encode_lower bytes
unfolding decode_pairs encode_with
written i [] bytes h low = let none : [] ≡ bytes = cc in ap encode_lower none
written i (a ∷ []) bytes h low = cc
written i (a ∷ b ∷ rest) bytes h low =
    let p = and_parts (is_lower_digit a) _ low in
    let q = and_parts (is_lower_digit b) _ p.1 in
    let x = digit a p.0 in
    let y = digit b q.0 in
    let pair : pair_value a b i ≡ Ok (x.value * 16 + y.value) = rw (x.reads, y.reads) refl in
    by_rest x y (decode_pairs (i + 2) rest) (sym (decode_pairs-ok_pair i a b (x.value * 16 + y.value) rest pair) ∙ h) (λ bs e. written (i + 2) rest bs e q.1)
  where
    by_rest : (x : Digit a) (y : Digit b) (r : Result (List ℕ) FromHexError) → cons_byte (x.value * 16 + y.value) r ≡ Ok bytes → ((bs : List ℕ) → r ≡ Ok bs → rest ≡ encode_lower bs) → a ∷ b ∷ rest ≡ encode_lower bytes
    by_rest x y (Err e) same more = cc
    by_rest x y (Ok bs) same more =
        let n = x.value * 16 + y.value in
        let whole : n ∷ bs ≡ bytes = cc in
        let small = y.small in
        let high : n / 16 ≡ x.value = omega arith in
        let low : n % 16 ≡ y.value = omega arith in
        let first : slice_index lower_digits (n / 16) ≡ a = ap (slice_index lower_digits) high ∙ x.is in
        let second : slice_index lower_digits (n % 16) ≡ b = ap (slice_index lower_digits) low ∙ y.is in
        ap₂ (λ (c : ℕ) (t : List ℕ). c ∷ t) (sym first) (ap₂ (λ (c : ℕ) (t : List ℕ). c ∷ t) (sym second) (more bs refl)) ∙ ap encode_lower whole

pub lower-decoded : (s bytes : List ℕ) → decode_of s ≡ Ok bytes → list_all is_lower_digit s ≡ true → s ≡ encode_lower bytes
lower-decoded s bytes h low =
    let ok = decode_of-ok s bytes h in
    written 0 s bytes (sym (decode_of-even s ok.0) ∙ h) low

pub lower-sized : (s bytes : List ℕ) (n : ℕ) → decode_sized s n ≡ Ok bytes → list_all is_lower_digit s ≡ true → s ≡ encode_lower bytes
lower-sized s bytes n h low = lower-decoded s bytes (sym (decode_sized-twice s n (decode_sized-ok s n bytes h)) ∙ h) low

pub decoded-bytes : (s bytes : List ℕ) → decode_of s ≡ Ok bytes → list_all (λ x. nat_lt x 256) bytes ≡ true
decoded-bytes s bytes h = bytes_tested bytes (decode_of-ok s bytes h).3

-- the same of what is written into a slice
pub lower-written : (s out : List ℕ) (n : ℕ) (r : Result Unit FromHexError) (x : Unit) → MatchResult (decode_sized s n) (λ bytes. (r ≡ Ok tt) × (out ≡ bytes)) (λ e. r ≡ Err e) → r ≡ Ok x → list_all is_lower_digit s ≡ true → s ≡ encode_lower out
lower-written s out n r x h ok low = by_result (decode_sized s n) refl h
  where
    by_result : (d : Result (List ℕ) FromHexError) → decode_sized s n ≡ d → MatchResult d (λ bytes. (r ≡ Ok tt) × (out ≡ bytes)) (λ e. r ≡ Err e) → s ≡ encode_lower out
    by_result (Ok bytes) e m = lower-sized s bytes n e low ∙ ap encode_lower (sym m.1)
    by_result (Err fault) e m = cc
