-- Names, notes and hexadecimal digits are printable ASCII.
use Rattle.std.proofs.Common.{◌≡◌, ℕ, zero, suc, ◌/◌, ◌%◌, ◌<◌, List, [], ◌∷◌, Bool, true, length, slice_index, refl, inl, inr, arith}
use Rattle.std.specs.Prelude.{◌&&◌, nat_lt}
use Rattle.std.specs.List.{list_all}
use Rattle.std.proofs.lemmas.Bool.{and_parts, cases_lt}
use Rattle.std.proofs.lemmas.Bool.Decides.{nat_tests}
use Rattle.hex.specs.Hex.{encode_with, encode_lower, lower_digits}
use Rattle.up_canon.specs.Canon.{is_printable, is_printable_text}
use Rattle.up_canon.specs.Names.{is_from_to, is_ident_byte, is_file_byte, is_ident, is_file_name, is_note}

pub both : (a b : Bool) → a ≡ true → b ≡ true → (a && b) ≡ true
both a b h k = rw (h, k) refl

pub all-more : {A : Type 0} (p q : A → Bool) (xs : List A) → ((x : A) → p x ≡ true → q x ≡ true) → list_all p xs ≡ true → list_all q xs ≡ true
all-more p q [] g h = refl
all-more p q (x ∷ xs) g h = let r = and_parts (p x) _ h in both _ _ (g x r.0) (all-more p q xs g r.1)

-- ---- names and notes

ident_byte : (x : ℕ) → is_ident_byte x ≡ true → is_printable x ≡ true
ident_byte x h = grind (arith, nat_tests)

file_byte : (x : ℕ) → is_file_byte x ≡ true → is_printable x ≡ true
file_byte x h = grind (arith, nat_tests)

pub ident_prints : (t : List ℕ) → is_ident t ≡ true → is_printable_text t ≡ true
ident_prints t h = all-more is_ident_byte is_printable t ident_byte (and_parts (is_from_to 1 64 (length t)) _ h).1

pub file_name_prints : (t : List ℕ) → is_file_name t ≡ true → is_printable_text t ≡ true
file_name_prints t h = all-more is_file_byte is_printable t file_byte (and_parts (is_from_to 1 128 (length t)) _ h).1

pub note_prints : (t : List ℕ) → is_note t ≡ true → is_printable_text t ≡ true
note_prints t h = (and_parts (is_from_to 0 256 (length t)) _ h).1

-- ---- hexadecimal digits

-- each digit passes a test
abbrev pub digits_pass : (ℕ → Bool) → ℕ → Bool
digits_pass p zero = true
digits_pass p (suc n) = p (slice_index lower_digits n) && digits_pass p n

pub digit-below : (p : ℕ → Bool) (n k : ℕ) → digits_pass p n ≡ true → k < n → p (slice_index lower_digits k) ≡ true
digit-below p zero k h lt = absurd (omega arith)
digit-below p (suc n) k h lt =
    let parts = and_parts (p (slice_index lower_digits n)) (digits_pass p n) h in
    elim (cases_lt k n) [
      | inl below ↦ digit-below p n k parts.1 below
      | inr top ↦
          let e : k ≡ n = omega arith in
          rw e parts.0
    ]

pub all-hex : (p : ℕ → Bool) → digits_pass p 16 ≡ true → (xs : List ℕ) → list_all (λ x. nat_lt x 256) xs ≡ true → list_all p (encode_lower xs) ≡ true
unfolding encode_with
all-hex p digits [] h = refl
all-hex p digits (b ∷ xs) h =
    let q = and_parts (nat_lt b 256) _ h in
    let small = q.0 in
    let high : b / 16 < 16 = grind (arith, nat_tests) in
    let low : b % 16 < 16 = omega arith in
    both _ _ (digit-below p 16 (b / 16) digits high) (both _ _ (digit-below p 16 (b % 16) digits low) (all-hex p digits xs q.1))

pub printable-hex : (xs : List ℕ) → list_all (λ x. nat_lt x 256) xs ≡ true → is_printable_text (encode_lower xs) ≡ true
printable-hex xs h = all-hex is_printable refl xs h
