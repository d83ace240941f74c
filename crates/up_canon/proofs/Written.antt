-- Texts that stand in quotes as they are: names, moments, hexadecimal digits.
use Rattle.std.proofs.Common.{◌≡◌, ℕ, ◌+◌, ◌/◌, ◌%◌, ◌≤◌, ◌<◌, List, [], ◌∷◌, ◌++◌, Bool, true, Option, Some, None, Result, Ok, Err, length, refl, sym, ap, ◌∙◌, append_assoc, append-nil, inl, inr, lit<, arith}
use Rattle.std.specs.Prelude.{◌||◌, ◌==◌, not, codes, flat_map, nat_lt, slice_index, IsUtf8, IsOk, MatchResult}
use Rattle.std.specs.List.{list_all}
use Rattle.std.proofs.lemmas.Bool.{and_parts, cases_lt}
use Rattle.std.proofs.lemmas.Bool.Decides.{nat_tests}
use Rattle.std.proofs.lemmas.List.{get_or_past}
use Rattle.std.proofs.lemmas.Str.{IsUtf8-from_ascii}
use Rattle.hex.specs.Hex.{encode_with, encode_lower, lower_digits}
use Rattle.hex.proofs.HexLemmas.{IsAscii-encode_with}
use Rattle.up_canon.proofs.MomentTexts.{moment_parts, civil_bounds}
use Rattle.up_canon.proofs.Printable.{all-more, digit-below}
use Rattle.up_canon.specs.Build.{hashes_value}
use Rattle.up_canon.specs.Canon.{escape_of, json_string, text}
use Rattle.up_canon.specs.HexText.{second_hash_text}
use Rattle.up_canon.specs.Moments.{last_moment, year_of, month_of, day_in_month, parts_text, moment_text}
use Rattle.up_canon.specs.Names.{is_from_to, is_ident_byte, is_file_byte, is_ident, is_file_name}

-- ---- digits need no backslash

-- a quote or a backslash
abbrev is_special : ℕ → Bool
is_special x = (x == 34) || (x == 92)

not_special : (x : ℕ) → not (is_special x) ≡ true → escape_of x ≡ x ∷ []
not_special x h = grind (arith, nat_tests)

pub all_straight : (t : List ℕ) → list_all (λ x. not (is_special x)) t ≡ true → flat_map escape_of t ≡ t
all_straight [] h = refl
all_straight (x ∷ t) h =
    let p = and_parts (not (is_special x)) _ h in
    rw (not_special x p.0) (ap (λ (rest : List ℕ). x ∷ rest) (all_straight t p.1))

-- ---- names

ident_byte : (x : ℕ) → is_ident_byte x ≡ true → not (is_special x) ≡ true
ident_byte x h = grind (arith, nat_tests)

file_byte : (x : ℕ) → is_file_byte x ≡ true → not (is_special x) ≡ true
file_byte x h = grind (arith, nat_tests)

pub ident_straight : (t : List ℕ) → is_ident t ≡ true → flat_map escape_of t ≡ t
ident_straight t h = all_straight t (all-more is_ident_byte (λ x. not (is_special x)) t ident_byte (and_parts (is_from_to 1 64 (length t)) _ h).1)

pub file_name_straight : (t : List ℕ) → is_file_name t ≡ true → flat_map escape_of t ≡ t
file_name_straight t h = all_straight t (all-more is_file_byte (λ x. not (is_special x)) t file_byte (and_parts (is_from_to 1 128 (length t)) _ h).1)

-- ---- moments

decimal_digit : (n : ℕ) → n ≤ 9 → not (is_special (48 + n)) ≡ true
decimal_digit n h = grind (arith, nat_tests)

parts_straight : (year month day hour minute second : ℕ) → year < 10000 → month < 100 → day < 100 → hour < 100 → minute < 100 → second < 100
    → list_all (λ x. not (is_special x)) (parts_text year month day hour minute second) ≡ true
parts_straight year month day hour minute second a b c d e f =
    rw (decimal_digit (year / 100 / 10) (omega arith), decimal_digit (year / 100 % 10) (omega arith), decimal_digit (year % 100 / 10) (omega arith), decimal_digit (year % 100 % 10) (omega arith), decimal_digit (month / 10) (omega arith), decimal_digit (month % 10) (omega arith), decimal_digit (day / 10) (omega arith), decimal_digit (day % 10) (omega arith), decimal_digit (hour / 10) (omega arith), decimal_digit (hour % 10) (omega arith), decimal_digit (minute / 10) (omega arith), decimal_digit (minute % 10) (omega arith), decimal_digit (second / 10) (omega arith), decimal_digit (second % 10) (omega arith))
    refl

moment_is_straight : (m : ℕ) → m ≤ last_moment → list_all (λ x. not (is_special x)) (moment_text m) ≡ true
unfolding moment_text
moment_is_straight m h =
    let p = (moment_parts m h).0 in
    let small = civil_bounds _ _ _ p.civil in
    parts_straight (year_of (m / 86_400)) (month_of (m / 86_400)) (day_in_month (m / 86_400)) (m / 3600 % 24) (m / 60 % 60) (m % 60) small.0 small.1 small.2 (omega arith) (omega arith) (omega arith)

-- what a clock shows, with the sign of UTC, in quotes
pub moment_quoted : (shown : List ℕ) (m : ℕ) → m ≤ last_moment → shown ++ 90 ∷ [] ≡ moment_text m → 34 ∷ shown ++ 90 ∷ 34 ∷ [] ≡ json_string (moment_text m)
moment_quoted shown m h is =
    ap (λ t. 34 ∷ t) (sym (append_assoc shown (90 ∷ []) (34 ∷ [])) ∙ ap (λ t. t ++ 34 ∷ []) (is ∙ sym (all_straight (moment_text m) (moment_is_straight m h))))

-- ---- hexadecimal digits

escaped_digit : (d : ℕ) → escape_of (slice_index lower_digits d) ≡ slice_index lower_digits d ∷ []
escaped_digit d = elim (cases_lt d 16) [
  | inl below ↦ not_special (slice_index lower_digits d) (digit-below (λ x. not (is_special x)) 16 d refl below)
  | inr past ↦ not_special (slice_index lower_digits d) (rw (get_or_past lower_digits d 0 past) refl)
]

escaped_hex : (xs : List ℕ) → flat_map escape_of (encode_lower xs) ≡ encode_lower xs
unfolding encode_with
escaped_hex [] = refl
escaped_hex (b ∷ xs) = rw (escaped_digit (b / 16), escaped_digit (b % 16)) (ap (λ t. slice_index lower_digits (b / 16) ∷ slice_index lower_digits (b % 16) ∷ t) (escaped_hex xs))

pub hex-append : (xs ys : List ℕ) → encode_lower (xs ++ ys) ≡ encode_lower xs ++ encode_lower ys
unfolding encode_with
hex-append [] ys = refl
hex-append (b ∷ xs) ys = ap (λ t. slice_index lower_digits (b / 16) ∷ slice_index lower_digits (b % 16) ∷ t) (hex-append xs ys)

pub hex-ends : (before xs : List ℕ) → length xs ≡ 0 → before ++ encode_lower xs ≡ before
unfolding encode_with
hex-ends before [] h = append-nil before
hex-ends before (b ∷ xs) h = absurd (omega arith)

digit-ascii : (d : ℕ) → slice_index lower_digits d < 128
digit-ascii d = elim (cases_lt d 16) [
  | inl below ↦ let small = digit-below (λ x. nat_lt x 128) 16 d refl below in grind (arith, nat_tests)
  | inr past ↦ rw (get_or_past lower_digits d 0 past) (lit< tt)
]

pub hex-utf8 : (xs : List ℕ) → IsUtf8 (encode_lower xs)
hex-utf8 xs = IsUtf8-from_ascii (encode_lower xs) (IsAscii-encode_with lower_digits xs digit-ascii)

-- a text that is tested for UTF-8 and is UTF-8
pub passes_utf8 : {T E : Type 0} (bs : List ℕ) (P : T → Type 0) (Q : E → Type 0) (r : Result T E) → MatchResult r P (λ e. ¬ (IsUtf8 bs) × Q e) → IsUtf8 bs → IsOk r
passes_utf8 bs P Q (Ok text) h utf8 = refl
passes_utf8 bs P Q (Err e) h utf8 = absurd (h.0 utf8)

pub quoted_hex : (xs : List ℕ) → json_string (encode_lower xs) ≡ 34 ∷ encode_lower xs ++ 34 ∷ []
quoted_hex xs = ap (λ t. 34 ∷ t ++ 34 ∷ []) (escaped_hex xs)

-- ---- hashes

pub hashes_text : (sha256 : List ℕ) (sha512 : Option (List ℕ))
    → (codes "{\"sha256\":" ++ json_string (encode_lower sha256)) ++ (second_hash_text sha512 ++ 125 ∷ []) ≡ text (hashes_value sha256 sha512)
hashes_text sha256 None = refl
hashes_text sha256 (Some hash) = refl
