-- Fields one after another, and digits one after another.
use Rattle.std.proofs.Common.{◌||◌, ◌-◌, take, take-append-drop, ◌==◌, not, ◌++◌, ◌≡◌, ◌&&◌, ℕ, ◌+◌, ◌*◌, ◌<◌, ◌≤◌, min, Bool, true, false, cond, List, [], ◌∷◌, length, map, filter, drop, get_or, refl, sym, ap, ◌∙◌, arith, drop-cons, add-one}
use Rattle.std.specs.List.{list_all, list_any}
use Rattle.std.proofs.Math.Seq.{drop-drop, take-add}
use Rattle.std.proofs.lemmas.List.Folds.{list_all-append}
use Rattle.std.specs.Char.{is_ascii_digit, digit_value}
use Rattle.std.specs.Str.Parse.{digits_value_after}
use Rattle.up_heads.specs.Fields.{Pair, is_named, values}
use Rattle.up_heads.specs.Closing.{put, members, is_close, has_close}

both_true : (a b : Bool) → (a && b) ≡ true → (a ≡ true) × (b ≡ true)
both_true true b h = (refl, h)
both_true false b h = absurd (cc)

not_true : (b : Bool) → not b ≡ true → b ≡ false
not_true true h = absurd (cc)
not_true false h = refl

-- two numbers that agree as far as a limit do so with more digits
pub capped : (limit a b : ℕ) (digits : List ℕ) → min a limit ≡ min b limit → min (digits_value_after 10 a digits) limit ≡ min (digits_value_after 10 b digits) limit
capped limit a b [] same = same
capped limit a b (c ∷ digits) same = capped limit (a * 10 + digit_value c) (b * 10 + digit_value c) digits (omega arith)

-- one digit more
pub digit_next : (limit n m d i : ℕ) (value : List ℕ) (whole : ℕ) → i < length value → d ≡ digit_value (get_or value i 0) → m ≡ min (n * 10 + d) limit
    → min (digits_value_after 10 n (drop i value)) limit ≡ whole → min (digits_value_after 10 m (drop (i + 1) value)) limit ≡ whole
digit_next limit n m d i value whole below is next so =
    capped limit m (n * 10 + digit_value (get_or value i 0)) (drop (i + 1) value) (omega (arith, is, next))
    ∙ sym (ap (λ l. min (digits_value_after 10 n l) limit) (cut i value below)) ∙ so
  where
    cut : (i : ℕ) (value : List ℕ) → i < length value → drop i value ≡ get_or value i 0 ∷ drop (i + 1) value
    cut i value below = rw (add-one, drop-cons value i 0)

module _ (name : List ℕ) where
  values_next : (field : Pair) (fields : List Pair) → length (values name (field ∷ fields)) ≡ cond (is_named name field) (length (values name fields) + 1) (length (values name fields))
  values_next field fields = by_test (is_named name field)
    where
      by_test : (h : Bool) → length (map (λ f. f.1) (cond h (field ∷ filter (is_named name) fields) (filter (is_named name) fields))) ≡ cond h (length (values name fields) + 1) (length (values name fields))
      by_test true = omega arith
      by_test false = refl

cut_at : (i : ℕ) (value : List ℕ) → i < length value → drop i value ≡ get_or value i 0 ∷ drop (i + 1) value
cut_at i value below = rw (add-one, drop-cons value i 0)

-- a digit, and the bytes behind it
pub digits_next : (i : ℕ) (value : List ℕ) (whole : Bool) → i < length value → is_ascii_digit (get_or value i 0) ≡ true
    → list_all is_ascii_digit (drop i value) ≡ whole → list_all is_ascii_digit (drop (i + 1) value) ≡ whole
digits_next i value whole below digit so =
    ap (λ t. t && list_all is_ascii_digit (drop (i + 1) value)) (sym digit) ∙ sym (ap (list_all is_ascii_digit) (cut_at i value below)) ∙ so

-- ---- members of a list

abbrev pub no_comma : List ℕ → Bool
no_comma bytes = list_all (λ b. not (b == 44)) bytes

put_one : (b : ℕ) (bytes : List ℕ) (ms : List (List ℕ)) → put b (bytes ∷ ms) ≡ (b ∷ bytes) ∷ ms
put_one b bytes ms = refl

pub members_cut : (front rest : List ℕ) → no_comma front ≡ true → members (front ++ 44 ∷ rest) ≡ front ∷ members rest
members_cut [] rest h = refl
members_cut (b ∷ front) rest h =
    let (here, there) = both_true (not (b == 44)) (list_all (λ c. not (c == 44)) front) h in
    ap (λ t. cond t ([] ∷ members (front ++ 44 ∷ rest)) (put b (members (front ++ 44 ∷ rest)))) (not_true (b == 44) here) ∙ ap (put b) (members_cut front rest there)

pub members_one : (front : List ℕ) → no_comma front ≡ true → members front ≡ front ∷ []
members_one [] h = refl
members_one (b ∷ front) h =
    let (here, there) = both_true (not (b == 44)) (list_all (λ c. not (c == 44)) front) h in
    ap (λ t. cond t ([] ∷ members front) (put b (members front))) (not_true (b == 44) here) ∙ ap (put b) (members_one front there)

-- the bytes from a place on, as those up to a comma and those behind it
pub at_comma : (value : List ℕ) (start i : ℕ) → start ≤ i → i < length value → get_or value i 0 ≡ 44 → drop start value ≡ take (i - start) (drop start value) ++ 44 ∷ drop (i + 1) value
at_comma value start i h below is =
    sym (take-append-drop (i - start) (drop start value))
    ∙ ap (λ l. take (i - start) (drop start value) ++ l) (drop-drop (i - start) start value ∙ ap (λ n. drop n value) (omega arith) ∙ cut_at i value below ∙ ap (λ b. b ∷ drop (i + 1) value) is)

-- one byte more that is no comma
pub inside_next : (value : List ℕ) (start i : ℕ) → start ≤ i → i < length value → no_comma (take (i - start) (drop start value)) ≡ true → (get_or value i 0 == 44) ≡ false
    → no_comma (take (i + 1 - start) (drop start value)) ≡ true
inside_next value start i h below none other =
    ap no_comma (ap (λ n. take n (drop start value)) (omega arith) ∙ take-add (i - start) 1 (drop start value)
    ∙ ap (λ l. take (i - start) (drop start value) ++ take 1 l) (drop-drop (i - start) start value ∙ ap (λ n. drop n value) (omega arith) ∙ cut_at i value below))
    ∙ list_all-append (λ b. not (b == 44)) (take (i - start) (drop start value)) (get_or value i 0 ∷ [])
    ∙ ap (λ t. t && (not (get_or value i 0 == 44) && true)) none ∙ ap (λ t. not t && true) other

-- what is said of a list at a comma
pub close_cut : (value : List ℕ) (start i : ℕ) → start ≤ i → i < length value → get_or value i 0 ≡ 44 → no_comma (take (i - start) (drop start value)) ≡ true
    → has_close (drop start value) ≡ (is_close (take (i - start) (drop start value)) || has_close (drop (i + 1) value))
close_cut value start i h below is none =
    ap has_close (at_comma value start i h below is) ∙ ap (list_any is_close) (members_cut (take (i - start) (drop start value)) (drop (i + 1) value) none)

-- what is said of the last member
pub close_one : (member : List ℕ) → no_comma member ≡ true → has_close member ≡ (is_close member || false)
close_one member none = ap (list_any is_close) (members_one member none)

pub or_false : (b : Bool) → (b || false) ≡ b
or_false true = refl
or_false false = refl
