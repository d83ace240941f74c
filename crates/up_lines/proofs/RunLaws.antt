-- Runs over lines, joined, and the lines that are answered.
use Rattle.std.proofs.Common.{◌≡◌, ◌⊎◌, inl, inr, ℕ, zero, suc, ◌+◌, ◌-◌, ◌<◌, ◌≤◌, ◌&&◌, Bool, true, false, cond, List, [], ◌∷◌, ◌++◌, length, take, filter, refl, ap, sym, ◌∙◌, subst, arith, append_assoc, append-nil, length-append}
use Rattle.std.specs.Prelude.{nat_le}
use Rattle.std.specs.List.{list_all, take_while}
use Rattle.std.proofs.Math.Seq.{take-append-add}
use Rattle.std.proofs.lemmas.Bool.{le-leb, lt-leb}
use Rattle.std.proofs.lemmas.List.Sums.{take_while-cons}
use Rattle.std.proofs.lemmas.List.Elements.{filter-append}
use Rattle.std.proofs.lemmas.List.Folds.{list_all-append}
use Rattle.up_lines.specs.Lines.{most_lines, most_line_bytes, lines_of, is_short, fits, has_bytes, asked}
use Rattle.up_lines.specs.Runs.{Composes, written}
use Rattle.up_lines.specs.LineRuns.{Gives, print}
use Rattle.up_lines.specs.Progress.{is_inside}
use Rattle.up_lines.proofs.Cuts.{both_hold, Begins, lines-last}

pub has_bytes-long : (line : List ℕ) → 0 < length line → has_bytes line ≡ true
has_bytes-long [] h = absurd (omega arith)
has_bytes-long (b ∷ bs) h = refl

pub is_short-le : (line : List ℕ) → length line ≤ most_line_bytes → is_short line ≡ true
is_short-le line h = le-leb (length line) most_line_bytes h

module _ {S : Type 0} (gives : Gives S) (laws : Composes gives) where
  -- as many answers as lines
  pub as_many : (old new : S) (xs cs : List (List ℕ)) → gives old xs cs new → length xs ≡ length cs
  as_many old new xs cs p = sym (laws.each old new xs cs p)

  -- one line that has bytes
  pub gives-one : (old new : S) (line : List ℕ) (texts : List (List ℕ)) → has_bytes line ≡ true → gives old (line ∷ []) texts new → gives old (filter has_bytes (line ∷ [])) texts new
  gives-one old new line texts h p = subst (λ t. gives old (cond t (line ∷ []) []) texts new) (sym h) p

pub printed-append : (cs bs : List (List ℕ)) → written print (cs ++ bs) ≡ written print cs ++ written print bs
printed-append [] bs = refl
printed-append (a ∷ cs) bs = ap (λ l. print a ++ l) (printed-append cs bs) ∙ sym (append_assoc (print a) (written print cs) (written print bs))

-- a first line that is answered
pub filter-first : (line : List ℕ) (lines : List (List ℕ)) → has_bytes line ≡ true → filter has_bytes (line ∷ lines) ≡ line ∷ filter has_bytes lines
filter-first line lines h = ap (λ t. cond t (line ∷ filter has_bytes lines) (filter has_bytes lines)) h

take_while-short : (p : List ℕ → Bool) (xs ys : List (List ℕ)) → list_all p xs ≡ true → take_while p (xs ++ ys) ≡ xs ++ take_while p ys
take_while-short p [] ys h = refl
take_while-short p (x ∷ xs) ys h =
    let both = both_hold (p x) (list_all p xs) h in
    take_while-cons p x (xs ++ ys) ∙ ap (λ t. cond t (x ∷ take_while p (xs ++ ys)) []) both.0 ∙ ap (λ l. x ∷ l) (take_while-short p xs ys both.1)

-- what is answered of lines behind others, where so many more lines may come
abbrev pub asked_among : ℕ → List (List ℕ) → List (List ℕ)
asked_among n lines = filter has_bytes (take_while is_short (take n lines))

asked_behind : (n k : ℕ) (whole lines : List (List ℕ)) → n ≡ length whole + k → list_all is_short whole ≡ true
    → asked_among n (whole ++ lines) ≡ filter has_bytes whole ++ asked_among k lines
asked_behind n k whole lines e h =
    ap (λ m. asked_among m (whole ++ lines)) e
    ∙ ap (λ l. filter has_bytes (take_while is_short l)) (take-append-add whole lines k)
    ∙ ap (filter has_bytes) (take_while-short is_short whole (take k lines) h)
    ∙ filter-append has_bytes whole (take_while is_short (take k lines))

pub asked-append : (whole lines : List (List ℕ)) → list_all is_short whole ≡ true → length whole ≤ most_lines
    → asked (whole ++ lines) ≡ filter has_bytes whole ++ asked_among (most_lines - length whole) lines
asked-append whole lines h few = asked_behind most_lines (most_lines - length whole) whole lines (omega arith) h

pub asked_among-none : (n : ℕ) → asked_among n [] ≡ []
asked_among-none zero = refl
asked_among-none (suc n) = refl

-- nothing is answered from a line on that is too long
pub asked_among-long : (n : ℕ) (line : List ℕ) (lines : List (List ℕ)) → is_short line ≡ false → asked_among n (line ∷ lines) ≡ []
asked_among-long zero line lines h = refl
asked_among-long (suc n) line lines h = ap (filter has_bytes) (take_while-cons is_short line (take n lines) ∙ ap (λ t. cond t (line ∷ take_while is_short (take n lines)) []) h)

and_false : (a : Bool) → (a && false) ≡ false
and_false true = refl
and_false false = refl

pub is_short-gt : (line : List ℕ) → most_line_bytes < length line → is_short line ≡ false
is_short-gt line h = lt-leb (length line) most_line_bytes h

-- a line too long
pub fits-long : (whole : List (List ℕ)) (line : List ℕ) (lines : List (List ℕ)) → is_short line ≡ false → fits (whole ++ line ∷ lines) ≡ false
fits-long whole line lines h =
    ap (λ t. nat_le (length (whole ++ line ∷ lines)) most_lines && t) (list_all-append is_short whole (line ∷ lines) ∙ ap (λ t. list_all is_short whole && (t && list_all is_short lines)) h ∙ and_false (list_all is_short whole))
    ∙ and_false (nat_le (length (whole ++ line ∷ lines)) most_lines)

-- a line too many
pub fits-many : (whole lines : List (List ℕ)) → length whole ≡ most_lines → 0 < length lines → fits (whole ++ lines) ≡ false
fits-many whole lines full some = ap (λ t. t && list_all is_short (whole ++ lines)) (lt-leb (length (whole ++ lines)) most_lines (omega (arith, length-append whole lines)))

-- lines within the limits
pub fits-true : (lines : List (List ℕ)) → length lines ≤ most_lines → list_all is_short lines ≡ true → fits lines ≡ true
fits-true lines few h = ap (λ t. t && list_all is_short lines) (le-leb (length lines) most_lines few) ∙ h

pub not_full : (n : ℕ) → n ≤ most_lines → (n ≡ most_lines → ⊥) → n < most_lines
not_full n few h = omega arith

-- lines within the limits, and one that is begun
pub fits_begun : (whole : List (List ℕ)) (line : List ℕ) → list_all is_short whole ≡ true → list_all is_inside line ≡ true → length line ≤ most_line_bytes → length whole ≤ most_lines
    → (length whole ≡ most_lines → line ≡ []) → fits (whole ++ lines_of true line) ≡ true
fits_begun whole [] each own short few room = ap fits (append-nil whole) ∙ fits-true whole few each
fits_begun whole (b ∷ bs) each own short few room =
    let below : length whole < most_lines = not_full (length whole) few (λ full. let none : length (b ∷ bs) ≡ 0 = ap length (room full) in omega arith) in
    ap (λ l. fits (whole ++ l)) (lines-last b bs own)
    ∙ fits-true (whole ++ (b ∷ bs) ∷ []) (omega (arith, length-append whole ((b ∷ bs) ∷ [])))
    (list_all-append is_short whole ((b ∷ bs) ∷ []) ∙ ap (λ t. t && (is_short (b ∷ bs) && true)) each ∙ ap (λ t. t && true) (is_short-le (b ∷ bs) short))

-- nothing is answered where no line is, or one that is too long
pub asked_none : (n : ℕ) (prefix : List ℕ) (lines : List (List ℕ)) → ((rest : List ℕ) → is_short (prefix ++ rest) ≡ false) → (lines ≡ []) ⊎ Begins prefix lines → asked_among n lines ≡ []
asked_none n prefix lines long (inl none) = ap (asked_among n) none ∙ asked_among-none n
asked_none n prefix lines long (inr some) = ap (asked_among n) some.is ∙ asked_among-long n (prefix ++ some.rest) some.others (long some.rest)
