-- Lines of few bytes are short.
use Rattle.std.proofs.Common.{◌≡◌, ◌⊎◌, ◌&&◌, ◌==◌, inl, inr, ℕ, suc, ◌<◌, ◌≤◌, true, false, cond, List, [], ◌∷◌, ◌++◌, length, refl, ap, sym, ◌∙◌, arith, append_assoc, append-nil, length-append}
use Rattle.std.specs.Prelude.{⊤}
use Rattle.std.specs.List.{list_all}
use Rattle.std.proofs.lemmas.Bool.{leb-true}
use Rattle.std.proofs.lemmas.List.Folds.{list_all-append}
use Rattle.up_lines.specs.Lines.{newline, begin_with, most_line_bytes, piece_bytes, lines_of, is_short}
use Rattle.up_lines.specs.Progress.{IsPart, is_inside}
use Rattle.up_lines.proofs.Cuts.{both_hold, lines-last, lines-line}
use Rattle.up_lines.proofs.RunLaws.{is_short-le}

-- the first of the lines has at most so many bytes, and the others are short
abbrev Fit : ℕ → List (List ℕ) → Type 0
Fit n [] = ⊤
Fit n (line ∷ lines) = (length line ≤ n) × (list_all is_short lines ≡ true)

fit_short : (n : ℕ) (lines : List (List ℕ)) → n ≤ most_line_bytes → Fit n lines → list_all is_short lines ≡ true
fit_short n [] few fit = refl
fit_short n (line ∷ lines) few (first, others) =
    ap (λ t. t && list_all is_short lines) (is_short-le line (omega (arith, few, first))) ∙ others

fit_more : (n b : ℕ) (lines : List (List ℕ)) → Fit n lines → Fit (suc n) (begin_with true b lines)
fit_more n b [] fit = (omega arith, refl)
fit_more n b (line ∷ lines) (first, others) = (omega (arith, first), others)

fit_of : (bytes : List ℕ) → length bytes ≤ most_line_bytes → Fit (length bytes) (lines_of true bytes)
fit_of [] few = tt
fit_of (b ∷ bs) few =
    let rest = fit_of bs (omega (arith, few)) in
    elim (b == newline) as (λ t. Fit (suc (length bs)) (cond t ([] ∷ lines_of true bs) (begin_with true b (lines_of true bs)))) [
      | true ↦ (omega arith, fit_short (length bs) (lines_of true bs) (omega (arith, few)) rest)
      | false ↦ fit_more (length bs) b (lines_of true bs) rest
    ]

-- all lines of few bytes
short_few : (bytes : List ℕ) → length bytes ≤ most_line_bytes → list_all is_short (lines_of true bytes) ≡ true
short_few bytes few = fit_short (length bytes) (lines_of true bytes) few (fit_of bytes few)

-- behind a line that is begun, and a part of it
pub short_grown : (line piece : List ℕ) → list_all is_inside line ≡ true → length line ≤ most_line_bytes → length piece ≤ piece_bytes → (begun : IsPart piece)
    → (0 < length piece → length (line ++ begun.part) ≤ most_line_bytes) → list_all is_short (lines_of true (line ++ piece)) ≡ true
short_grown line [] own short small begun long = ap (λ l. list_all is_short (lines_of true l)) (append-nil line) ∙ short_few line short
short_grown line (b ∷ bs) own short small begun long = by_end begun.rest begun.piece_is begun.ends
  where
    part : List ℕ
    part = begun.part

    own_part : list_all is_inside (line ++ part) ≡ true
    own_part = list_all-append is_inside line part ∙ ap (λ t. t && list_all is_inside part) own ∙ begun.own

    by_end : (rest : List ℕ) → b ∷ bs ≡ part ++ rest → (rest ≡ []) ⊎ ((more : List ℕ) × (rest ≡ newline ∷ more)) → list_all is_short (lines_of true (line ++ b ∷ bs)) ≡ true
    by_end rest is (inl none) =
        ap (λ l. list_all is_short (lines_of true (line ++ l))) (is ∙ ap (λ l. part ++ l) none ∙ append-nil part) ∙ short_few (line ++ part) (long (omega arith))
    by_end rest is (inr (more, ends)) =
        ap (λ l. list_all is_short (lines_of true l)) (ap (λ l. line ++ l) (is ∙ ap (λ l. part ++ l) ends) ∙ sym (append_assoc line part (newline ∷ more)))
        ∙ ap (list_all is_short) (lines-line true (line ++ part) more own_part)
        ∙ ap (λ t. t && list_all is_short (lines_of true more)) (is_short-le (line ++ part) (long (omega arith)))
        ∙ short_few more (omega (arith, small, ap length is, ap length ends, length-append part rest))

-- a line that is begun
pub short_begun : (line : List ℕ) → list_all is_inside line ≡ true → list_all is_short (lines_of true line) ≡ true → length line ≤ most_line_bytes
short_begun [] own short = omega arith
short_begun (b ∷ bs) own short =
    leb-true (length (b ∷ bs)) most_line_bytes (both_hold (is_short (b ∷ bs)) true (ap (list_all is_short) (sym (lines-last b bs own)) ∙ short)).0

-- a piece that begins with no newline has some bytes of a line
pub part_some : (piece : List ℕ) (p : IsPart piece) → 0 < length piece → ((more : List ℕ) → piece ≡ newline ∷ more → ⊥) → 0 < length p.part
part_some piece p some none = by_part p.part p.rest p.piece_is p.ends
  where
    by_part : (part rest : List ℕ) → piece ≡ part ++ rest → (rest ≡ []) ⊎ ((more : List ℕ) × (rest ≡ newline ∷ more)) → 0 < length part
    by_part [] rest is (inl last) = absurd (omega (arith, some, ap length is, ap length last))
    by_part [] rest is (inr (more, ends)) = absurd (none more (is ∙ ends))
    by_part (b ∷ bs) rest is ends = omega arith
