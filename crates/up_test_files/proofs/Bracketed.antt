-- The first of some lines, answered by itself.
use Rattle.std.proofs.Common.{ap, arith, append-nil, sym, refl, ◌∙◌, ◌≡◌, ◌<◌, ◌++◌, ℕ, suc, List, [], ◌∷◌, length, Bor, Result, Ok, Err, OnErr}
use Rattle.up_lines.specs.LineRuns.{Gives, print}
use Rattle.up_lines.specs.Together.{AnswersSome, AnswersUntold, bytes_of}

-- each line has an answer
abbrev pub Counts : Gives ℕ
Counts old lines texts new = length texts ≡ length lines

pub answered_one : (slices : List (Bor (List ℕ))) (text held answers : List ℕ) (old new : ℕ) → 0 < length slices → answers ≡ held ++ print text
    → AnswersSome Counts old (bytes_of slices) 1 held answers new
answered_one [] text held answers old new some is = absurd (omega (arith, some))
answered_one (slice ∷ slices) text held answers old new some is = record {
  some = omega arith;
  within = omega arith;
  texts = text ∷ [];
  given = refl;
  appended = is ∙ ap (λ t. held ++ t) (sym (append-nil (print text)));
}

untold : (slices : List (Bor (List ℕ))) (old new : ℕ) → 0 < length slices → AnswersUntold Counts old (bytes_of slices) new
untold [] old new some = absurd (omega (arith, some))
untold (slice ∷ slices) old new some = (
  record {
    next = slice.now ∷ [];
    others = bytes_of slices;
    lines_are = refl;
    some = λ is. absurd (let no : suc 0 ≡ 0 = ap length is in omega (arith, no));
  },
  [] ∷ [],
  refl,
)

pub untold_one : {A E : Type 0} (result : Result A E) (slices : List (Bor (List ℕ))) (old new : ℕ) → 0 < length slices
    → OnErr result (AnswersUntold Counts old (bytes_of slices) new)
untold_one (Ok x) slices old new some = tt
untold_one (Err e) slices old new some = untold slices old new some
