-- Bytes that come later leave the lines that are whole as they are.
use Rattle.std.proofs.Common.{◌≡◌, ◌&&◌, ◌==◌, not, subst, ℕ, zero, suc, Bool, true, false, cond, List, [], ◌∷◌, ◌++◌, take, filter, refl, ap, sym, ◌∙◌, append-nil}
use Rattle.std.proofs.lemmas.Bool.{eqb-true}
use Rattle.std.specs.List.{list_all, take_while}
use Rattle.std.proofs.lemmas.List.Sums.{take_while-cons}
use Rattle.up_lines.specs.Lines.{newline, begin_with, lines_of, is_short, has_bytes, asked, most_lines}
use Rattle.up_lines.specs.Progress.{is_inside}
use Rattle.up_lines.proofs.Cuts.{lines-inside, lines-begun}
use Rattle.up_lines.proofs.RunLaws.{asked_among}

-- bytes, cut into lines and the rest that no newline ends
record Cut (came : List ℕ) : Type 0 where
  whole : List (List ℕ)
  rest : List ℕ
  own_bytes : list_all is_inside rest ≡ true
  cut : (ended : Bool) (more : List ℕ) → lines_of ended (came ++ more) ≡ whole ++ lines_of ended (rest ++ more)

-- a line's end comes first
cut_newline : (bytes : List ℕ) → Cut bytes → Cut (newline ∷ bytes)
cut_newline bytes c = record { whole = [] ∷ c.whole; rest = c.rest; own_bytes = c.own_bytes; cut = λ ended more. ap (λ l. [] ∷ l) (c.cut ended more) }

-- a line's own byte comes first
cut_inside : (byte : ℕ) (bytes : List ℕ) → is_inside byte ≡ true → (whole : List (List ℕ)) (rest : List ℕ) → list_all is_inside rest ≡ true
    → ((ended : Bool) (more : List ℕ) → lines_of ended (bytes ++ more) ≡ whole ++ lines_of ended (rest ++ more)) → Cut (byte ∷ bytes)
cut_inside byte bytes own [] rest own_bytes cut = record {
  whole = [];
  rest = byte ∷ rest;
  own_bytes = ap (λ t. t && list_all is_inside rest) own ∙ own_bytes;
  cut = λ ended more. lines-inside ended byte (bytes ++ more) own ∙ ap (begin_with ended byte) (cut ended more) ∙ sym (lines-inside ended byte (rest ++ more) own);
}
cut_inside byte bytes own (line ∷ lines) rest own_bytes cut = record {
  whole = (byte ∷ line) ∷ lines;
  rest = rest;
  own_bytes = own_bytes;
  cut = λ ended more. lines-inside ended byte (bytes ++ more) own ∙ ap (begin_with ended byte) (cut ended more);
}

cut_byte : (byte : ℕ) (bytes : List ℕ) → (b : Bool) → (byte == newline) ≡ b → Cut bytes → Cut (byte ∷ bytes)
cut_byte byte bytes true is c = subst (λ n. Cut (n ∷ bytes)) (sym (eqb-true byte newline is)) (cut_newline bytes c)
cut_byte byte bytes false is c = cut_inside byte bytes (ap not is) c.whole c.rest c.own_bytes c.cut

cut_of : (came : List ℕ) → Cut came
cut_of [] = record { whole = []; rest = []; own_bytes = refl; cut = λ _ _. refl }
cut_of (byte ∷ bytes) = cut_byte byte bytes (byte == newline) refl (cut_of bytes)

filter_cond : (b : Bool) (lines : List (List ℕ)) → filter has_bytes (cond b lines []) ≡ cond b (filter has_bytes lines) []
filter_cond true lines = refl
filter_cond false lines = refl

-- what is answered of a line and those behind it
asked_among-cons : (n : ℕ) (line : List ℕ) (lines : List (List ℕ)) → asked_among (suc n) (line ∷ lines) ≡ cond (is_short line) (cond (has_bytes line) (line ∷ asked_among n lines) (asked_among n lines)) []
asked_among-cons n line lines =
    ap (filter has_bytes) (take_while-cons is_short line (take n lines)) ∙ filter_cond (is_short line) (line ∷ take_while is_short (take n lines))

one_more : (short some : Bool) (line : List ℕ) (all first others : List (List ℕ)) → all ≡ first ++ others
    → (more : List (List ℕ)) × (cond short (cond some (line ∷ all) all) [] ≡ cond short (cond some (line ∷ first) first) [] ++ more)
one_more false some line all first others e = ([], refl)
one_more true true line all first others e = (others, ap (λ l. line ∷ l) e)
one_more true false line all first others e = (others, e)

-- the first of more lines are answered as they are without the others
first_asked : (n : ℕ) (whole lines : List (List ℕ)) → (others : List (List ℕ)) × (asked_among n (whole ++ lines) ≡ asked_among n whole ++ others)
first_asked zero whole lines = ([], refl)
first_asked (suc n) [] lines = (asked_among (suc n) lines, refl)
first_asked (suc n) (line ∷ whole) lines =
    let (others, same) = first_asked n whole lines in
    let (more, e) = one_more (is_short line) (has_bytes line) line (asked_among n (whole ++ lines)) (asked_among n whole) others same in
    (more, asked_among-cons n line (whole ++ lines) ∙ e ∙ ap (λ l. l ++ more) (sym (asked_among-cons n line whole)))

-- lines that are whole are the first to be answered, whatever follows
pub whole_first : (came more : List ℕ) → (others : List (List ℕ)) × (asked (lines_of true (came ++ more)) ≡ asked (lines_of false came) ++ others)
whole_first came more =
    let c = cut_of came in
    let all : lines_of false came ≡ c.whole =
    ap (lines_of false) (sym (append-nil came)) ∙ c.cut false [] ∙ ap (λ l. c.whole ++ l) (ap (lines_of false) (append-nil c.rest) ∙ lines-begun c.rest c.own_bytes) ∙ append-nil c.whole in
    let (others, same) = first_asked most_lines c.whole (lines_of true (c.rest ++ more)) in
    (others, ap asked (c.cut true more) ∙ same ∙ ap (λ l. asked l ++ others) (sym all))
