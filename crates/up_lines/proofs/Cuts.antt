-- Lines, cut from bytes that come one after another.
use Rattle.std.proofs.Common.{◌≡◌, ◌≢◌, ℕ, zero, suc, ◌+◌, ◌-◌, ◌≤◌, take, drop, get_or, take-append-drop, ◌==◌, ◌&&◌, ◌<◌, Bool, true, false, cond, not, ◌⊎◌, inl, inr, List, [], ◌∷◌, ◌++◌, length, refl, ap, sym, ◌∙◌, subst, arith}
use Rattle.std.specs.List.{list_all}
use Rattle.std.proofs.lemmas.Bool.{ne_eqb}
use Rattle.std.proofs.lemmas.List.{take_all, take_rest, drop_more}
use Rattle.up_lines.specs.Lines.{newline, begin_with, lines_of}
use Rattle.up_lines.specs.Progress.{is_inside}

-- both tests hold where both together do
pub both_hold : (a b : Bool) → (a && b) ≡ true → (a ≡ true) × (b ≡ true)
both_hold true b h = (refl, h)
both_hold false b h = (h, absurd (cc))

pub not_holds : (a : Bool) → not a ≡ true → a ≡ false
not_holds true h = absurd (cc)
not_holds false h = refl

-- a byte of a line's own goes before what follows
pub lines-inside : (ended : Bool) (b : ℕ) (bs : List ℕ) → is_inside b ≡ true → lines_of ended (b ∷ bs) ≡ begin_with ended b (lines_of ended bs)
lines-inside ended b bs h = ap (λ t. cond t ([] ∷ lines_of ended bs) (begin_with ended b (lines_of ended bs))) (not_holds (b == newline) h)

-- a line and its newline
pub lines-line : (ended : Bool) (line more : List ℕ) → list_all is_inside line ≡ true → lines_of ended (line ++ newline ∷ more) ≡ line ∷ lines_of ended more
lines-line ended [] more h = refl
lines-line ended (b ∷ bs) more h =
    let both = both_hold (is_inside b) (list_all is_inside bs) h in
    lines-inside ended b (bs ++ newline ∷ more) both.0 ∙ ap (begin_with ended b) (lines-line ended bs more both.1)

-- a line that the input's end ends
pub lines-last : (b : ℕ) (bs : List ℕ) → list_all is_inside (b ∷ bs) ≡ true → lines_of true (b ∷ bs) ≡ (b ∷ bs) ∷ []
lines-last b [] h = lines-inside true b [] (both_hold (is_inside b) true h).0
lines-last b (c ∷ cs) h =
    let both = both_hold (is_inside b) (list_all is_inside (c ∷ cs)) h in
    lines-inside true b (c ∷ cs) both.0 ∙ ap (begin_with true b) (lines-last c cs both.1)

pub lines-last_one : (line : List ℕ) → list_all is_inside line ≡ true → 0 < length line → lines_of true line ≡ line ∷ []
lines-last_one [] own some = absurd (omega arith)
lines-last_one (b ∷ bs) own some = lines-last b bs own

-- a line that isn't ended is none
pub lines-begun : (line : List ℕ) → list_all is_inside line ≡ true → lines_of false line ≡ []
lines-begun [] h = refl
lines-begun (b ∷ bs) h =
    let both = both_hold (is_inside b) (list_all is_inside bs) h in
    lines-inside false b bs both.0 ∙ ap (begin_with false b) (lines-begun bs both.1)

-- the lines begin with one that has this prefix
pub record Begins (prefix : List ℕ) (lines : List (List ℕ)) : Type 0 where
  pub rest : List ℕ
  pub others : List (List ℕ)
  pub is : lines ≡ (prefix ++ rest) ∷ others

begins_one : (b : ℕ) (lines : List (List ℕ)) → Begins (b ∷ []) (begin_with true b lines)
begins_one b [] = record { rest = []; others = []; is = refl }
begins_one b (l ∷ ls) = record { rest = l; others = ls; is = refl }

begins_more : (ended : Bool) (b : ℕ) (bs : List ℕ) (lines : List (List ℕ)) → Begins bs lines → Begins (b ∷ bs) (begin_with ended b lines)
begins_more ended b bs lines h = record { rest = h.rest; others = h.others; is = ap (begin_with ended b) h.is }

-- whatever follows bytes of a line's own, they are a prefix of the first line
pub lines-prefix : (begun more : List ℕ) → list_all is_inside begun ≡ true → 0 < length begun → Begins begun (lines_of true (begun ++ more))
lines-prefix [] more h some = absurd (omega arith)
lines-prefix (b ∷ []) more h some = subst (Begins (b ∷ [])) (sym (lines-inside true b more (both_hold (is_inside b) true h).0)) (begins_one b (lines_of true more))
lines-prefix (b ∷ c ∷ cs) more h some =
    let both = both_hold (is_inside b) (list_all is_inside (c ∷ cs)) h in
    subst (Begins (b ∷ c ∷ cs)) (sym (lines-inside true b (c ∷ cs ++ more) both.0)) (begins_more true b (c ∷ cs) _ (lines-prefix (c ∷ cs) more both.1 (omega arith)))

begins_or_none : (b : ℕ) (lines : List (List ℕ)) → (begin_with false b lines ≡ []) ⊎ Begins (b ∷ []) (begin_with false b lines)
begins_or_none b [] = inl refl
begins_or_none b (l ∷ ls) = inr (record { rest = l; others = ls; is = refl })

-- or there is none yet, where the line is never ended
lines-prefix_whole : (begun more : List ℕ) → list_all is_inside begun ≡ true → 0 < length begun → (lines_of false (begun ++ more) ≡ []) ⊎ Begins begun (lines_of false (begun ++ more))
lines-prefix_whole [] more h some = absurd (omega arith)
lines-prefix_whole (b ∷ []) more h some =
    let P : List (List ℕ) → Type 0 = λ l. (l ≡ []) ⊎ Begins (b ∷ []) l in
    subst P (sym (lines-inside false b more (both_hold (is_inside b) true h).0)) (begins_or_none b (lines_of false more))
lines-prefix_whole (b ∷ c ∷ cs) more h some =
    let both = both_hold (is_inside b) (list_all is_inside (c ∷ cs)) h in
    let P : List (List ℕ) → Type 0 = λ l. (l ≡ []) ⊎ Begins (b ∷ c ∷ cs) l in
    subst P (sym (lines-inside false b (c ∷ cs ++ more) both.0))
    (elim (lines-prefix_whole (c ∷ cs) more both.1 (omega arith)) as (λ _. P (begin_with false b (lines_of false (c ∷ cs ++ more)))) [
      | inl none ↦ inl (ap (begin_with false b) none)
      | inr some ↦ inr (begins_more false b (c ∷ cs) _ some)
    ])

-- in both cases
pub lines-begins : (ended : Bool) (begun more : List ℕ) → list_all is_inside begun ≡ true → 0 < length begun
    → (lines_of ended (begun ++ more) ≡ []) ⊎ Begins begun (lines_of ended (begun ++ more))
lines-begins true begun more h some = inr (lines-prefix begun more h some)
lines-begins false begun more h some = lines-prefix_whole begun more h some

begins_some : (b : ℕ) (lines : List (List ℕ)) → 0 < length (begin_with true b lines)
begins_some b [] = omega arith
begins_some b (l ∷ ls) = omega arith

-- bytes at the end of an input are in some line
pub lines-some : (bytes : List ℕ) → 0 < length bytes → 0 < length (lines_of true bytes)
lines-some [] some = absurd (omega arith)
lines-some (b ∷ bs) some =
    elim (b == newline) as (λ t. 0 < length (cond t ([] ∷ lines_of true bs) (begin_with true b (lines_of true bs)))) [
      | true ↦ omega arith
      | false ↦ begins_some b (lines_of true bs)
    ]

-- a byte that is no newline is one of a line's own
inside : (byte : ℕ) → byte ≢ newline → is_inside byte ≡ true
inside byte h = ap not (ne_eqb byte newline h)

all_inside : (bytes : List ℕ) (n : ℕ) → n ≤ length bytes → ((k : ℕ) → k < n → get_or bytes k 0 ≢ newline) → list_all is_inside (take n bytes) ≡ true
all_inside [] zero within none = refl
all_inside [] (suc n) within none = absurd (omega arith)
all_inside (b ∷ bs) zero within none = refl
all_inside (b ∷ bs) (suc n) within none =
    ap (λ t. t && list_all is_inside (take n bs)) (inside b (none 0 (omega arith))) ∙ all_inside bs n (omega arith) (λ k below. none (suc k) (omega arith))

-- bytes with no newline
pub none_ends : (bytes : List ℕ) → ((k : ℕ) → k < length bytes → get_or bytes k 0 ≢ newline) → list_all is_inside bytes ≡ true
none_ends bytes none = ap (list_all is_inside) (sym (take_all (length bytes) bytes (omega arith))) ∙ all_inside bytes (length bytes) (omega arith) none

-- bytes, cut before and behind the first newline
pub cut_at : (bytes : List ℕ) (at before behind : ℕ) → at < length bytes → get_or bytes at 0 ≡ newline → ((k : ℕ) → k < at → get_or bytes k 0 ≢ newline) → before ≡ at → behind ≡ at + 1
    → (list_all is_inside (take before bytes) ≡ true) × (bytes ≡ take before bytes ++ newline ∷ take (length bytes - behind) (drop behind bytes))
cut_at bytes at before behind below here none until from =
    let Cut : ℕ → ℕ → Type 0 = λ i j. (list_all is_inside (take i bytes) ≡ true) × (bytes ≡ take i bytes ++ newline ∷ take (length bytes - j) (drop j bytes)) in
    let rest : drop at bytes ≡ newline ∷ drop (at + 1) bytes = drop_more bytes at 0 below ∙ ap (λ b. b ∷ drop (at + 1) bytes) here in
    subst (λ i. Cut i behind) (sym until) (subst (Cut at) (sym from) (
      all_inside bytes at (omega arith) none,
      sym (take-append-drop at bytes) ∙ ap (λ l. take at bytes ++ l) (rest ∙ ap (λ l. newline ∷ l) (sym (take_rest bytes (at + 1)))),
    ))

-- bytes of a line's own begin with no newline
pub no_newline : (bytes more : List ℕ) → list_all is_inside bytes ≡ true → bytes ≡ newline ∷ more → ⊥
no_newline bytes more own is = let no : false ≡ true = sym (ap (list_all is_inside) is) ∙ own in cc

pub begins_inside : (line behind piece more : List ℕ) → 0 < length line → list_all is_inside line ≡ true → piece ≡ line ++ newline ∷ behind → piece ≡ newline ∷ more → ⊥
begins_inside [] behind piece more some own is begins = absurd (omega arith)
begins_inside (b ∷ bs) behind piece more some own is begins =
    let same : b ≡ newline = (let it : b ∷ (bs ++ newline ∷ behind) ≡ newline ∷ more = sym is ∙ begins in cc) in
    let no : false ≡ true = sym (ap is_inside same) ∙ (both_hold (is_inside b) (list_all is_inside bs) own).0 in
    cc

pub has_some : (bytes : List ℕ) → (bytes ≡ [] → ⊥) → 0 < length bytes
has_some [] none = absurd (none refl)
has_some (b ∷ bs) none = omega arith

-- a newline is no byte of a line's own
pub newline_ends : (line more bytes : List ℕ) → bytes ≡ line ++ newline ∷ more → list_all is_inside bytes ≡ true → ⊥
newline_ends line more bytes is own = among line (sym (ap (list_all is_inside) is) ∙ own)
  where
    among : (line : List ℕ) → list_all is_inside (line ++ newline ∷ more) ≡ true → ⊥
    among [] it = cc
    among (b ∷ bs) it = among bs (both_hold (is_inside b) (list_all is_inside (bs ++ newline ∷ more)) it).1
