use Rattle.std.proofs.Common.{◌≡◌, ◌∙◌, [], ◌∷◌, ◌++◌, ℕ, List, filter, length, ◌+◌, ap, sym, refl, arith, append_assoc, length-append}
use Rattle.std.proofs.lemmas.List.Elements.{filter-append}
use Rattle.up_lines.specs.Lines.{newline, has_bytes}
use Rattle.up_lines.proofs.Together.{are_cut, no_lines, none_cut, one_more, some_bytes}
use Rattle.std.proofs.lemmas.Grind.{common_steps}
use Rattle.up_lines.proofs.cut.cut_lines.Goals.{then-loop-counted-test+else-some-lt-MOST_TOGETHER, else-loop-counted-test}
use Rattle.up_lines.proofs.cut.cut_lines.Goals as goal

pub loop-counted-init : goal.loop-counted-init
loop-counted-init c = ([], refl, [], no_lines, refl, omega arith, omega arith, refl, omega arith, omega arith)

-- what is cut, with the next line and its newline
with_line : (front rest line behind piece : List ℕ) → piece ≡ front ++ rest → rest ≡ line ++ newline ∷ behind → piece ≡ (front ++ (line ++ newline ∷ [])) ++ behind
with_line front rest line behind piece p q =
    p ∙ ap (λ l. front ++ l) (q ∙ sym (append_assoc line (newline ∷ []) behind)) ∙ sym (append_assoc front (line ++ newline ∷ []) behind)

pub loop-counted-preserved : goal.loop-counted-preserved
loop-counted-preserved c =
    let (front, is, lines, are, counted, few, fit, listed, longer, fewer) = c.loop-counted.invariant in
    let line = c.in-Some.line.now in
    let added : length (lines ++ line ∷ []) ≡ length lines + 1 = length-append lines (line ∷ []) in
    let grown : length (front ++ (line ++ newline ∷ [])) ≡ length front + (length line + 1) = omega (arith, length-append front (line ++ newline ∷ []), length-append line (newline ∷ [])) in (
      front ++ (line ++ newline ∷ []),
      with_line front c.loop-counted.rest.now line c.in-Some.behind.now c.args.bytes.now is c.in-Some.ensures.1,
      lines ++ line ∷ [],
      one_more front line lines are c.in-Some.ensures.0,
      omega (arith, counted, added),
      omega (arith, few, c.loop-counted-test.true),
      omega (arith, c.list_line-listing.ensures.few, c.loop-counted-test.true),
      c.list_line-listing.ensures.listed ∙ ap (λ l. l ++ filter has_bytes (line ∷ [])) listed ∙ sym (filter-append has_bytes lines (line ∷ [])),
      omega (arith, longer, added, grown),
      omega (arith, c.list_line-listing.ensures.few, fewer, added),
    )

pub returns-in-None-clause-cut : goal.returns-in-None-clause-cut
returns-in-None-clause-cut c =
    let (front, is, lines, are, counted, few, fit, listed, longer, fewer) = c.loop-counted.invariant in
    are_cut c.args.bytes.now c.loop-counted.rest.now front c.args.most _ c.loop-counted.counted c.loop-counted.some c.loop-counted.listed lines is refl are counted few fit listed

pub returns-clause-cut : goal.returns-clause-cut
returns-clause-cut c =
    let (front, is, lines, are, counted, few, fit, listed, longer, fewer) = c.loop-counted.invariant in
    are_cut c.args.bytes.now c.loop-counted.rest.now front c.args.most _ c.loop-counted.counted c.loop-counted.some c.loop-counted.listed lines is refl are counted few fit listed

pub returns-in-None-clause-some : goal.returns-in-None-clause-some
returns-in-None-clause-some c = λ room some.
    let (front, is, lines, are, counted, few, fit, listed, longer, fewer) = c.loop-counted.invariant in
    none_cut c.args.bytes.now c.loop-counted.rest.now front is c.in-None.ensures some

pub returns-clause-some : goal.returns-clause-some
returns-clause-some c = λ room some.
    let (front, is, lines, are, counted, few, fit, listed, longer, fewer) = c.loop-counted.invariant in
    some_bytes c.args.bytes.now c.loop-counted.rest.now front is (elim c.loop-counted-test.branch [
      | then-loop-counted-test+else-some-lt-MOST_TOGETHER w ↦ grind (arith, common_steps, w.if-some-lt-MOST_TOGETHER.false, longer, fewer)
      | else-loop-counted-test w ↦ grind (arith, common_steps, w.loop-counted-test.false, room, longer, counted)
    ])
