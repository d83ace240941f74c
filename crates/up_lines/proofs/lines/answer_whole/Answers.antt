use Rattle.std.proofs.Common.{◌≡◌, ◌<◌, ◌∙◌, [], length, refl, ap, sym, subst, arith, true}
use Rattle.std.specs.Prelude.{MatchBool}
use Rattle.up_lines.specs.Lines.{most_lines}
use Rattle.std.specs.List.{list_all}
use Rattle.up_lines.specs.Progress.{BreaksOff, Settles, is_inside}
use Rattle.up_lines.proofs.Cuts.{has_some}
use Rattle.up_lines.proofs.Steps.{sofar_of, step_ends, within_next}
use Rattle.up_lines.proofs.Stopping.{breaks_lines, breaks_many}
use Rattle.up_lines.proofs.lines.answer_whole.Goals as goal

pub loop-alloc-preserved : goal.loop-alloc-preserved
loop-alloc-preserved g c =
    let (onward, can, grows) = c.loop-alloc.invariant in (
      (λ first came w. within_next g.I.Interpret.gives g.met.I.Interpret.composes c.loop-alloc.progress c.end_lines.new.progress _ _ c.in_ok-end_lines.ensures.step.ok first came (onward first came w)),
      c.in_ok-end_lines.ensures.step.goes_on,
      omega (arith, grows, c.end_lines.ensures.step.grows),
    )

pub returns-in_err-end_lines : goal.returns-in_err-end_lines
returns-in_err-end_lines g c =
    let (onward, can, grows) = c.loop-alloc.invariant in
    let cause = c.in_err-end_lines.field-0.0 in
    step_ends (Settles g.I.Interpret.gives) (BreaksOff g.I.Interpret.gives) _ _ _ _ _ _ c.from_residual.result cause c.from_residual.ensures.1
    (λ first came w. breaks_lines g.I.Interpret.gives g.met.I.Interpret.composes cause c.loop-alloc.progress c.end_lines.new.progress _ _ c.in_err-end_lines.ensures.step.err first came (onward first came w))
    (omega (arith, grows, c.end_lines.ensures.step.grows)) c.in_err-end_lines.ensures.step.blames

pub returns-then-progress-eq-MOST_LINES : goal.returns-then-progress-eq-MOST_LINES
returns-then-progress-eq-MOST_LINES g c =
    let (onward, can, grows) = c.loop-alloc.invariant in
    let whole = subst (λ b. MatchBool b (list_all is_inside c.as_slice.result.now ≡ true → ⊥) (list_all is_inside c.as_slice.result.now ≡ true)) c.loop-alloc-test.true c.has_line.ensures in
    record {
      ok = tt;
      err = λ first came w. breaks_many g.I.Interpret.gives g.met.I.Interpret.composes c.loop-alloc.progress c.loop-alloc.progress _ (has_some c.loop-alloc.progress.line.items (λ none. whole (ap (list_all is_inside) (c.as_slice.ensures.value ∙ none)))) c.if-progress-eq-MOST_LINES.true refl first came (onward first came w);
      grows = grows;
      goes_on = tt;
      blames = (tt, can);
    }

pub returns-then-is_past : goal.returns-then-is_past
returns-then-is_past g c =
    let (onward, can, grows) = c.loop-alloc.invariant in
    let it = subst (λ b. MatchBool b ((c.loop-alloc.progress.counted ≡ most_lines) × (0 < length c.loop-alloc.progress.line.items)) (c.loop-alloc.progress.counted ≡ most_lines → c.loop-alloc.progress.line.items ≡ [])) c.if-is_past.true c.is_past.ensures in
    record {
      ok = tt;
      err = λ first came w. breaks_many g.I.Interpret.gives g.met.I.Interpret.composes c.loop-alloc.progress c.loop-alloc.progress _ it.1 it.0 refl first came (onward first came w);
      grows = grows;
      goes_on = tt;
      blames = (tt, can);
    }

pub returns : goal.returns
returns g c =
    let (onward, can, grows) = c.loop-alloc.invariant in
    let own = subst (λ b. MatchBool b (list_all is_inside c.as_slice.result.now ≡ true → ⊥) (list_all is_inside c.as_slice.result.now ≡ true)) c.loop-alloc-test.false c.has_line.ensures in
    record {
      ok = λ first came w. sofar_of g.I.Interpret.gives g.met.I.Interpret.composes c.loop-alloc.progress _ (ap (list_all is_inside) (sym c.as_slice.ensures.value) ∙ own) (subst (λ b. MatchBool b ((c.loop-alloc.progress.counted ≡ most_lines) × (0 < length c.loop-alloc.progress.line.items)) (c.loop-alloc.progress.counted ≡ most_lines → c.loop-alloc.progress.line.items ≡ [])) c.if-is_past.false c.is_past.ensures) first came (onward first came w);
      err = tt;
      grows = grows;
      goes_on = can;
      blames = tt;
    }
