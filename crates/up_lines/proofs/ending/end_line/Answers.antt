use Rattle.std.proofs.Common.{refl, arith}
use Rattle.std.proofs.lemmas.Grind.{common_steps}
use Rattle.up_lines.specs.Progress.{Closes, Fails}
use Rattle.up_lines.proofs.RunLaws.{has_bytes-long}
use Rattle.up_lines.proofs.Steps.{closes_some, step_ends}
use Rattle.up_lines.proofs.Together.{line_fails}
use Rattle.up_lines.proofs.ending.end_line.Goals as goal

pub returns-in_err-answer_some : goal.returns-in_err-answer_some
returns-in_err-answer_some g c =
    let cause = c.in_err-answer_some.field-0.0 in
    step_ends (Closes g.I.Interpret.gives) (Fails g.I.Interpret.gives) _ _ _ _ _ _ c.from_residual.result cause c.from_residual.ensures.1
    (record {
      some = has_bytes-long c.args.progress.now.line.items (grind (arith, common_steps, c.is_empty.ensures, c.if-is_empty.false));
      answered_is = refl;
      unanswered = line_fails g.I.Interpret.gives cause c.args.progress.now.line.items c.as_slice.result.now _ _ c.as_slice.ensures.value c.in_err-answer_some.ensures.err;
    })
    (omega arith) c.in_err-answer_some.ensures.blames

pub returns : goal.returns
returns g c = let (some, one, (texts, gave, wrote)) = c.in_ok-answer_some.ensures.ok in
    record {
      ok = closes_some g.I.Interpret.gives g.met.I.Interpret.composes c.args.progress.now _ _ _ c.as_slice.result.now _ texts c.as_slice.ensures.value
          (grind (arith, common_steps, c.is_empty.ensures, c.if-is_empty.false, c.as_slice.ensures.len)) c.clear.ensures.items refl refl some one gave wrote;
      err = tt;
      grows = omega arith;
      goes_on = c.in_ok-answer_some.ensures.goes_on;
      blames = tt;
    }
