use Rattle.std.proofs.Common.{arith}
use Rattle.std.proofs.lemmas.Grind.{common_steps}
use Rattle.std.proofs.lemmas.Result.{IfErr-weaker}
use Rattle.up_lines.proofs.Steps.{on_ok}
use Rattle.up_lines.proofs.Ends.{none_of, finishes_none, finishes_some, finish_stops}
use Rattle.up_lines.proofs.lines.finish.Goals as goal

pub returns-then-is_empty : goal.returns-then-is_empty
returns-then-is_empty g c = record {
  ok = finishes_none g.I.Interpret.gives g.met.I.Interpret.composes c.args.progress.now _ (none_of c.args.progress.now.line.items (grind (arith, common_steps)));
  err = tt;
  grows = omega arith;
  goes_on = c.requires;
  blames = tt;
}

pub returns : goal.returns
returns g c = record {
  ok = on_ok c.end_line.result
      (finishes_some g.I.Interpret.gives g.met.I.Interpret.composes c.args.progress.now _ _ _ (grind (arith, common_steps)) (grind (arith, common_steps))) c.end_line.ensures.ok;
  err = IfErr-weaker c.end_line.result _ _
      (λ cause h. finish_stops g.I.Interpret.gives g.met.I.Interpret.composes cause c.args.progress.now _ _ _ (grind (arith, common_steps)) (grind (arith, common_steps)) h) c.end_line.ensures.err;
  grows = c.end_line.ensures.grows;
  goes_on = c.end_line.ensures.goes_on;
  blames = c.end_line.ensures.blames;
}
