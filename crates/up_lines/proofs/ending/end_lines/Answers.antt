use Rattle.std.proofs.Common.{◌∙◌, ◌≤◌, ◌<◌, length, refl, ap, sym, arith, length-append}
use Rattle.std.specs.List.{list_all}
use Rattle.std.proofs.lemmas.Result.{IfErr-weaker}
use Rattle.up_lines.specs.Lines.{has_bytes}
use Rattle.up_lines.specs.Progress.{is_inside}
use Rattle.up_lines.proofs.Steps.{closes_lines, fails_lines, on_ok}
use Rattle.up_lines.proofs.Together.{fewer_left, filter_fewer}
use Rattle.up_lines.proofs.ending.end_lines.Goals as goal

pub invariant_of-progress : goal.invariant_of-progress
invariant_of-progress g c =
    let cut = c.cut_lines-cut.ensures.cut in
    let few : c.answer_lines-ended.new.answered ≤ c.cut_lines-cut.result.counted =
    omega (arith, c.answer_lines-ended.ensures.few, ap length cut.listed_are, filter_fewer has_bytes cut.lines, cut.counted_is) in
    record {
      in_order = omega (arith, few, c.args.progress.now.in_order);
      few = omega (arith, cut.few, c.requires.few);
      room = λ small. absurd (c.requires.whole (let bare = c.args.progress.now.room (omega (arith, small, c.keep_behind.ensures.capacity)) in ap (list_all is_inside) bare.0));
    }

pub returns-clause-step : goal.returns-clause-step
returns-clause-step g c =
    let cut = c.cut_lines-cut.ensures.cut in
    record {
      ok = on_ok c.answer_lines-ended.result
          (closes_lines g.I.Interpret.gives g.met.I.Interpret.composes c.args.progress.now _ _ _ c.as_slice.result.now _ c.cut_lines-cut.result.taken c.cut_lines-cut.result.counted c.cut_lines-cut.result.some c.answer_lines-ended.new.answered
          c.cut_lines-cut.result.listed c.as_slice.ensures.value cut c.keep_behind.ensures.left refl refl (omega (arith, cut.few, c.requires.few))) c.answer_lines-ended.ensures.ok;
      err = IfErr-weaker c.answer_lines-ended.result _ _
          (λ cause. fails_lines g.I.Interpret.gives g.met.I.Interpret.composes cause c.args.progress.now _ _ _ c.as_slice.result.now _ c.cut_lines-cut.result.taken c.cut_lines-cut.result.counted c.cut_lines-cut.result.some c.answer_lines-ended.new.answered
          c.cut_lines-cut.result.listed c.as_slice.ensures.value cut refl (omega (arith, cut.few, c.requires.few))) c.answer_lines-ended.ensures.err;
      grows = omega arith;
      goes_on = c.answer_lines-ended.ensures.goes_on;
      blames = c.answer_lines-ended.ensures.blames;
    }

pub returns-clause-less : goal.returns-clause-less
returns-clause-less g c =
    let cut = c.cut_lines-cut.ensures.cut in
    let taken : 0 < c.cut_lines-cut.result.taken = c.cut_lines-cut.ensures.some (omega (arith, c.requires.few)) (λ own. c.requires.whole (ap (list_all is_inside) (sym c.as_slice.ensures.value) ∙ own)) in
    fewer_left c.cut_lines-cut.result.taken c.args.progress.now.line.items c.keep_behind.new.line.items c.keep_behind.ensures.left taken
    (omega (arith, taken, cut.taken_is, ap length cut.bytes_are, ap length c.as_slice.ensures.value, length-append cut.front cut.rest))
