use Rattle.std.proofs.Common.{◌++◌, ◌∙◌, ap, length, map, subst}
use Rattle.std.specs.Prelude.{IfOk}
use Rattle.std.proofs.lemmas.Result.{IfOk-weaker, on_err_weaker}
use Rattle.up_lines.specs.LineRuns.{print}
use Rattle.up_lines.specs.Runs.{written}
use Rattle.up_lines.specs.Together.{AnswersSome, AnswersUntold, bytes_of}
use Rattle.up_script.specs.PrintedLines.{answer_text}
use Rattle.up_service.specs.Told.{TellsLine}
use Rattle.up_service.specs.Together.{AreCalledAsOne, InParts}
use Rattle.up_service.proofs.Answering.{on_err}
use Rattle.up_service.proofs.Grouped.{one_called, one_uncalled, some_bytes, some_called, some_uncalled}
use Rattle.up_service.proofs.line_answer.ScripterInterpret.interpret.Goals as goal

pub returns-in-Some-clause-ok : goal.returns-in-Some-clause-ok
returns-in-Some-clause-ok g c =
    let Alone = TellsLine g.C.Asks.asks g.C.Called.gives g.C.Viewed.finds g.C.Viewed.finds_plan in
    let held = c.args.answers.now.items in
    IfOk-weaker c.push_answers.result _ _
    (λ n h. some_called Alone g.C.Asks.asks g.C.Called.gives_each c.args.desk.now c.call_some.new.desk (bytes_of c.args.lines.now) c.in-Some.told.items n held c.push_answers.new.answers.items
    c.in-Some.ensures.some (h.0 ∙ ap length c.as_slice.ensures.value) (h.1 ∙ ap (λ t. held ++ written print (map answer_text t)) c.as_slice.ensures.value)) c.push_answers.ensures

pub returns-in-Some-clause-err : goal.returns-in-Some-clause-err
returns-in-Some-clause-err g c =
    let Alone = TellsLine g.C.Asks.asks g.C.Called.gives g.C.Viewed.finds g.C.Viewed.finds_plan in
    on_err c.push_answers.result (some_uncalled Alone g.C.Asks.asks g.C.Called.gives_each c.args.desk.now c.call_some.new.desk (bytes_of c.args.lines.now) c.in-Some.told.items c.in-Some.ensures.some)

pub returns-in-None-clause-ok : goal.returns-in-None-clause-ok
returns-in-None-clause-ok g c =
    let Alone = TellsLine g.C.Asks.asks g.C.Called.gives g.C.Viewed.finds g.C.Viewed.finds_plan in
    let lines = bytes_of c.args.lines.now in
    let held = c.args.answers.now.items in
    let answers = c.answer_first.new.answers.items in
    subst (λ d. IfOk c.answer_first.result (λ n. AnswersSome (InParts Alone (AreCalledAsOne g.C.Asks.asks g.C.Called.gives_each)) d lines n held answers c.answer_first.new.desk)) c.in-None.ensures.none
    (IfOk-weaker c.answer_first.result _ _
    (λ n h. one_called Alone g.C.Asks.asks g.C.Called.gives_each c.call_some.new.desk c.answer_first.new.desk lines n held answers (some_bytes c.args.lines.now c.requires) h) c.answer_first.ensures.ok)

pub returns-in-None-clause-err : goal.returns-in-None-clause-err
returns-in-None-clause-err g c =
    let Alone = TellsLine g.C.Asks.asks g.C.Called.gives g.C.Viewed.finds g.C.Viewed.finds_plan in
    let lines = bytes_of c.args.lines.now in
    on_err_weaker c.answer_first.result
    (λ h. subst (λ d. AnswersUntold (InParts Alone (AreCalledAsOne g.C.Asks.asks g.C.Called.gives_each)) d lines c.answer_first.new.desk) c.in-None.ensures.none
    (one_uncalled Alone g.C.Asks.asks g.C.Called.gives_each c.call_some.new.desk c.answer_first.new.desk lines (some_bytes c.args.lines.now c.requires) h)) c.answer_first.ensures.err
