use Rattle.std.proofs.Common.{List, ℕ, refl, sym, subst, IfOk, OnErr}
use Rattle.std.proofs.lemmas.Result.{IfOk-weaker}
use Rattle.std.specs.Prelude.{string_bytes}
use Rattle.up_script.specs.PrintedLines.{answer_text}
use Rattle.up_service.specs.Told.{TellsCall, TellsWhat}
use Rattle.up_service.proofs.Answering.{on_err}
use Rattle.up_service.proofs.line_answer.carry_out.Goals as goal

pub returns-in-Call-clause-ok : goal.returns-in-Call-clause-ok
returns-in-Call-clause-ok g c =
    subst (λ w. IfOk c.answer_text.result (λ t. TellsWhat g.C.Called.gives g.C.Viewed.finds g.C.Viewed.finds_plan c.args.desk.now c.args.asked.now.at w (string_bytes t) c.call-answer.new.self)) (sym c.in-Call.is)
    (subst (λ n. IfOk c.answer_text.result (λ t. TellsCall g.C.Called.gives answer_text c.args.desk.now n c.in-Call.command (string_bytes t) c.call-answer.new.self)) c.get.ensures.value
    (IfOk-weaker c.answer_text.result _ _ (λ t is. (c.call-answer.result, c.call-answer.ensures, is)) c.answer_text.ensures))

pub returns-in-Call-clause-err : goal.returns-in-Call-clause-err
returns-in-Call-clause-err g c =
    subst (λ w. OnErr c.answer_text.result ((text : List ℕ) × TellsWhat g.C.Called.gives g.C.Viewed.finds g.C.Viewed.finds_plan c.args.desk.now c.args.asked.now.at w text c.call-answer.new.self)) (sym c.in-Call.is)
    (subst (λ n. OnErr c.answer_text.result ((text : List ℕ) × TellsCall g.C.Called.gives answer_text c.args.desk.now n c.in-Call.command text c.call-answer.new.self)) c.get.ensures.value
    (on_err c.answer_text.result (answer_text c.call-answer.result, (c.call-answer.result, c.call-answer.ensures, refl))))

pub returns-in-Show-clause-ok : goal.returns-in-Show-clause-ok
returns-in-Show-clause-ok g c =
    subst (λ w. IfOk c.shown_text.result (λ t. TellsWhat g.C.Called.gives g.C.Viewed.finds g.C.Viewed.finds_plan c.args.desk.now c.args.asked.now.at w (string_bytes t) c.shown_text.new.desk)) (sym c.in-Show.is) c.shown_text.ensures.ok

pub returns-in-Show-clause-err : goal.returns-in-Show-clause-err
returns-in-Show-clause-err g c =
    subst (λ w. OnErr c.shown_text.result ((text : List ℕ) × TellsWhat g.C.Called.gives g.C.Viewed.finds g.C.Viewed.finds_plan c.args.desk.now c.args.asked.now.at w text c.shown_text.new.desk)) (sym c.in-Show.is) c.shown_text.ensures.err
