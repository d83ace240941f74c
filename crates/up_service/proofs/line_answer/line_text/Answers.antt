use Rattle.std.proofs.Common.{Ok, Err, refl}
use Rattle.std.proofs.lemmas.Result.{IfOk-weaker, on_err_weaker}
use Rattle.up_script.specs.PrintedLines.{refused_text}
use Rattle.up_service.proofs.Answering.{on_err}
use Rattle.up_service.proofs.line_answer.line_text.Goals as goal

pub returns-in-Ok-clause-ok : goal.returns-in-Ok-clause-ok
returns-in-Ok-clause-ok g c = IfOk-weaker c.carry_out.result _ _ (λ t h. (Ok c.in-Ok.asked, c.in-Ok.ensures.read, h)) c.carry_out.ensures.ok

pub returns-in-Ok-clause-err : goal.returns-in-Ok-clause-err
returns-in-Ok-clause-err g c = on_err_weaker c.carry_out.result (λ h. (h.0, (Ok c.in-Ok.asked, c.in-Ok.ensures.read, h.1))) c.carry_out.ensures.err

pub returns-in-Err-clause-ok : goal.returns-in-Err-clause-ok
returns-in-Err-clause-ok g c = IfOk-weaker c.refused_text.result _ _ (λ t is. (Err c.in-Err.refusal, c.in-Err.ensures.read, (is, refl))) c.refused_text.ensures

pub returns-in-Err-clause-err : goal.returns-in-Err-clause-err
returns-in-Err-clause-err g c = on_err c.refused_text.result (refused_text c.in-Err.refusal, (Err c.in-Err.refusal, c.in-Err.ensures.read, (refl, refl)))
