use Rattle.std.proofs.Common.{Ok, Err, refl}
use Rattle.std.proofs.lemmas.Result.{IfOk-weaker}
use Rattle.std.specs.Prelude.{string_bytes}
use Rattle.up_script.specs.PrintedLines.{refused_text}
use Rattle.up_service.proofs.Answering.{on_err}
use Rattle.up_service.proofs.line_answer.shown_text.Goals as goal

pub returns-in-Ok-clause-ok : goal.returns-in-Ok-clause-ok
returns-in-Ok-clause-ok g c = (Ok (string_bytes c.in-Ok.text), c.in-Ok.ensures.line, refl)

pub returns-in-Err-clause-ok : goal.returns-in-Err-clause-ok
returns-in-Err-clause-ok g c = IfOk-weaker c.refused_text.result _ _ (λ t is. (Err c.in-Err.refusal, c.in-Err.ensures.refused, is)) c.refused_text.ensures

pub returns-in-Err-clause-err : goal.returns-in-Err-clause-err
returns-in-Err-clause-err g c = on_err c.refused_text.result (refused_text c.in-Err.refusal, (Err c.in-Err.refusal, c.in-Err.ensures.refused, refl))
