use Rattle.std.proofs.Common.{Ok, Err, ap}
use Rattle.std.proofs.lemmas.Result.{IfOk-weaker, IfErr-weaker}
use Rattle.up_service.proofs.show.shown_with.Goals as goal

pub returns-in-Ok-clause-line : goal.returns-in-Ok-clause-line
returns-in-Ok-clause-line g c = IfOk-weaker c.line_with.result _ _ (λ line is. (Ok c.in-Ok.plan, c.in-Ok.ensures, is)) c.line_with.ensures.line

pub returns-in-Ok-clause-refused : goal.returns-in-Ok-clause-refused
returns-in-Ok-clause-refused g c = IfErr-weaker c.line_with.result _ _ (λ r is. (Ok c.in-Ok.plan, c.in-Ok.ensures, is)) c.line_with.ensures.memory

pub returns-in-Err-clause-refused : goal.returns-in-Err-clause-refused
returns-in-Err-clause-refused g c = (Err c.in-Err.fault, c.in-Err.ensures, ap Err c.refusal_of.ensures)
