use Rattle.std.proofs.Common.{refl}
use Rattle.std.proofs.lemmas.Result.{IfOk-weaker}
use Rattle.up_service.specs.Responses.{answer_response}
use Rattle.up_service.proofs.Answering.{on_err}
use Rattle.up_service.proofs.response.called_response.Goals as goal

pub returns-clause-ok : goal.returns-clause-ok
returns-clause-ok g c = IfOk-weaker c.answer_response.result _ _ (λ t is. (c.call-answer.result, c.call-answer.ensures, is)) c.answer_response.ensures

pub returns-clause-err : goal.returns-clause-err
returns-clause-err g c = on_err c.answer_response.result (answer_response c.call-answer.result c.args.last c.args.head, (c.call-answer.result, c.call-answer.ensures, refl))
