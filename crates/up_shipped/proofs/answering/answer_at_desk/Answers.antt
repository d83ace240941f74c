use Rattle.std.proofs.lemmas.Result.{IfOk-weaker, IfErr-weaker}
use Rattle.up_shipped.proofs.Responses.{told_there, untold_there}
use Rattle.up_shipped.proofs.answering.answer_at_desk.Goals as goal

pub returns-clause-ok : goal.returns-clause-ok
returns-clause-ok g c =
    IfOk-weaker _ _ _ (λ _ told. told_there g.K.Scheme.rules g.D.Store c.args.at c.args.desk.now c.answer.new.state c.args.connection.now.line c.answer.new.self.line told) c.answer.ensures.ok

pub returns-clause-err : goal.returns-clause-err
returns-clause-err g c =
    IfErr-weaker _ _ _ (λ _ untold. untold_there g.K.Scheme.rules g.D.Store c.args.at c.args.desk.now c.answer.new.state c.args.connection.now c.answer.new.self untold) c.answer.ensures.err
