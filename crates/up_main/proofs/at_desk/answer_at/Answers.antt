use Rattle.up_main.proofs.Answered.{told_ok, untold_err}
use Rattle.up_main.proofs.at_desk.answer_at.Goals as goal

pub returns-clause-ok : goal.returns-clause-ok
returns-clause-ok g c =
    told_ok g.K.Scheme.rules g.D.Store c.args.desk.now c.answer.new.state c.args.at c.args.connection.now.line c.answer.new.self.line c.answer.result c.answer.ensures.ok

pub returns-clause-err : goal.returns-clause-err
returns-clause-err g c =
    untold_err g.K.Scheme.rules g.D.Store c.args.desk.now c.answer.new.state _ c.args.at c.args.connection.now.line c.answer.result c.answer.ensures.err
