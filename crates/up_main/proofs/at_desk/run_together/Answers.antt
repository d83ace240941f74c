use Rattle.up_main.proofs.Answered.{called_ok, same_err}
use Rattle.up_main.proofs.at_desk.run_together.Goals as goal

pub returns-clause-ok : goal.returns-clause-ok
returns-clause-ok g c =
    called_ok g.K.Scheme.rules g.D.Store c.args.desk.now c.run.new.self c.args.commands.now c.args.answers.now.items c.run.new.answers.items c.run.result c.run.ensures.scheme
    c.run.ensures.ran

pub returns-clause-err : goal.returns-clause-err
returns-clause-err g c = same_err g.K.Scheme.rules g.D.Store c.args.desk.now c.run.new.self _ _ _ c.run.result c.run.ensures.err
