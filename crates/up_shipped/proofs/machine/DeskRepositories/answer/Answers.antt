use Rattle.up_shipped.proofs.Machines.{desk_answers}
use Rattle.up_shipped.proofs.machine.DeskRepositories.answer.Goals as goal

pub returns-clause-answered : goal.returns-clause-answered
returns-clause-answered g c = λ clean k. desk_answers g.K.Scheme.rules g.D.Store _ _ _ _ _ c.call.ensures.called c.call.ensures.scheme clean k

pub returns-clause-clean : goal.returns-clause-clean
returns-clause-clean g c = λ clean. c.call.ensures.called.clean clean
