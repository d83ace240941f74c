use Rattle.up_machine.proofs.Primaries.{gives_sent}
use Rattle.up_machine.proofs.primary.decide_sent_by.Goals as goal

pub returns-clause-sent : goal.returns-clause-sent
returns-clause-sent g c = λ s founding founded is.
    gives_sent (g.K.Scheme.rules c.args.scheme.now) s c.args.incoming.now founding c.args.primary.now c.check_kept_primary.result founded is c.check_kept_primary.ensures
