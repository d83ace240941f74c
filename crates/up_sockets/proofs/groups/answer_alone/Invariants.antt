use Rattle.up_sockets.specs.Served.{IsServed}
use Rattle.up_sockets.proofs.groups.answer_alone.Given as goal

-- up to here so much was done
abbrev pub invariant-loop-client : goal.invariant-loop-client
invariant-loop-client g l = IsServed (g.V.Service.does l.service) l.fn.state l.state
