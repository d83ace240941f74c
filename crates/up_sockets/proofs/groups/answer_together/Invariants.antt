use Rattle.up_sockets.specs.Served.{IsServed}
use Rattle.up_sockets.proofs.groups.answer_together.Given as goal

-- up to here so much was done
abbrev pub invariant-loop : goal.invariant-loop
invariant-loop g l = IsServed (g.V.Service.does l.service) l.fn.state l.state
