use Rattle.up_sockets.specs.Served.{IsServed}
use Rattle.up_sockets.proofs.serving.serve.Given as goal

abbrev pub invariant-loop : goal.invariant-loop
invariant-loop g l = IsServed (g.V.Service.does l.service) l.fn.state l.state
