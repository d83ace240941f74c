use Rattle.up_sockets.specs.Served.{IsServed}
use Rattle.up_sockets.proofs.operators.answer_turn.Given as goal

-- up to here so much was done
abbrev pub invariant-loop-operator : goal.invariant-loop-operator
invariant-loop-operator g l = IsServed (g.V.Service.does l.service) l.fn.state l.state
