use Rattle.up_sockets.proofs.Told.{Sofar}
use Rattle.up_sockets.proofs.groups.Group.tell.Given as goal

-- those up to here may be told, the others are as they were
abbrev pub invariant-loop-client : goal.invariant-loop-client
invariant-loop-client g l = Sofar (g.V.Service.tells l.service) l.self.commands.items l.answers l.fn.clients l.clients l.client-index
