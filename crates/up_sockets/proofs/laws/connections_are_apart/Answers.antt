use Rattle.up_sockets.proofs.Apart.{apart}
use Rattle.up_sockets.proofs.laws.connections_are_apart.Goals as goal

pub returns : goal.returns
returns g c = λ service at s now xs new happen. apart (g.V.Service.does service) (g.V.Service.tells service) at c.conversations_keep_order.ensures s now xs new happen
