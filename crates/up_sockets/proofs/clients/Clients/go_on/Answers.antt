use Rattle.up_sockets.proofs.Joined.{served_then}
use Rattle.up_sockets.proofs.clients.Clients.go_on.Goals as goal

pub returns : goal.returns
returns g c = served_then (g.V.Service.does c.args.service.now) c.args.state.now c.answer_together.new.state c.answer_alone.new.state c.answer_together.ensures c.answer_alone.ensures
