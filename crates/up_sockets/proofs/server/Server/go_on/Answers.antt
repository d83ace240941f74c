use Rattle.up_sockets.proofs.Joined.{served_then}
use Rattle.up_sockets.proofs.server.Server.go_on.Goals as goal

pub returns : goal.returns
returns g c = served_then (g.V.Service.does c.args.service.now) c.args.state.now c.go_on.new.state c.go_on-2.new.state c.go_on.ensures c.go_on-2.ensures
