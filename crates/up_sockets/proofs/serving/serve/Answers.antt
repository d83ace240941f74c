use Rattle.up_sockets.proofs.Joined.{served_then}
use Rattle.up_sockets.proofs.serving.serve.Goals as goal

pub returns-in_err-go_on : goal.returns-in_err-go_on
returns-in_err-go_on g c = served_then (g.V.Service.does c.args.service.now) c.args.state.now c.loop.state c.go_on.new.state c.loop.invariant c.go_on.ensures

pub loop-preserved : goal.loop-preserved
loop-preserved g c = served_then (g.V.Service.does c.args.service.now) c.args.state.now c.loop.state c.go_on.new.state c.loop.invariant c.go_on.ensures
