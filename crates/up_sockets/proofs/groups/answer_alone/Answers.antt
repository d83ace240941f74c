use Rattle.up_sockets.proofs.Joined.{served_then}
use Rattle.up_sockets.proofs.groups.answer_alone.Goals as goal

pub loop-client-preserved : goal.loop-client-preserved
loop-client-preserved g c = served_then (g.V.Service.does c.args.service.now) c.args.state.now c.loop-client.state c.answer_one.new.state c.loop-client.invariant c.answer_one.ensures
