use Rattle.up_sockets.proofs.Joined.{served_then}
use Rattle.up_sockets.proofs.operators.answer_turn.Goals as goal

pub loop-operator-preserved : goal.loop-operator-preserved
loop-operator-preserved g c =
    served_then (g.V.Service.does c.args.service.now) c.args.state.now c.loop-operator.state c.take_turn.new.state c.loop-operator.invariant c.take_turn.ensures
