use Rattle.up_sockets.proofs.Joined.{served_then}
use Rattle.up_sockets.proofs.Told.{group_served}
use Rattle.up_sockets.proofs.groups.answer_together.Goals as goal

pub returns-then-not-answer_group : goal.returns-then-not-answer_group
returns-then-not-answer_group g c =
    served_then (g.V.Service.does c.args.service.now) c.args.state.now c.loop.state c.answer_group.new.state c.loop.invariant (group_served _ _ _ _ _ _ _ c.answer_group.ensures)

pub loop-preserved : goal.loop-preserved
loop-preserved g c =
    served_then (g.V.Service.does c.args.service.now) c.args.state.now c.loop.state c.answer_group.new.state c.loop.invariant (group_served _ _ _ _ _ _ _ c.answer_group.ensures)
