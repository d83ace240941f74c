use Rattle.up_sockets.proofs.Joined.{served_once}
use Rattle.up_sockets.proofs.groups.answer_one.Goals as goal

pub returns-in-Ok : goal.returns-in-Ok
returns-in-Ok g c = let told = c.in-Ok.ensures.ok in served_once (g.V.Service.does c.args.service.now) _ _ _ told.1.4

pub returns-in-Err : goal.returns-in-Err
returns-in-Err g c = let untold = c.in-Err.ensures.err.0 in served_once (g.V.Service.does c.args.service.now) _ _ _ untold.3
