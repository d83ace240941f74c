use Rattle.up_sockets.proofs.Joined.{served_once}
use Rattle.up_sockets.proofs.script.Script.take.Goals as goal

pub returns-in-Ok : goal.returns-in-Ok
returns-in-Ok g c = served_once (g.V.Service.does c.args.service.now) _ _ _ c.take.ensures.done

pub returns-in-Err : goal.returns-in-Err
returns-in-Err g c = served_once (g.V.Service.does c.args.service.now) _ _ _ c.take.ensures.done
