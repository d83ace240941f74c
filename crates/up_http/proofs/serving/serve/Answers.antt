use Rattle.up_http.proofs.ServeLaws.{runs_requests}
use Rattle.up_http.proofs.serving.serve.Goals as goal

pub returns-in-Ok-clause-requests : goal.returns-in-Ok-clause-requests
returns-in-Ok-clause-requests g c = runs_requests (g.A.Respond.gives c.args.responder.now) _ _ _ _ _ c.in-Ok.ensures.ran

pub returns-clause-requests : goal.returns-clause-requests
returns-clause-requests g c = runs_requests (g.A.Respond.gives c.args.responder.now) _ _ _ _ _ c.in-Err.ensures.ran
