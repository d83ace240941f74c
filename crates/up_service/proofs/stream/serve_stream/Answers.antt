use Rattle.up_service.proofs.LastingRuns.{runs_stream}
use Rattle.up_service.proofs.Telling.{next_told}
use Rattle.up_service.proofs.Weaker.{runs_requests}
use Rattle.up_service.proofs.stream.serve_stream.Goals as goal

pub returns-clause-runs : goal.returns-clause-runs
returns-clause-runs g c =
    runs_stream g.K.Scheme.rules g.D.Store c.args.at c.streams_outlast_crashes.ensures _ _ _ _ c.serve.result
    (runs_requests _ _ (next_told g.K.Scheme.rules g.D.Store c.args.at) _ _ _ _ c.serve.result c.serve.ensures.requests)
