use Rattle.up_shipped.proofs.Starts.{starts_stream}
use Rattle.up_shipped.proofs.taken.stream_taken.Goals as goal

pub returns : goal.returns
returns g c =
    starts_stream g.K.Scheme.rules g.D.Store c.streams_are_runs.ensures c.taken_tables_show.ensures _ c.args.scheme c.args.conn _ _ _ _ _ _ _ _ c.new-desk.ensures _ c.method.ensures c.in-Ok.ensures.taken c.serve_stream-served.ensures.runs
