use Rattle.up_shipped.proofs.Starts.{starts_script}
use Rattle.up_shipped.proofs.taken.script_taken.Goals as goal

pub returns : goal.returns
returns g c =
    starts_script g.K.Scheme.rules g.D.Store c.scripts_are_runs.ensures c.taken_tables_show.ensures c.args.scheme c.args.conn _ _ _ _ _ _ _ _ c.new-desk.ensures _ c.method.ensures c.in-Ok.ensures.taken c.run_script-ended.ensures.runs
