use Rattle.up_service.proofs.LastingRuns.{runs_script}
use Rattle.up_service.proofs.Telling.{lines_told}
use Rattle.up_service.proofs.Weaker.{runs_lines}
use Rattle.up_service.proofs.script.run_script.Goals as goal

pub returns-clause-runs : goal.returns-clause-runs
returns-clause-runs g c =
    runs_script g.K.Scheme.rules g.D.Store c.scripts_outlast_crashes.ensures _ _ _ _ c.run.result
    (runs_lines _ _ (lines_told g.K.Scheme.rules g.D.Store c.vehicles_stand_apart.ensures.installed) _ _ _ _ c.run.result c.run.ensures.lines)
