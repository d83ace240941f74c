use Rattle.up_service.proofs.LastingRuns.{scripts_last}
use Rattle.up_service.proofs.laws.scripts_outlast_crashes.Goals as goal

pub returns : goal.returns
returns g c = scripts_last c.refusals_change_nothing.ensures.refused c.repeats_change_nothing.ensures.served g.K.Scheme.rules g.D.Store
