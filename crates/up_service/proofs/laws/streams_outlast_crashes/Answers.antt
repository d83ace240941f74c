use Rattle.up_service.proofs.LastingRuns.{requests_last}
use Rattle.up_service.proofs.laws.streams_outlast_crashes.Goals as goal

pub returns : goal.returns
returns g c = requests_last c.refusals_change_nothing.ensures.refused g.K.Scheme.rules g.D.Store
