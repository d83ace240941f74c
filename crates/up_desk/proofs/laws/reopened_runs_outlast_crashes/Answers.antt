use Rattle.up_desk.proofs.Again.{reopened_outlast}
use Rattle.up_desk.proofs.laws.reopened_runs_outlast_crashes.Goals as goal

pub returns : goal.returns
returns g c = reopened_outlast g.D.Disk
