use Rattle.up_records.specs.Standing.{state}
use Rattle.up_desk.proofs.Runs.{last_stays}
use Rattle.up_desk.proofs.laws.last_commits_stand.Goals as goal

pub returns : goal.returns
returns g c = λ k cs answers old new stays. last_stays k (state g.D.Store old) (state g.D.Store new) cs answers stays
