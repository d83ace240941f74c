use Rattle.std.proofs.Common.{ℕ, List}
use Rattle.up_service.proofs.Reopening.{reopened_last}
use Rattle.up_service.proofs.laws.reopened_scripts_outlast_crashes.Goals as goal

pub returns : goal.returns
returns g c = reopened_last (List ℕ) g.D.Disk
