use Rattle.up_http.specs.declared.asked.Next.{Next}
use Rattle.up_service.proofs.Reopening.{reopened_last}
use Rattle.up_service.proofs.laws.reopened_streams_outlast_crashes.Goals as goal

pub returns : goal.returns
returns g c = reopened_last Next g.D.Disk
