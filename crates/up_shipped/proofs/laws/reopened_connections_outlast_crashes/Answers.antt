use Rattle.up_shipped.proofs.Connections.{reopened_all}
use Rattle.up_shipped.proofs.laws.reopened_connections_outlast_crashes.Goals as goal

pub returns : goal.returns
returns g c = reopened_all g.D.Disk
