use Rattle.up_machine.proofs.Primaries.{deliveries_keep}
use Rattle.up_machine.proofs.laws.deliveries_keep_primaries.Goals as goal

pub returns : goal.returns
returns c = deliveries_keep
