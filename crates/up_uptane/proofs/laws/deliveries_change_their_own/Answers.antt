use Rattle.up_uptane.proofs.Deliveries.{own, kept}
use Rattle.up_uptane.proofs.laws.deliveries_change_their_own.Goals as goal

pub returns : goal.returns
returns c = record { own = own; kept = kept }
