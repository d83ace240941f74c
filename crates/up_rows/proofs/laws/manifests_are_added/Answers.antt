use Rattle.up_rows.proofs.Vehicles.{manifests_added}
use Rattle.up_rows.proofs.laws.manifests_are_added.Goals as goal

pub returns : goal.returns
returns c = manifests_added
