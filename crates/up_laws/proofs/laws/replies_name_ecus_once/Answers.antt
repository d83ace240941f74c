use Rattle.up_laws.proofs.OwnPlans.{replies_name_once}
use Rattle.up_laws.proofs.laws.replies_name_ecus_once.Goals as goal

pub returns : goal.returns
returns c = replies_name_once
