use Rattle.up_offline.proofs.Holding as holding
use Rattle.up_offline.proofs.laws.secrets_are_of_the_last_root.Goals as goal

pub returns : goal.returns
returns c = holding.secrets
