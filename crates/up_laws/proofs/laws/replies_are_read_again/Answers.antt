use Rattle.up_laws.proofs.ReadAgain.{read_again}
use Rattle.up_laws.proofs.laws.replies_are_read_again.Goals as goal

pub returns : goal.returns
returns c = read_again c.moment_laws.ensures.plain c.envelope_laws.ensures.limits c.role_laws.ensures.targets c.role_laws.ensures.snapshot c.role_laws.ensures.timestamp
