use Rattle.up_rows.proofs.Repositories.{roots_added}
use Rattle.up_rows.proofs.laws.roots_are_added.Goals as goal

pub returns : goal.returns
returns c = roots_added
