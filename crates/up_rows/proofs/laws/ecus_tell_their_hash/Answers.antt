use Rattle.up_rows.proofs.SecondHashes.{ecus_tell}
use Rattle.up_rows.proofs.laws.ecus_tell_their_hash.Goals as goal

pub returns : goal.returns
returns c = ecus_tell c.body_laws.ensures.reports
