use Rattle.up_machine.proofs.Keeping as keeping
use Rattle.up_machine.proofs.laws.kept_replies_stay.Goals as goal

pub returns : goal.returns
returns c = record { later = keeping.kept; run = keeping.kept_on }
