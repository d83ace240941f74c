use Rattle.up_machine.proofs.Making as making
use Rattle.up_machine.proofs.laws.runs_make_files.Goals as goal

pub returns : goal.returns
returns c = record { empty = making.empty_made; step = making.make; run = making.make_on c.body_laws.ensures.read c.body_laws.ensures.signed }
