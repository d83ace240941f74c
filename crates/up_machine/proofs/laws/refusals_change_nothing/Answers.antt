use Rattle.up_machine.proofs.Refusing as refusing
use Rattle.up_machine.proofs.laws.refusals_change_nothing.Goals as goal

pub returns : goal.returns
returns c = record { refused = refusing.refused_unchanged; already = refusing.already_unchanged }
