use Rattle.up_script.proofs.PlainLines.{nothing_in}
use Rattle.up_script.proofs.asked.asked_by.Goals as goal

pub returns-in_default-clause-value : goal.returns-in_default-clause-value
returns-in_default-clause-value g c = nothing_in (g.K.Scheme.rules c.args.scheme.now) c.args.line.now c.in_default.ensures.cases.0
