use Rattle.up_lines.proofs.Known.{runs_lines}
use Rattle.up_lines.proofs.lines.run.Goals as goal

pub returns-in-Ok-clause-lines : goal.returns-in-Ok-clause-lines
returns-in-Ok-clause-lines g c = runs_lines g.I.Interpret.gives _ _ _ _ _ c.in-Ok.ensures.ran

pub returns-clause-lines : goal.returns-clause-lines
returns-clause-lines g c = runs_lines g.I.Interpret.gives _ _ _ _ _ c.in-Err.ensures.ran
