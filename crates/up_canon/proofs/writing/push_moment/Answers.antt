use Rattle.std.proofs.Common.{arith}
use Rattle.std.proofs.lemmas.Grind.{common_steps}
use Rattle.up_canon.proofs.Written.{moment_quoted}
use Rattle.up_canon.proofs.writing.push_moment.Goals as goal

pub returns-clause-value : goal.returns-clause-value
returns-clause-value c = let shown = moment_quoted _ c.get.result c.get.ensures.limit c.shown_at-shown.ensures in grind (arith, common_steps, shown)
