use Rattle.std.proofs.Common.{arith}
use Rattle.std.proofs.lemmas.Grind.{common_steps}
use Rattle.up_lines.proofs.Cuts.{begins_inside}
use Rattle.up_lines.proofs.part.behind_empty.Goals as goal

pub returns-else-is_empty : goal.returns-else-is_empty
returns-else-is_empty c = λ empty room more begins.
    begins_inside c.in-Some.line.now c.in-Some.behind.now c.args.piece.now more (grind (arith, common_steps, c.is_empty-in-Some.ensures, c.if-is_empty.false)) c.in-Some.ensures.0 c.in-Some.ensures.1 begins
