use Rattle.up_lines.proofs.Cuts.{newline_ends}
use Rattle.up_lines.proofs.cut.has_line.Goals as goal

pub returns-in-Some : goal.returns-in-Some
returns-in-Some c = newline_ends _ _ c.args.bytes.now c.in-Some.ensures.1
