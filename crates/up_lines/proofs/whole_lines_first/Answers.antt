use Rattle.up_lines.proofs.Later.{whole_first}
use Rattle.up_lines.proofs.whole_lines_first.Goals as goal

pub returns : goal.returns
returns c = whole_first
