use Rattle.std.proofs.Common.{arith}
use Rattle.std.proofs.lemmas.Grind.{common_steps}
use Rattle.up_canon.proofs.Written.{quoted_hex}
use Rattle.up_canon.proofs.writing.push_hex.Goals as goal

pub returns : goal.returns
returns c = rw (quoted_hex c.args.bytes.now) (grind (arith, common_steps))
