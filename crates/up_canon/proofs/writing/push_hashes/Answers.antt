use Rattle.std.proofs.Common.{arith}
use Rattle.std.proofs.lemmas.Grind.{common_steps}
use Rattle.up_canon.proofs.Written.{hashes_text}
use Rattle.up_canon.proofs.writing.push_hashes.Goals as goal

pub returns-clause-value : goal.returns-clause-value
returns-clause-value c = let all = hashes_text c.args.sha256.now c.args.sha512.now in grind (arith, common_steps, all)
