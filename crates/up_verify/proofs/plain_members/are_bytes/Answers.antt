use Rattle.std.proofs.Common.{arith}
use Rattle.up_canon.proofs.ByteTests.{bytes_tested}
use Rattle.up_verify.proofs.plain_members.are_bytes.Goals as goal

pub returns : goal.returns
returns c = bytes_tested c.args.hash.now (λ i. omega (arith, c.type_inv.hash i))
