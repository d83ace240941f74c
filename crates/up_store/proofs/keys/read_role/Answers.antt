use Rattle.std.proofs.Common.{arith}
use Rattle.up_store.proofs.keys.read_role.Goals as goal

pub returns-in_err-read_threshold-clause-fault : goal.returns-in_err-read_threshold-clause-fault
returns-in_err-read_threshold-clause-fault c = λ keys is valid. absurd (omega (arith, c.in_err-read_threshold.ensures.fault.1, is.threshold, valid))
