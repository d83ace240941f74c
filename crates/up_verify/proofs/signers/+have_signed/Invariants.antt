use Rattle.std.proofs.Common.{length}
use Rattle.up_verify.proofs.signers.+have_signed.Given as goal

abbrev pub decreases-have_signed : goal.decreases-have_signed
decreases-have_signed g l = length l.keys.now
