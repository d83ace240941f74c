use Rattle.up_curve.proofs.Extended.{sum_represents}
use Rattle.up_curve.proofs.sums.sums_are_written.Goals as goal

pub returns : goal.returns
returns c = sum_represents
