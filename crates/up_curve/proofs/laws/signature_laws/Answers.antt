use Rattle.up_curve.proofs.Signatures.{sized, valid_when_signed}
use Rattle.up_curve.proofs.Order.{public_is}
use Rattle.up_curve.proofs.laws.signature_laws.Goals as goal

pub returns-clause-sizes : goal.returns-clause-sizes
returns-clause-sizes c = sized

pub returns-clause-keys : goal.returns-clause-keys
returns-clause-keys c = public_is

pub returns-clause-valid : goal.returns-clause-valid
returns-clause-valid c = valid_when_signed
