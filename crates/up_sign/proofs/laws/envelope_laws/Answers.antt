use Rattle.up_sign.proofs.Faults.{values_mean_one_or_fail}
use Rattle.up_sign.proofs.Limits.{meant_fits}
use Rattle.up_sign.proofs.Texts.{texts_are_read}
use Rattle.up_sign.proofs.Accepted.{sealed_is_within, sealed_is_accepted}
use Rattle.up_sign.proofs.laws.envelope_laws.Goals as goal

pub returns-clause-meaning : goal.returns-clause-meaning
returns-clause-meaning c = values_mean_one_or_fail

pub returns-clause-fits : goal.returns-clause-fits
returns-clause-fits c = meant_fits

pub returns-clause-text : goal.returns-clause-text
returns-clause-text c = texts_are_read c.canonical_laws.ensures.deeper

pub returns-clause-limits : goal.returns-clause-limits
returns-clause-limits c = sealed_is_within

pub returns-clause-accepted : goal.returns-clause-accepted
returns-clause-accepted c = sealed_is_accepted
