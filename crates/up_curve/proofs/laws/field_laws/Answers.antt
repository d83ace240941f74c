use Rattle.std.proofs.Common.{refl}
use Rattle.up_curve.specs.Laws.{AreConstants}
use Rattle.up_curve.proofs.Curve.{inverts, base_point}
use Rattle.up_curve.proofs.Prime.{pow_mod, prime_number}
use Rattle.up_curve.proofs.laws.field_laws.Goals as goal

constants : AreConstants
unfolding pow_mod
constants = record { d_is = refl; root_is = refl; root_squared = refl; base_y = refl; base_x = refl; base_point = base_point }

pub returns-clause-prime : goal.returns-clause-prime
returns-clause-prime c = prime_number

pub returns-clause-inverses : goal.returns-clause-inverses
returns-clause-inverses c = inverts

pub returns-clause-constants : goal.returns-clause-constants
returns-clause-constants c = constants
