use Rattle.up_machine.proofs.Retired as retired
use Rattle.up_machine.proofs.laws.retired_stay_retired.Goals as goal

pub returns : goal.returns
returns c = record { stay = retired.stay; apart = retired.apart; never = retired.never c.body_laws.ensures.read c.body_laws.ensures.signed }
