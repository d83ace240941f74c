use Rattle.std.proofs.Common.{◌≡◌, take}
use Rattle.std.specs.Prelude.{option_copied}
use Rattle.up_plan.specs.Offers.{greatest_offer}
use Rattle.up_plan.proofs.offers.greatest_for.Given as goal

abbrev pub invariant-loop-offer : goal.invariant-loop-offer
invariant-loop-offer l = option_copied l.best ≡ greatest_offer (take l.offer-index l.offers) l.hardware
