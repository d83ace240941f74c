use Rattle.std.proofs.Common.{sym, ap, ◌∙◌}
use Rattle.std.specs.Prelude.{option_copied}
use Rattle.up_machine.proofs.AddedVehicles.{same_there, other_there}
use Rattle.up_machine.proofs.decide_vehicle.decide_named.Goals as goal

pub returns-then-same_vehicle-clause-decided : goal.returns-then-same_vehicle-clause-decided
returns-then-same_vehicle-clause-decided c = λ s old recorded. same_there s c.args.new.now (option_copied c.args.old) c.in-Some.rows.now _ old (ap option_copied c.in-Some.is) (sym c.same_vehicle.ensures ∙ c.if-same_vehicle.true)

pub returns-else-same_vehicle-clause-decided : goal.returns-else-same_vehicle-clause-decided
returns-else-same_vehicle-clause-decided c = λ s old recorded. other_there s c.args.new.now (option_copied c.args.old) c.in-Some.rows.now _ old (ap option_copied c.in-Some.is) (sym c.same_vehicle.ensures ∙ c.if-same_vehicle.false)
