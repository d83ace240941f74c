use Rattle.up_rows.proofs.Vehicles.{vehicles_added}
use Rattle.up_rows.proofs.Fitting.{vehicles_new}
use Rattle.up_rows.proofs.laws.vehicles_are_added.Goals as goal

pub returns : goal.returns
returns c = record { vehicles = vehicles_added; new = vehicles_new }
