use Rattle.up_rows.proofs.Vehicles.{campaigns_written}
use Rattle.up_rows.proofs.Fitting.{campaigns_new}
use Rattle.up_rows.proofs.laws.campaigns_are_written.Goals as goal

pub returns : goal.returns
returns c = record { campaigns = campaigns_written; new = campaigns_new }
