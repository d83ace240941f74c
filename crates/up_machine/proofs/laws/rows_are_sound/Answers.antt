use Rattle.up_machine.proofs.SoundRows.{founding_fits_in, vehicle_fits}
use Rattle.up_machine.proofs.laws.rows_are_sound.Goals as goal

pub returns-clause-founding : goal.returns-clause-founding
returns-clause-founding c = founding_fits_in

pub returns-clause-vehicles : goal.returns-clause-vehicles
returns-clause-vehicles c = vehicle_fits
