use Rattle.up_tables.proofs.StoredLemmas.{inserted}
use Rattle.up_tables.proofs.VehicleLemmas.{vehicle_put}
use Rattle.up_tables.proofs.vehicle.insert_vehicle.Goals as goal

pub returns : goal.returns
returns g c =
    inserted g.S.Store _ _ 1 _ _ 5 4 _ _ c.write.result (vehicle_put c.args.vehicle.now) (rw (c.words.ensures, c.words-2.ensures, c.number.ensures, c.number-2.ensures) at c.write.ensures)
