use Rattle.up_tables.proofs.ShutOutLemmas.{shut_out_put}
use Rattle.up_tables.proofs.StoredLemmas.{inserted}
use Rattle.up_tables.proofs.retired_vehicle.insert_retired_vehicle.Goals as goal

pub returns : goal.returns
returns g c = inserted g.S.Store _ _ 1 _ _ 11 1 _ _ c.write.result (shut_out_put c.args.vehicle.now) (rw c.words.ensures at c.write.ensures)
