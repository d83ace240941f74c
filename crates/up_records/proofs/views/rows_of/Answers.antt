use Rattle.up_records.proofs.Viewing.{dropped_finds}
use Rattle.up_records.proofs.views.rows_of.Goals as goal

pub returns : goal.returns
returns g c = dropped_finds g.D.Store _ _ c.drop-tx.new.self.0 _ c.store.view_is c.transaction-tx.ensures.begun c.drop-tx.ensures.undone c.drop-tx.ensures.survives c.read_vehicle.result c.read_vehicle.ensures
