use Rattle.up_desk.proofs.Carrying.{finished}
use Rattle.up_desk.proofs.dispatch.run.Goals as goal

pub returns : goal.returns
returns g c =
    finished g.D.Store (g.K.Scheme.rules c.args.scheme.now) _ _ _ _ c.finish.new.tx.0 c.args.catalog.now c.carry-carried.new.catalog _ c.store.view_is c.transaction-tx.ensures.begun c.carry-carried.result c.carry-carried.ensures c.finish.ensures.ends
    (λ is_open trees left. g.met.D.Store.settled c.finish.new.tx.0.store trees is_open left)
