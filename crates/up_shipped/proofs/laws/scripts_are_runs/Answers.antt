use Rattle.up_desk.proofs.Runs.{ListLaws}
use Rattle.up_shipped.proofs.Shipped.{scripts}
use Rattle.up_shipped.proofs.laws.scripts_are_runs.Goals as goal

pub returns : goal.returns
returns g c =
    let laws : ListLaws = record {
      served = c.repeats_change_nothing.ensures.served;
      repeats = c.repeats_change_nothing.ensures.thinned;
      replies = c.kept_replies_stay.ensures.run;
      apart = c.vehicles_stand_apart.ensures.apart;
      exchanged = c.vehicles_stand_apart.ensures.exchanged;
    } in
    scripts laws g.K.Scheme.rules g.D.Store
