use Rattle.up_desk.proofs.Runs.{ListLaws}
use Rattle.up_shipped.proofs.Shipped.{streams}
use Rattle.up_shipped.proofs.laws.streams_are_runs.Goals as goal

pub returns : goal.returns
returns g c =
    let laws : ListLaws = record {
      served = c.repeats_change_nothing.ensures.served;
      repeats = c.repeats_change_nothing.ensures.thinned;
      replies = c.kept_replies_stay.ensures.run;
      apart = c.vehicles_stand_apart.ensures.apart;
      exchanged = c.vehicles_stand_apart.ensures.exchanged;
    } in
    streams laws g.K.Scheme.rules g.D.Store
