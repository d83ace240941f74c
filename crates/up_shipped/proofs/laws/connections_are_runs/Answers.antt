use Rattle.up_desk.proofs.Runs.{ListLaws}
use Rattle.up_shipped.proofs.Connections.{connections}
use Rattle.up_shipped.proofs.laws.connections_are_runs.Goals as goal

pub returns : goal.returns
returns g c =
    let laws : ListLaws = record {
      served = c.repeats_change_nothing.ensures.served;
      repeats = c.repeats_change_nothing.ensures.thinned;
      replies = c.kept_replies_stay.ensures.run;
      apart = c.vehicles_stand_apart.ensures.apart;
      exchanged = c.vehicles_stand_apart.ensures.exchanged;
    } in
    connections laws c.refusals_change_nothing.ensures.refused c.conversations_keep_order.ensures g.K.Scheme.rules g.D.Store c.scripts_outlast_crashes.ensures
    c.clients_outlast_crashes.ensures
