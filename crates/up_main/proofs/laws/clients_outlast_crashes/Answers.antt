use Rattle.up_main.proofs.Clients.{clients_last}
use Rattle.up_main.proofs.laws.clients_outlast_crashes.Goals as goal

pub returns : goal.returns
returns g c =
    clients_last c.refusals_change_nothing.ensures.refused c.repeats_change_nothing.ensures.served g.K.Scheme.rules g.D.Store c.scripts_outlast_crashes.ensures
