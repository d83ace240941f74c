use Rattle.up_desk.proofs.Again.{reopened_acts_once}
use Rattle.up_desk.proofs.laws.reopened_deliveries_act_once.Goals as goal

pub returns : goal.returns
returns g c = reopened_acts_once g.D.Disk c.repeats_are_found.ensures.stale c.repeats_are_found.ensures.found c.repeats_change_nothing.ensures.served c.repeats_change_nothing.ensures.sound
