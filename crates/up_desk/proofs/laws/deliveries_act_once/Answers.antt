use Rattle.up_desk.proofs.Again.{acts_once, crashes_act_once}
use Rattle.up_desk.proofs.laws.deliveries_act_once.Goals as goal

pub returns : goal.returns
returns g c = record {
  again = acts_once c.repeats_are_found.ensures.stale c.repeats_are_found.ensures.found c.repeats_change_nothing.ensures.served;
  crash = crashes_act_once g.D.Store c.repeats_are_found.ensures.stale c.repeats_are_found.ensures.found c.repeats_change_nothing.ensures.served
      c.repeats_change_nothing.ensures.sound;
}
