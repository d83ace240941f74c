use Rattle.std.proofs.Common.{ap}
use Rattle.up_records.specs.Standing.{state}
use Rattle.up_shipped.proofs.Machines.{fresh_stands}
use Rattle.up_shipped.proofs.machine.fresh_desk.Goals as goal

pub returns : goal.returns
returns g c =
    let k = g.K.Scheme.rules c.args.scheme in
    fresh_stands g.K.Scheme.rules g.D.Store k (c.states_stay_sound.ensures.empty k) c.rows_tell_the_state.ensures.empty _ _ c.new-desk.result c.in-Ok.ensures.made
    (ap (λ desk. state g.D.Store desk.store) c.new-desk.ensures) (ap (λ desk. g.K.Scheme.rules desk.scheme) c.new-desk.ensures)
