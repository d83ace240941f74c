use Rattle.std.proofs.Common.{Err, ap, map, refl, ◌∙◌}
use Rattle.std.proofs.lemmas.List.{take_all}
use Rattle.up_machine.specs.declared.vehicle.NewEcu.{NewEcu}
use Rattle.up_machine.specs.State.{is_taken}
use Rattle.up_records.proofs.Sessions.{all_on, as_on, lost_on, refused_on, then_on}
use Rattle.up_desk.proofs.Loops.{pushed_more}
use Rattle.up_desk.proofs.inventory.taken_marks.Goals as goal

pub loop-ecu-preserved : goal.loop-ecu-preserved
loop-ecu-preserved g c inside =
    let G = g.D.Store in
    as_on G (then_on G (c.loop-ecu.invariant inside) c.in-Ok.ensures)
    (λ k of s found. pushed_more (λ (e : NewEcu). is_taken s e.ecu) c.args.ecus.now c.loop-ecu.ecu-index _ c.loop-ecu.marks.items c.push.new.self.items c.in-Ok.is_taken
    c.loop-ecu-test.true c.ecu-item.is c.in_ok-push-in-Ok.ensures.items found.1 found.0)

pub returns : goal.returns
returns g c inside =
    all_on g.D.Store (c.loop-ecu.invariant inside) _ _
    (λ k of s so_far. so_far ∙ ap (map (λ (e : NewEcu). is_taken s e.ecu)) (take_all c.loop-ecu.ecu-index c.args.ecus.now c.loop-ecu-test.false))

pub returns-in_err-push-in-Ok : goal.returns-in_err-push-in-Ok
returns-in_err-push-in-Ok g c inside =
    let G = g.D.Store in
    refused_on G (then_on G (c.loop-ecu.invariant inside) c.in-Ok.ensures) _ c.from_residual-in_err-push-in-Ok.result c.from_residual-in_err-push-in-Ok.ensures.1

pub returns-in-Err : goal.returns-in-Err
returns-in-Err g c inside = lost_on g.D.Store (c.loop-ecu.invariant inside) _ (Err c.in-Err.fault) refl c.in-Err.ensures
