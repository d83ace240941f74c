use Rattle.std.proofs.Common.{Err, ap, map, refl, ◌∙◌}
use Rattle.std.proofs.lemmas.List.{take_all}
use Rattle.std.specs.FinMap as table
use Rattle.up_records.proofs.Sessions.{all_on, as_on, lost_on, refused_on, then_on}
use Rattle.up_desk.proofs.Loops.{pushed_more}
use Rattle.up_desk.proofs.campaigns.known_vehicles.Goals as goal

pub loop-name-preserved : goal.loop-name-preserved
loop-name-preserved g c inside =
    let G = g.D.Store in
    as_on G (then_on G (c.loop-name.invariant inside) c.in-Ok.ensures)
    (λ k of s found. pushed_more (table.contains_key s.vehicles) c.names_in-names.result.now c.loop-name.name-index _ c.loop-name.known.items c.push.new.self.items c.in-Ok.is_known
    c.loop-name-test.true c.name-item.is c.in_ok-push-in-Ok.ensures.items found.1 found.0)

pub returns : goal.returns
returns g c inside =
    all_on g.D.Store (c.loop-name.invariant inside) _ _
    (λ k of s so_far. so_far ∙ ap (map (table.contains_key s.vehicles)) (take_all c.loop-name.name-index c.names_in-names.result.now c.loop-name-test.false ∙ c.names_in-names.ensures))

pub returns-in_err-push-in-Ok : goal.returns-in_err-push-in-Ok
returns-in_err-push-in-Ok g c inside =
    let G = g.D.Store in
    refused_on G (then_on G (c.loop-name.invariant inside) c.in-Ok.ensures) _ c.from_residual-in_err-push-in-Ok.result c.from_residual-in_err-push-in-Ok.ensures.1

pub returns-in-Err : goal.returns-in-Err
returns-in-Err g c inside = lost_on g.D.Store (c.loop-name.invariant inside) _ (Err c.in-Err.fault) refl c.in-Err.ensures
