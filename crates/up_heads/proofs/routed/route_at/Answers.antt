use Rattle.std.proofs.Common.{◌≡◌, IfOk, subst}
use Rattle.up_heads.proofs.RoutedLaws.{routed_text, routed_bytes}
use Rattle.up_heads.proofs.routed.route_at.Goals as goal

pub returns-in-Ok : goal.returns-in-Ok
returns-in-Ok c =
    subst (λ p. IfOk c.route_path.result (λ route. route ≡ p))
    (routed_text c.args.target.now c.in-Ok.text.now c.path_of.result.now c.args.verb c.args.stated c.in-Ok.ensures.cases.1 c.in-Ok.ensures.cases.0 c.path_of.ensures) c.route_path.ensures

pub returns-in-Err : goal.returns-in-Err
returns-in-Err c = routed_bytes c.args.target.now c.args.verb c.args.stated c.in-Err.ensures.cases.0
