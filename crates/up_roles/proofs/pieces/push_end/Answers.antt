use Rattle.std.specs.Prelude.{codes, decimal}
use Rattle.up_canon.proofs.Joined.{pushed}
use Rattle.up_roles.proofs.Spelled.{vehicle_text}
use Rattle.up_roles.proofs.pieces.push_end.Goals as goal

pub returns-clause-value : goal.returns-clause-value
returns-clause-value c =
    pushed _ _ _ (vehicle_text c.args.vehicle.now) _ c.in_ok-push_vehicle.ensures.value (
    pushed _ _ _ (codes ",\"version\":") _ c.in_ok-push_str.ensures.bytes (
    pushed _ _ _ (decimal c.args.version) (codes "}") c.in_ok-push_number.ensures c.in_ok-push_str-2.ensures.bytes
    )
    )
