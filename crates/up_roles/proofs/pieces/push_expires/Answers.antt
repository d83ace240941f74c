use Rattle.std.specs.Prelude.{codes}
use Rattle.up_canon.proofs.Joined.{pushed}
use Rattle.up_canon.specs.Canon.{json_string}
use Rattle.up_canon.specs.Moments.{moment_text}
use Rattle.up_roles.proofs.pieces.push_expires.Goals as goal

pub returns-clause-value : goal.returns-clause-value
returns-clause-value c = pushed _ _ _ (codes "{\"expires\":") (json_string (moment_text c.args.expires)) c.in_ok-push_str.ensures.bytes c.in_ok-push_moment.ensures.value
