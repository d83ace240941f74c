use Rattle.std.proofs.Common.{◌++◌, ◌∙◌}
use Rattle.std.specs.Prelude.{codes}
use Rattle.up_canon.proofs.Joined.{begun, pushed}
use Rattle.up_canon.specs.Canon.{json_string, text}
use Rattle.up_canon.specs.Moments.{moment_text}
use Rattle.up_roles.specs.Payload.{repository_text}
use Rattle.up_roles.specs.Timestamp.{timestamp_meta, timestamp_payload}
use Rattle.up_roles.proofs.Spelled.{end_text, listing_text}
use Rattle.up_roles.proofs.timestamp.timestamp_signed.Goals as goal

pub returns-clause-value : goal.returns-clause-value
unfolding timestamp_payload
returns-clause-value c =
    let f = c.args.file.now in
    begun _ _ _ c.in_ok-out.ensures.bytes (
    pushed _ _ _ (codes "{\"expires\":" ++ json_string (moment_text f.expires)) _ c.in_ok-push_expires.ensures.value (
    pushed _ _ _ (codes ",\"meta\":" ++ text (timestamp_meta f)) _ c.in_ok-push_meta.ensures.value (
    pushed _ _ _ (codes ",\"repository\":" ++ json_string (repository_text f.repository)) _ c.in_ok-push_repository.ensures (
    pushed _ _ _ (codes ",\"type\":\"timestamp\"") (end_text f.vehicle f.version) c.in_ok-push_str.ensures.bytes c.in_ok-push_end.ensures.value
    )
    )
    )
    )
    ∙ listing_text (codes "timestamp") f.repository f.version f.expires f.vehicle (timestamp_meta f)
