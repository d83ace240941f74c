use Rattle.std.proofs.Common.{◌++◌, ap, ◌∙◌, map}
use Rattle.std.specs.Prelude.{codes}
use Rattle.up_canon.proofs.Joined.{begun, pushed, pushed_as}
use Rattle.up_canon.specs.Build.{list_with}
use Rattle.up_canon.specs.Canon.{json_string, text}
use Rattle.up_canon.specs.Moments.{moment_text}
use Rattle.up_roles.specs.Payload.{repository_text}
use Rattle.up_roles.specs.Targets.{target_value, targets_payload}
use Rattle.up_roles.proofs.Spelled.{end_text, targets_text}
use Rattle.up_roles.proofs.targets_text.targets_signed.Goals as goal

pub returns-clause-value : goal.returns-clause-value
unfolding targets_payload
returns-clause-value c =
    let f = c.args.file.now in
    begun _ _ _ c.in_ok-out.ensures.bytes (
    pushed _ _ _ (codes "{\"expires\":" ++ json_string (moment_text f.expires)) _ c.in_ok-push_expires.ensures.value (
    pushed _ _ _ (codes ",\"repository\":" ++ json_string (repository_text f.repository)) _ c.in_ok-push_repository.ensures (
    pushed _ _ _ (codes ",\"targets\":") _ c.in_ok-push_str.ensures.bytes (
    pushed _ _ _ (text (list_with (map target_value f.targets))) _ (pushed_as _ _ _ _ (ap (λ ts. text (list_with (map target_value ts))) c.as_slice-targets.ensures) c.in_ok-push_targets.ensures.value) (
    pushed _ _ _ (codes ",\"type\":\"targets\"") (end_text f.vehicle f.version) c.in_ok-push_str-2.ensures.bytes c.in_ok-push_end.ensures.value
    )
    )
    )
    )
    )
    ∙ targets_text f.repository f.version f.expires f.vehicle f.targets
