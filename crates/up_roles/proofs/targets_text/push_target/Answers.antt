use Rattle.std.proofs.Common.{◌++◌, ap, ◌∙◌, map}
use Rattle.std.specs.Prelude.{codes, decimal}
use Rattle.serde_json.specs.Data.{string}
use Rattle.up_canon.proofs.Joined.{pushed, pushed_as}
use Rattle.up_canon.specs.Build.{list_with, hashes_value}
use Rattle.up_canon.specs.Canon.{json_string, text}
use Rattle.up_roles.proofs.Spelled.{ecu_text, target_text}
use Rattle.up_roles.proofs.targets_text.push_target.Goals as goal

pub returns-clause-value : goal.returns-clause-value
returns-clause-value c =
    let t = c.args.target.now in
    pushed_as _ _ _ _ (target_text t) (
    pushed _ _ _ (codes "{" ++ ecu_text t.ecu) _ c.in_ok-push_ecu.ensures.value (
    pushed _ _ _ (codes "\"file\":") _ c.in_ok-push_str.ensures.bytes (
    pushed _ _ _ (json_string t.file) _ c.in_ok-push_file_name.ensures (
    pushed _ _ _ (codes ",\"hardware\":") _ c.in_ok-push_str-2.ensures.bytes (
    pushed _ _ _ (text (list_with (map string t.hardware))) _ (pushed_as _ _ _ _ (ap (λ names. text (list_with (map string names))) c.as_slice.ensures) c.in_ok-push_names.ensures.value) (
    pushed _ _ _ (codes ",\"hashes\":") _ c.in_ok-push_str-3.ensures.bytes (
    pushed _ _ _ (text (hashes_value t.sha256 t.sha512)) _ c.in_ok-push_hashes.ensures.value (
    pushed _ _ _ (codes ",\"length\":") _ c.in_ok-push_str-4.ensures.bytes (
    pushed _ _ _ (decimal t.length) _ (pushed_as _ _ _ _ (ap decimal c.get.ensures.value) c.in_ok-push_number.ensures) (
    pushed _ _ _ (codes ",\"release\":") _ c.in_ok-push_str-5.ensures.bytes (
    pushed _ _ _ (decimal t.release) (codes "}") (pushed_as _ _ _ _ (ap decimal c.get-2.ensures.value) c.in_ok-push_number-2.ensures) c.in_ok-push_str-6.ensures.bytes
    )
    )
    )
    )
    )
    )
    )
    )
    )
    )
    )
