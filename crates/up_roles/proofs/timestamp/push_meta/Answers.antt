use Rattle.std.proofs.Common.{None}
use Rattle.std.specs.Prelude.{codes, decimal}
use Rattle.up_canon.proofs.Joined.{pushed, pushed_as}
use Rattle.up_canon.specs.Build.{hashes_value}
use Rattle.up_canon.specs.Canon.{text}
use Rattle.up_roles.proofs.Spelled.{timestamp_meta_text}
use Rattle.up_roles.proofs.timestamp.push_meta.Goals as goal

pub returns-clause-value : goal.returns-clause-value
returns-clause-value c =
    let f = c.args.file.now in
    pushed_as _ _ _ _ (timestamp_meta_text f) (
    pushed _ _ _ (codes ",\"meta\":{\"snapshot.json\":{\"hashes\":") _ c.in_ok-push_str.ensures.bytes (
    pushed _ _ _ (text (hashes_value f.snapshot_sha256 None)) _ c.in_ok-push_hashes.ensures.value (
    pushed _ _ _ (codes ",\"version\":") _ c.in_ok-push_str-2.ensures.bytes (
    pushed _ _ _ (decimal f.snapshot_version) (codes "}}") c.in_ok-push_number.ensures c.in_ok-push_str-3.ensures.bytes
    )
    )
    )
    )
