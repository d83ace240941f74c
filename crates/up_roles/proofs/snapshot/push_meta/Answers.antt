use Rattle.std.specs.Prelude.{codes, decimal}
use Rattle.up_canon.proofs.Joined.{pushed, pushed_as}
use Rattle.up_roles.proofs.Spelled.{snapshot_meta_text}
use Rattle.up_roles.proofs.snapshot.push_meta.Goals as goal

pub returns : goal.returns
returns c =
    let f = c.args.file.now in
    pushed_as _ _ _ _ (snapshot_meta_text f) (
    pushed _ _ _ (codes ",\"meta\":{\"targets.json\":{\"version\":") _ c.in_ok-push_str.ensures.bytes (
    pushed _ _ _ (decimal f.targets_version) (codes "}}") c.in_ok-push_number.ensures c.in_ok-push_str-2.ensures.bytes
    )
    )
