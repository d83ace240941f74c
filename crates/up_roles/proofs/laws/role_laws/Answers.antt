use Rattle.up_roles.specs.Meaning.{MeansRoot, MeansTargets, MeansSnapshot, MeansTimestamp}
use Rattle.up_roles.specs.Root.{root_payload, root_text_of, root_of, root_in}
use Rattle.up_roles.specs.Snapshot.{snapshot_payload, snapshot_text_of, snapshot_of, snapshot_in}
use Rattle.up_roles.specs.Targets.{targets_payload, targets_text_of, targets_of, targets_in}
use Rattle.up_roles.specs.Timestamp.{timestamp_payload, timestamp_text_of, timestamp_of, timestamp_in}
use Rattle.up_roles.proofs.MeantFiles.{snapshots_read, timestamps_read, targets_files_read}
use Rattle.up_roles.proofs.MeantParts.{Moments}
use Rattle.up_roles.proofs.MeantRoot.{roots_read}
use Rattle.up_roles.proofs.PlainFiles.{root-canon, targets-canon, snapshot-canon, timestamp-canon}
use Rattle.up_roles.proofs.ReadAgain.{Lower, read-again}
use Rattle.up_roles.proofs.ReadFiles.{snapshot_means, timestamp_means}
use Rattle.up_roles.proofs.ReadRoot.{root_means}
use Rattle.up_roles.proofs.ReadTargets.{targets_means}
use Rattle.up_roles.proofs.laws.role_laws.Goals as goal

pub returns : goal.returns
unfolding root_text_of root_in root_payload targets_text_of targets_in targets_payload snapshot_text_of snapshot_in snapshot_payload timestamp_text_of timestamp_in timestamp_payload
returns c =
    let law : Lower = record { texts = c.envelope_laws.ensures.text; limits = c.envelope_laws.ensures.limits } in
    let moments : Moments = record { read = c.moment_laws.ensures.read; only = c.moment_laws.ensures.only } in
    record {
      root = λ k secrets file signers fits typed agree small. read-again root_of MeansRoot (roots_read moments) k secrets (root_payload file) file law signers (root-canon file fits typed) (search) (root_means file fits typed agree) small;
      targets = λ k secrets file signers fits typed small. read-again targets_of MeansTargets (targets_files_read moments) k secrets (targets_payload file) file law signers (targets-canon file fits typed) (search) (targets_means file fits typed) small;
      snapshot = λ k secrets file signers fits typed small. read-again snapshot_of MeansSnapshot (snapshots_read moments) k secrets (snapshot_payload file) file law signers (snapshot-canon file fits typed) (search) (snapshot_means file fits typed) small;
      timestamp = λ k secrets file signers fits typed small. read-again timestamp_of MeansTimestamp (timestamps_read moments) k secrets (timestamp_payload file) file law signers (timestamp-canon file fits typed) (search) (timestamp_means file fits typed) small;
    }
