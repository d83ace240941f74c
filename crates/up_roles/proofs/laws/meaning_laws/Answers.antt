use Rattle.up_roles.specs.Meaning.{MeansRoot, MeansTargets, MeansSnapshot, MeansTimestamp}
use Rattle.up_roles.specs.Root.{root_of, root_in}
use Rattle.up_roles.specs.Snapshot.{snapshot_of, snapshot_in}
use Rattle.up_roles.specs.Targets.{targets_of, targets_in}
use Rattle.up_roles.specs.Timestamp.{timestamp_of, timestamp_in}
use Rattle.up_roles.proofs.MeantFiles.{snapshots_read, timestamps_read, targets_files_read, bytes_mean_one_or_fail}
use Rattle.up_roles.proofs.MeantLimits.{roots_fit, targets_fit, snapshots_fit, timestamps_fit}
use Rattle.up_roles.proofs.MeantParts.{Moments}
use Rattle.up_roles.proofs.MeantRoot.{roots_read}
use Rattle.up_roles.proofs.laws.meaning_laws.Goals as goal

pub returns : goal.returns
unfolding root_in targets_in snapshot_in timestamp_in
returns c =
    let moments : Moments = record { read = c.moment_laws.ensures.read; only = c.moment_laws.ensures.only } in
    record {
      root = bytes_mean_one_or_fail root_of MeansRoot (roots_read moments);
      targets = bytes_mean_one_or_fail targets_of MeansTargets (targets_files_read moments);
      snapshot = bytes_mean_one_or_fail snapshot_of MeansSnapshot (snapshots_read moments);
      timestamp = bytes_mean_one_or_fail timestamp_of MeansTimestamp (timestamps_read moments);
      root_fits = roots_fit;
      targets_fit = targets_fit;
      snapshot_fits = snapshots_fit;
      timestamp_fits = timestamps_fit;
    }
