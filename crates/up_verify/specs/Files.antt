-- A repository's Timestamp, Snapshot and Targets under its trusted Root (Uptane Standard 2.1.0, 5.4.4.4 to 5.4.4.6). Each check carries
-- its fault, in the order of checks.
use Rattle.std.specs.Prelude.{ℕ, ◌==◌, ◌&&◌, List, Bool, true, false, nat_le, nat_lt, bytes_eq, Option, Some, None, Result, Ok, Err, ⊤}
use Rattle.sha2.specs.Sha256.{sha256}
use Rattle.up_canon.specs.Names.{Name}
use Rattle.up_canon.specs.Steps.{◌>>=◌, unless}
use Rattle.up_sign.specs.declared.envelope.Envelope.{Envelope}
use Rattle.up_roles.specs.declared.repository.Repository.{Repository}
use Rattle.up_roles.specs.declared.root.RoleKeys.{RoleKeys}
use Rattle.up_roles.specs.declared.snapshot.SnapshotFile.{SnapshotFile}
use Rattle.up_roles.specs.declared.targets.TargetsFile.{TargetsFile}
use Rattle.up_roles.specs.declared.timestamp.TimestampFile.{TimestampFile}
use Rattle.up_roles.specs.Snapshot.{snapshot_in}
use Rattle.up_roles.specs.Targets.{targets_in}
use Rattle.up_roles.specs.Timestamp.{timestamp_in}
use Rattle.up_metadata.specs.declared.role_files.RoleTexts.{RoleTexts}
use Rattle.up_verify.specs.declared.refused.Fault.{Fault}
use Rattle.up_verify.specs.declared.refused.Fault.TheVariants.{OtherRepository, OtherVehicle, NotSigned, NotNamed, GoesBack, Expired}
use Rattle.up_verify.specs.declared.refused.Role.{Role}
use Rattle.up_verify.specs.declared.refused.Role.TheVariants.{Timestamp, Snapshot, Targets}
use Rattle.up_verify.specs.declared.refused.Refused.{Refused}
use Rattle.up_verify.specs.declared.refused.Refused.TheVariants.{File}
use Rattle.up_verify.specs.declared.trust.Trust.{Trust}
use Rattle.up_verify.specs.declared.served.Checked.{Checked}
use Rattle.up_verify.specs.declared.asked.Asked.{Asked}
use Rattle.up_verify.specs.Verifiers.{Verifier, is_signed_for}
use Rattle.up_verify.specs.Roots.{same_repository, or_unread}

-- what a file says of itself
pub record Says : Type 0 where
  pub repository : Repository
  pub vehicle : Option Name
  pub version : ℕ
  pub expires : ℕ

-- both name the same vehicle, or none
abbrev pub same_vehicle : Option Name → Option Name → Bool
same_vehicle None None = true
same_vehicle (Some a) (Some b) = bytes_eq a b
same_vehicle _ _ = false

-- a file of a role: of this repository, for this vehicle, signed, not below the version that was verified last, and not expired,
-- which it is from the second `expires` on
unfoldable pub check_file : Verifier → Asked → RoleKeys → ℕ → Says → Envelope → Result ⊤ Fault
check_file v asked role last says envelope = do
  other_repository ← unless (same_repository says.repository asked.repository) OtherRepository
  other_vehicle ← unless (same_vehicle says.vehicle asked.vehicle) OtherVehicle
  not_signed ← unless (is_signed_for v role envelope) NotSigned
  goes_back ← unless (nat_le last says.version) GoesBack
  unless (nat_lt asked.moment says.expires) Expired

unfoldable pub check_timestamp : Verifier → Asked → Trust → List ℕ → Result TimestampFile Fault
check_timestamp v asked t bytes = do
  read ← or_unread (timestamp_in bytes)
  checked ← check_file v asked t.root.timestamp t.versions.timestamp (record { repository = read.0.repository; vehicle = read.0.vehicle; version = read.0.version; expires = read.0.expires }) read.1
  Ok read.0

-- the one that the Timestamp names, by its version and by the hash of its text as it is served
unfoldable pub check_snapshot : Verifier → Asked → Trust → TimestampFile → List ℕ → Result SnapshotFile Fault
check_snapshot v asked t timestamp bytes = do
  read ← or_unread (snapshot_in bytes)
  not_named ← unless (bytes_eq (sha256 bytes) timestamp.snapshot_sha256 && (read.0.version == timestamp.snapshot_version)) NotNamed
  checked ← check_file v asked t.root.snapshot t.versions.snapshot (record { repository = read.0.repository; vehicle = read.0.vehicle; version = read.0.version; expires = read.0.expires }) read.1
  Ok read.0

-- the one that the Snapshot names, by its version
unfoldable pub check_targets : Verifier → Asked → Trust → SnapshotFile → List ℕ → Result TargetsFile Fault
check_targets v asked t snapshot bytes = do
  read ← or_unread (targets_in bytes)
  not_named ← unless (read.0.version == snapshot.targets_version) NotNamed
  checked ← check_file v asked t.root.targets t.versions.targets (record { repository = read.0.repository; vehicle = read.0.vehicle; version = read.0.version; expires = read.0.expires }) read.1
  Ok read.0

-- a file's fault, named
abbrev pub of_file : {A : Type 0} → Repository → Role → Result A Fault → Result A Refused
of_file repository role (Ok x) = Ok x
of_file repository role (Err fault) = Err (File repository role fault)

-- the three files
unfoldable pub check_files : Verifier → Asked → Trust → RoleTexts → Result Checked Refused
check_files v asked t texts = do
  timestamp ← of_file asked.repository Timestamp (check_timestamp v asked t texts.timestamp)
  snapshot ← of_file asked.repository Snapshot (check_snapshot v asked t timestamp texts.snapshot)
  targets ← of_file asked.repository Targets (check_targets v asked t snapshot texts.targets)
  Ok (record { versions = record { timestamp = timestamp.version; snapshot = snapshot.version; targets = targets.version }; targets = targets })
