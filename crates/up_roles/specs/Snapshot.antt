-- Snapshot files: the version of the Targets file.
use Rattle.std.specs.Prelude.{ℕ, ◌&&◌, List, [], ◌∷◌, Bool, codes, Result, Ok}
use Rattle.serde_json.specs.Data.{Data}
use Rattle.up_canon.specs.Members.{object_in}
use Rattle.up_canon.specs.Steps.{◌>>=◌}
use Rattle.up_canon.specs.declared.refusal.Refusal.{Refusal}
use Rattle.up_sign.specs.Schemes.{Rules}
use Rattle.up_sign.specs.declared.envelope.Envelope.{Envelope}
use Rattle.up_roles.specs.Parts.{object_part, positive_part}
use Rattle.up_canon.specs.Build.{object_with, count_value}
use Rattle.up_roles.specs.Payload.{payload, sealed_text, version_fits, name_fits, is_moment, is_named, head_in, vehicle_in, file_in}
use Rattle.up_roles.specs.declared.snapshot.SnapshotFile.{SnapshotFile}

-- ---- the payload

abbrev pub snapshot_meta : SnapshotFile → Data
snapshot_meta file = object_with ((codes "targets.json", object_with ((codes "version", count_value file.targets_version) ∷ [])) ∷ [])

unfoldable pub snapshot_payload : SnapshotFile → Data
snapshot_payload file = payload (codes "snapshot") file.repository file.version file.expires file.vehicle ((codes "meta", snapshot_meta file) ∷ [])

unfoldable pub snapshot_text_of : Rules → List (List ℕ) → SnapshotFile → List ℕ
snapshot_text_of k secrets file = sealed_text k secrets (snapshot_payload file)

-- ---- its limits

abbrev pub snapshot_fits : SnapshotFile → Bool
snapshot_fits file = version_fits file.version && name_fits file.repository file.vehicle && version_fits file.targets_version

-- what the types of the fields keep
abbrev pub snapshot_is_typed : SnapshotFile → Bool
snapshot_is_typed file = is_moment file.expires && is_named file.vehicle

-- ---- what a payload value means

unfoldable pub snapshot_entry_in : Data → Result ℕ Refusal
snapshot_entry_in d = do
  meta ← object_in (codes "meta") d
  entry ← object_part (codes "meta") (codes "targets.json") meta
  positive_part (codes "meta") (codes "version") entry

unfoldable pub snapshot_of : Data → Result SnapshotFile Refusal
snapshot_of d = do
  head ← head_in (codes "snapshot") d
  vehicle ← vehicle_in head.repository d
  targets_version ← snapshot_entry_in d
  Ok (record { repository = head.repository; version = head.version; expires = head.expires; vehicle = vehicle; targets_version = targets_version })

-- the file and its envelope that the bytes mean, or the first fault
unfoldable pub snapshot_in : List ℕ → Result (SnapshotFile × Envelope) Refusal
snapshot_in bytes = file_in snapshot_of bytes
