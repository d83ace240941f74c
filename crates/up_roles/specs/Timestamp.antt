-- Timestamp files: the version and the hash of the Snapshot file.
use Rattle.std.specs.Prelude.{ℕ, ◌&&◌, List, [], ◌∷◌, Bool, None, codes, Result, Ok}
use Rattle.serde_json.specs.Data.{Data}
use Rattle.up_canon.specs.Members.{object_in}
use Rattle.up_canon.specs.Steps.{◌>>=◌}
use Rattle.up_canon.specs.declared.refusal.Refusal.{Refusal}
use Rattle.up_sign.specs.Schemes.{Rules}
use Rattle.up_sign.specs.declared.envelope.Envelope.{Envelope}
use Rattle.up_roles.specs.Parts.{object_part, positive_part, sha256_part}
use Rattle.up_canon.specs.Build.{object_with, count_value, hashes_value}
use Rattle.up_canon.specs.HexText.{is_hash}
use Rattle.up_roles.specs.Payload.{payload, sealed_text, version_fits, name_fits, is_moment, is_named, head_in, vehicle_in, file_in}
use Rattle.up_roles.specs.declared.timestamp.TimestampFile.{TimestampFile}

-- ---- the payload

-- the entry of the Snapshot file
abbrev pub meta_of : Data → ℕ → Data
meta_of hashes version =
    object_with ((codes "snapshot.json", object_with ((codes "hashes", hashes) ∷ (codes "version", count_value version) ∷ [])) ∷ [])

abbrev pub timestamp_meta : TimestampFile → Data
timestamp_meta file = meta_of (hashes_value file.snapshot_sha256 None) file.snapshot_version

unfoldable pub timestamp_payload : TimestampFile → Data
timestamp_payload file = payload (codes "timestamp") file.repository file.version file.expires file.vehicle ((codes "meta", timestamp_meta file) ∷ [])

unfoldable pub timestamp_text_of : Rules → List (List ℕ) → TimestampFile → List ℕ
timestamp_text_of k secrets file = sealed_text k secrets (timestamp_payload file)

-- ---- its limits

abbrev pub timestamp_fits : TimestampFile → Bool
timestamp_fits file = version_fits file.version && name_fits file.repository file.vehicle && version_fits file.snapshot_version

-- what the types of the fields keep
abbrev pub timestamp_is_typed : TimestampFile → Bool
timestamp_is_typed file = is_moment file.expires && is_named file.vehicle && is_hash file.snapshot_sha256

-- ---- what a payload value means

-- the entry of the Snapshot file
unfoldable pub timestamp_entry_in : Data → Result Data Refusal
timestamp_entry_in d = do
  meta ← object_in (codes "meta") d
  object_part (codes "meta") (codes "snapshot.json") meta

unfoldable pub timestamp_of : Data → Result TimestampFile Refusal
timestamp_of d = do
  head ← head_in (codes "timestamp") d
  vehicle ← vehicle_in head.repository d
  entry ← timestamp_entry_in d
  snapshot_version ← positive_part (codes "meta") (codes "version") entry
  snapshot_sha256 ← sha256_part (codes "meta") entry
  Ok (record { repository = head.repository; version = head.version; expires = head.expires; vehicle = vehicle; snapshot_version = snapshot_version; snapshot_sha256 = snapshot_sha256 })

-- the file and its envelope that the bytes mean, or the first fault
unfoldable pub timestamp_in : List ℕ → Result (TimestampFile × Envelope) Refusal
timestamp_in bytes = file_in timestamp_of bytes
