-- The payload of a Snapshot or Timestamp file within its limits means the file.
use Rattle.std.proofs.Common.{◌≡◌, ℕ, List, [], ◌∷◌, Bool, true, ◌&&◌, Option, Some, None, refl}
use Rattle.std.specs.Prelude.{codes}
use Rattle.std.proofs.lemmas.Bool.{and_parts}
use Rattle.serde_json.specs.Data.{Data}
use Rattle.serde_json.specs.Find as json
use Rattle.up_canon.specs.Build.{object_with, count_value, hashes_value}
use Rattle.up_canon.specs.Meaning.{HasObject}
use Rattle.up_canon.specs.Names.{Name}
use Rattle.up_roles.specs.Meaning.{MeansListing, MeansSnapshot, MeansTimestamp}
use Rattle.up_roles.specs.Payload.{payload, version_fits, name_fits, is_moment, is_named}
use Rattle.up_roles.specs.Snapshot.{snapshot_payload, snapshot_fits, snapshot_is_typed}
use Rattle.up_roles.specs.Timestamp.{timestamp_payload, timestamp_fits, timestamp_is_typed}
use Rattle.up_roles.specs.declared.repository.Repository.{Repository}
use Rattle.up_roles.specs.declared.snapshot.SnapshotFile.{SnapshotFile}
use Rattle.up_roles.specs.declared.timestamp.TimestampFile.{TimestampFile}
use Rattle.up_roles.proofs.Heads.{HasHead, HasNamed, head_means, name_means, positive_means, sha256_means}

-- ---- what a payload with meta has

record HasMeta (kind : List ℕ) (r : Repository) (version expires : ℕ) (vehicle : Option Name) (meta d : Data) : Type 0 where
  head : HasHead kind r version expires d
  vehicle_is : HasNamed (codes "vehicle") vehicle d
  meta_is : json.get (codes "meta") d ≡ Some meta

has_meta : (kind : List ℕ) (r : Repository) (version expires : ℕ) (vehicle : Option Name) (meta : Data)
    → HasMeta kind r version expires vehicle meta (payload kind r version expires vehicle ((codes "meta", meta) ∷ []))
has_meta kind r version expires None meta = record { head = record { kind_is = refl; repository_is = refl; version_is = refl; expires_is = refl }; vehicle_is = tt; meta_is = refl }
has_meta kind r version expires (Some name) meta = record { head = record { kind_is = refl; repository_is = refl; version_is = refl; expires_is = refl }; vehicle_is = refl; meta_is = refl }

listing_means : (kind listed : List ℕ) (r : Repository) (version expires : ℕ) (vehicle : Option Name) (parts : List (List ℕ × Data)) (entry : Data) → HasObject (object_with parts) listed entry
    → version_fits version ≡ true → name_fits r vehicle ≡ true → is_moment expires ≡ true → is_named vehicle ≡ true
    → MeansListing kind listed (payload kind r version expires vehicle ((codes "meta", object_with parts) ∷ [])) r version expires vehicle entry
listing_means kind listed r version expires vehicle parts entry has_entry v n e m =
    let d = payload kind r version expires vehicle ((codes "meta", object_with parts) ∷ []) in
    let has = has_meta kind r version expires vehicle (object_with parts) in
    record {
      head = head_means kind d r version expires has.head v e;
      vehicle = name_means r d (codes "vehicle") vehicle n m has.vehicle_is;
      meta = object_with parts;
      has_meta = (_, has.meta_is, refl);
      has_entry = has_entry;
    }

all_three : (a b c : Bool) → (a && b && c) ≡ true → (a ≡ true) × (b ≡ true) × (c ≡ true)
all_three a b c h =
    let both = and_parts (a && b) c h in
    let first = and_parts a b both.0 in
    (first.0, first.1, both.1)

-- ---- Timestamp

abbrev timestamp_entry : TimestampFile → Data
timestamp_entry file = object_with ((codes "hashes", hashes_value file.snapshot_sha256 None) ∷ (codes "version", count_value file.snapshot_version) ∷ [])

pub timestamp_means : (file : TimestampFile) → timestamp_fits file ≡ true → timestamp_is_typed file ≡ true → MeansTimestamp (timestamp_payload file) file
unfolding timestamp_payload
timestamp_means file fits typed =
    let f = all_three _ _ _ fits in
    let t = all_three _ _ _ typed in
    record {
      entry = timestamp_entry file;
      listing = listing_means (codes "timestamp") (codes "snapshot.json") file.repository file.version file.expires file.vehicle ((codes "snapshot.json", timestamp_entry file) ∷ []) (timestamp_entry file) (_, refl, refl) f.0 f.1 t.0 t.1;
      snapshot_version = positive_means (timestamp_entry file) (codes "version") file.snapshot_version refl f.2;
      snapshot_sha256 = sha256_means (timestamp_entry file) file.snapshot_sha256 None refl t.2;
    }

-- ---- Snapshot

abbrev snapshot_entry : SnapshotFile → Data
snapshot_entry file = object_with ((codes "version", count_value file.targets_version) ∷ [])

pub snapshot_means : (file : SnapshotFile) → snapshot_fits file ≡ true → snapshot_is_typed file ≡ true → MeansSnapshot (snapshot_payload file) file
unfolding snapshot_payload
snapshot_means file fits typed =
    let f = all_three _ _ _ fits in
    let t = and_parts _ _ typed in
    record {
      entry = snapshot_entry file;
      listing = listing_means (codes "snapshot") (codes "targets.json") file.repository file.version file.expires file.vehicle ((codes "targets.json", snapshot_entry file) ∷ []) (snapshot_entry file) (_, refl, refl) f.0 f.1 t.0 t.1;
      targets_version = positive_means (snapshot_entry file) (codes "version") file.targets_version refl f.2;
    }
