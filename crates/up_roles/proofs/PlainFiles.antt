-- The payloads of files within the limits have canonical texts.
use Rattle.std.proofs.Common.{◌≡◌, ℕ, suc, ◌≤◌, List, [], ◌∷◌, ◌++◌, true, Option, Some, None, length, map, refl, arith}
use Rattle.std.specs.Prelude.{◌==◌, ◌&&◌, nat_le, nat_lt, codes, option_map, option_to_list}
use Rattle.std.specs.List.{list_all}
use Rattle.std.proofs.lemmas.Bool.{and_parts}
use Rattle.std.proofs.lemmas.Bool.Decides.{nat_tests}
use Rattle.std.proofs.lemmas.List.Folds.{list_all-append}
use Rattle.serde_json.specs.Data.{Data, string}
use Rattle.up_canon.specs.Build.{object_with, list_with, count_value, hex_value, hashes_value}
use Rattle.up_canon.specs.Canon.{max_count, is_printable_text, has_canon}
use Rattle.up_canon.specs.Moments.{last_moment, moment_text}
use Rattle.up_canon.specs.Names.{Name, is_ident, is_file_name}
use Rattle.up_canon.proofs.MomentTexts.{moments_are_plain}
use Rattle.up_canon.specs.HexText.{is_hash, is_second_hash}
use Rattle.up_roles.specs.Payload.{IsCanonical, payload, payload_members, repository_text, version_fits, is_named, is_moment}
use Rattle.up_roles.specs.Root.{all_keys, key_member, role_value, roles_value, roles_members, root_more, root_payload, key_fits, role_fits, root_fits, root_is_typed}
use Rattle.up_roles.specs.Snapshot.{snapshot_meta, snapshot_payload, snapshot_fits, snapshot_is_typed}
use Rattle.up_roles.specs.Targets.{target_value, target_members, targets_payload, targets_fits, target_is_typed, targets_is_typed}
use Rattle.up_roles.specs.Timestamp.{timestamp_meta, timestamp_payload, timestamp_fits, timestamp_is_typed}
use Rattle.up_roles.specs.declared.repository.Repository.{Repository}
use Rattle.up_roles.specs.declared.repository.Repository.TheVariants.{Director, Image}
use Rattle.up_roles.specs.declared.root.RootKey.{RootKey}
use Rattle.up_roles.specs.declared.root.RoleKeys.{RoleKeys}
use Rattle.up_roles.specs.declared.root.RootFile.{RootFile}
use Rattle.up_roles.specs.declared.snapshot.SnapshotFile.{SnapshotFile}
use Rattle.up_roles.specs.declared.targets.Target.{Target}
use Rattle.up_roles.specs.declared.targets.TargetsFile.{TargetsFile}
use Rattle.up_roles.specs.declared.timestamp.TimestampFile.{TimestampFile}
use Rattle.up_canon.proofs.PlainValues.{IsPlain, AllMembers, AllItems, plain-object, plain-list, all-plain, plain-string, plain-count, deeper, plain-canon}
use Rattle.up_canon.proofs.Printable.{ident_prints, file_name_prints, printable-hex}

pub canon_is : (d : Data) → has_canon d ≡ true → IsCanonical d
canon_is d h = rw h refl

-- ---- what payloads have in common

abbrev version-small : (version : ℕ) → version_fits version ≡ true → nat_le version max_count ≡ true
version-small version h = (and_parts (nat_le 1 version) _ h).1

moment-prints : (m : ℕ) → is_moment m ≡ true → is_printable_text (moment_text m) ≡ true
moment-prints m h = let le : m ≤ last_moment = grind (arith, nat_tests) in (moments_are_plain m le).1

plain-moment : (n m : ℕ) → is_moment m ≡ true → IsPlain n (string (moment_text m))
plain-moment n m h = deeper 0 n _ (omega arith) (plain-string (moment_text m) (moment-prints m h))

plain-repository : (n : ℕ) (r : Repository) → IsPlain n (string (repository_text r))
plain-repository n Director = deeper 0 n _ (omega arith) (plain-string (codes "director") refl)
plain-repository n Image = deeper 0 n _ (omega arith) (plain-string (codes "image") refl)

plain-payload : (n : ℕ) (kind : List ℕ) (r : Repository) (version expires : ℕ) (vehicle : Option Name) (more : List (List ℕ × Data))
    → is_printable_text kind ≡ true → version_fits version ≡ true → is_moment expires ≡ true → is_named vehicle ≡ true → AllMembers n more
    → IsPlain (suc n) (payload kind r version expires vehicle more)
plain-payload n kind r version expires None more hk hv he hn h =
    plain-object n (payload_members kind r version expires None more) (
      refl,
      plain-moment n expires he,
      (refl, plain-repository n r, (refl, deeper 0 n _ (omega arith) (plain-string kind hk), (refl, deeper 0 n _ (omega arith) (plain-count version (version-small version hv)), h))),
    )
plain-payload n kind r version expires (Some name) more hk hv he hn h =
    plain-object n (payload_members kind r version expires (Some name) more) (
      refl,
      plain-moment n expires he,
      (
        refl,
        plain-repository n r,
        (
          refl,
          deeper 0 n _ (omega arith) (plain-string kind hk),
          (
            refl,
            deeper 0 n _ (omega arith) (plain-count version (version-small version hv)),
            (refl, deeper 0 n _ (omega arith) (plain-string name (ident_prints name hn)), h),
          ),
        ),
      ),
    )

plain-hash : (hash : List ℕ) (size : ℕ) → ((length hash == size) && list_all (λ x. nat_lt x 256) hash) ≡ true → IsPlain 0 (hex_value hash)
plain-hash hash size h = plain-string _ (printable-hex hash (and_parts (length hash == size) _ h).1)

plain-hashes : (hash : List ℕ) (o : Option (List ℕ)) → is_hash hash ≡ true → is_second_hash o ≡ true → IsPlain 1 (hashes_value hash o)
plain-hashes hash None h k = plain-object 0 ((codes "sha256", hex_value hash) ∷ []) (refl, plain-hash hash 32 h, tt)
plain-hashes hash (Some second) h k =
    plain-object 0 ((codes "sha256", hex_value hash) ∷ (codes "sha512", hex_value second) ∷ []) (refl, plain-hash hash 32 h, (refl, plain-hash second 64 k, tt))

-- ---- Snapshot

plain-version : (version : ℕ) → version_fits version ≡ true → IsPlain 0 (count_value version)
plain-version version h = plain-count version (version-small version h)

pub snapshot-canon : (file : SnapshotFile) → snapshot_fits file ≡ true → snapshot_is_typed file ≡ true → has_canon (snapshot_payload file) ≡ true
unfolding snapshot_payload
snapshot-canon file fits typed =
    let f = and_parts _ _ fits in
    let t = and_parts _ _ typed in
    let entry : IsPlain 1 (object_with ((codes "version", count_value file.targets_version) ∷ [])) = plain-object 0 ((codes "version", count_value file.targets_version) ∷ []) (refl, plain-version file.targets_version f.1, tt) in
    let meta : IsPlain 2 (snapshot_meta file) = plain-object 1 ((codes "targets.json", object_with ((codes "version", count_value file.targets_version) ∷ [])) ∷ []) (refl, entry, tt) in
    plain-canon 3 (snapshot_payload file) (omega arith) (plain-payload 2 (codes "snapshot") file.repository file.version file.expires file.vehicle ((codes "meta", snapshot_meta file) ∷ []) refl (and_parts _ _ f.0).0 t.0 t.1 (refl, meta, tt))

-- ---- Timestamp

pub timestamp-canon : (file : TimestampFile) → timestamp_fits file ≡ true → timestamp_is_typed file ≡ true → has_canon (timestamp_payload file) ≡ true
unfolding timestamp_payload
timestamp-canon file fits typed =
    let f = and_parts _ _ fits in
    let t = and_parts _ _ typed in
    let s = and_parts _ _ t.0 in
    let entry : IsPlain 2 (object_with ((codes "hashes", hashes_value file.snapshot_sha256 None) ∷ (codes "version", count_value file.snapshot_version) ∷ [])) =
    plain-object 1 ((codes "hashes", hashes_value file.snapshot_sha256 None) ∷ (codes "version", count_value file.snapshot_version) ∷ []) (refl, plain-hashes file.snapshot_sha256 None t.1 refl, (refl, deeper 0 1 _ (omega arith) (plain-version file.snapshot_version f.1), tt)) in
    let meta : IsPlain 3 (timestamp_meta file) = plain-object 2 ((codes "snapshot.json", object_with ((codes "hashes", hashes_value file.snapshot_sha256 None) ∷ (codes "version", count_value file.snapshot_version) ∷ [])) ∷ []) (refl, entry, tt) in
    plain-canon 4 (timestamp_payload file) (omega arith) (plain-payload 3 (codes "timestamp") file.repository file.version file.expires file.vehicle ((codes "meta", timestamp_meta file) ∷ []) refl (and_parts _ _ f.0).0 s.0 s.1 (refl, meta, tt))

-- ---- Targets

ecu_members : (ecu : Option Name) → is_named ecu ≡ true → AllMembers 1 (option_to_list (option_map (λ name. (codes "ecu", string name)) ecu))
ecu_members None h = tt
ecu_members (Some name) h = (refl, deeper 0 1 _ (omega arith) (plain-string name (ident_prints name h)), tt)

plain-target : (target : Target) → target_is_typed target ≡ true → IsPlain 2 (target_value target)
plain-target target typed =
    let release = and_parts _ _ typed in
    let hardware = and_parts _ _ release.0 in
    let second = and_parts _ _ hardware.0 in
    let hash = and_parts _ _ second.0 in
    let size = and_parts _ _ hash.0 in
    let file = and_parts _ _ size.0 in
    plain-object 1 (target_members target) (
      refl,
      deeper 0 1 _ (omega arith) (plain-string target.file (file_name_prints target.file file.1)),
      (
        refl,
        plain-list 0 (map string target.hardware) (all-plain 0 is_ident string target.hardware (λ name h. plain-string name (ident_prints name h)) hardware.1),
        (
          refl,
          plain-hashes target.sha256 target.sha512 hash.1 second.1,
          (
            refl,
            deeper 0 1 _ (omega arith) (plain-count target.length size.1),
            (refl, deeper 0 1 _ (omega arith) (plain-count target.release release.1), ecu_members target.ecu file.0),
          ),
        ),
      ),
    )

pub target_typed : (target : Target) → is_named target.ecu ≡ true → is_file_name target.file ≡ true → target.length ≤ max_count → is_hash target.sha256 ≡ true
    → is_second_hash target.sha512 ≡ true → list_all is_ident target.hardware ≡ true → target.release ≤ max_count → target_is_typed target ≡ true
target_typed target ecu file size hash second hardware release =
    let size' : nat_le target.length max_count ≡ true = grind (arith, nat_tests) in
    let release' : nat_le target.release max_count ≡ true = grind (arith, nat_tests) in
    rw (ecu, file, size', hash, second, hardware, release') refl

pub targets-canon : (file : TargetsFile) → targets_fits file ≡ true → targets_is_typed file ≡ true → has_canon (targets_payload file) ≡ true
unfolding targets_payload
targets-canon file fits typed =
    let t = and_parts _ _ typed in
    let s = and_parts _ _ t.0 in
    let f = and_parts _ _ (and_parts _ _ fits).0 in
    let list : IsPlain 3 (list_with (map target_value file.targets)) = plain-list 2 (map target_value file.targets) (all-plain 2 target_is_typed target_value file.targets plain-target t.1) in
    plain-canon 4 (targets_payload file) (omega arith) (plain-payload 3 (codes "targets") file.repository file.version file.expires file.vehicle ((codes "targets", list_with (map target_value file.targets)) ∷ []) refl (and_parts _ _ f.0).0 s.0 s.1 (refl, list, tt))

-- ---- Root

key_members : (keys : List RootKey) → list_all key_fits keys ≡ true → AllMembers 1 (map key_member keys)
key_members [] h = tt
key_members (key ∷ keys) h =
    let p = and_parts _ _ h in
    let shown = and_parts _ _ p.0 in
    let method = and_parts _ _ shown.0 in (
      (and_parts _ _ method.0).1,
      plain-object 0 ((codes "method", string key.method) ∷ (codes "public", string key.shown) ∷ []) (refl, plain-string key.method (and_parts _ _ method.1).1, (refl, plain-string key.shown (and_parts _ _ shown.1).1, tt)),
      key_members keys p.1,
    )

id_items : (keys : List RootKey) → list_all key_fits keys ≡ true → AllItems 0 (map (λ key. string key.keyid) keys)
id_items keys h = all-plain 0 key_fits (λ key. string key.keyid) keys (λ key k. plain-string key.keyid (and_parts _ _ (and_parts _ _ (and_parts _ _ k).0).0).1) h

plain-role : (role : RoleKeys) → role_fits role ≡ true → IsPlain 2 (role_value role)
plain-role role h =
    let p = and_parts _ _ h in
    let q = and_parts _ _ p.0 in
    let few : nat_le (length role.keys) 4 ≡ true = (and_parts (nat_le 1 (length role.keys)) _ q.0).1 in
    let met : nat_le role.threshold (length role.keys) ≡ true = (and_parts (nat_le 1 role.threshold) _ (and_parts _ _ q.1).1).1 in
    let small : nat_le role.threshold max_count ≡ true = grind (arith, nat_tests) in
    plain-object 1 ((codes "keyids", list_with (map (λ key. string key.keyid) role.keys)) ∷ (codes "threshold", count_value role.threshold) ∷ []) (refl, plain-list 0 (map (λ key. string key.keyid) role.keys) (id_items role.keys p.1), (refl, deeper 0 1 _ (omega arith) (plain-count role.threshold small), tt))

role_keys-fit : (role : RoleKeys) → role_fits role ≡ true → list_all key_fits role.keys ≡ true
role_keys-fit role h = (and_parts _ _ h).1

pub record RolesFit (file : RootFile) : Type 0 where
  pub version : version_fits file.version ≡ true
  pub root : role_fits file.root ≡ true
  pub targets : role_fits file.targets ≡ true
  pub snapshot : role_fits file.snapshot ≡ true
  pub timestamp : role_fits file.timestamp ≡ true

pub roles-fit : (file : RootFile) → root_fits file ≡ true → RolesFit file
roles-fit file h =
    let a = and_parts _ _ h in
    let b = and_parts _ _ a.0 in
    let c = and_parts _ _ b.0 in
    let d = and_parts _ _ c.0 in
    record { version = d.0; root = d.1; targets = c.1; snapshot = b.1; timestamp = a.1 }

pub all_keys-fit : (file : RootFile) → RolesFit file → list_all key_fits (all_keys file) ≡ true
all_keys-fit file h =
    rw (
      list_all-append key_fits (file.root.keys ++ file.targets.keys ++ file.snapshot.keys) file.timestamp.keys,
      list_all-append key_fits (file.root.keys ++ file.targets.keys) file.snapshot.keys,
      list_all-append key_fits file.root.keys file.targets.keys,
      role_keys-fit file.root h.root,
      role_keys-fit file.targets h.targets,
      role_keys-fit file.snapshot h.snapshot,
      role_keys-fit file.timestamp h.timestamp,
    ) refl

pub root-canon : (file : RootFile) → root_fits file ≡ true → root_is_typed file ≡ true → has_canon (root_payload file) ≡ true
unfolding root_payload
root-canon file fits typed =
    let f = roles-fit file fits in
    let keys : IsPlain 2 (object_with (map key_member (all_keys file))) = plain-object 1 (map key_member (all_keys file)) (key_members (all_keys file) (all_keys-fit file f)) in
    let roles : IsPlain 3 (roles_value file) =
    plain-object 2 (roles_members file) (refl, plain-role file.root f.root, (refl, plain-role file.snapshot f.snapshot, (refl, plain-role file.targets f.targets, (refl, plain-role file.timestamp f.timestamp, tt)))) in
    plain-canon 4 (root_payload file) (omega arith) (plain-payload 3 (codes "root") file.repository file.version file.expires None (root_more file) refl f.version typed refl (refl, deeper 2 3 _ (omega arith) keys, (refl, roles, tt)))
