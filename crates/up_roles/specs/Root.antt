-- Root files: the keys of the four roles, and their thresholds.
use Rattle.std.specs.Prelude.{ℕ, ◌++◌, ◌&&◌, ◌||◌, List, [], ◌∷◌, Bool, true, not, bytes_eq, None, option_map, unwrap_or, length, map, codes, Result, Ok, String, string_bytes}
use Rattle.std.specs.declared.alloc.Global.{Global}
use Rattle.std.specs.List.{list_all, list_any, find}
use Rattle.serde_json.specs.Data.{Data, string, Members, no_members, member, put}
use Rattle.serde_json.specs.Find.{as_object}
use Rattle.serde_json.specs.View.{view}
use Rattle.serde_json.specs.declared.value.Value.{Value}
use Rattle.up_canon.specs.Build.{object_with, list_with, count_value}
use Rattle.up_canon.specs.Members.{object_in, object_of, text_of}
use Rattle.up_canon.specs.Names.{is_from_to, is_short_text, are_distinct}
use Rattle.up_canon.specs.Readers.{fitting}
use Rattle.up_canon.specs.Steps.{◌>>=◌, each, or_error}
use Rattle.up_canon.specs.declared.refusal.Refusal.TheVariants.{BadShape}
use Rattle.up_canon.specs.declared.refusal.Refusal.{Refusal}
use Rattle.up_sign.specs.Schemes.{Rules}
use Rattle.up_sign.specs.declared.envelope.Envelope.{Envelope}
use Rattle.up_roles.specs.Parts.{object_part, few_part, text_part, count_part}
use Rattle.up_roles.specs.Payload.{payload, sealed_text, version_fits, is_moment, head_in, file_in}
use Rattle.up_roles.specs.declared.root.RootKey.{RootKey}
use Rattle.up_roles.specs.declared.root.RoleKeys.{RoleKeys}
use Rattle.up_roles.specs.declared.root.RootFile.{RootFile}

-- ---- the payload

-- the keys of the four roles, in the order in which the first of an identifier counts
abbrev pub all_keys : RootFile → List RootKey
all_keys file = file.root.keys ++ file.targets.keys ++ file.snapshot.keys ++ file.timestamp.keys

abbrev pub key_member : RootKey → List ℕ × Data
key_member key = (key.keyid, object_with ((codes "method", string key.method) ∷ (codes "public", string key.shown) ∷ []))

-- the members with these keys, the first of which goes in last
abbrev pub put_keys : List RootKey → Members → Members
put_keys [] ms = ms
put_keys (key ∷ keys) ms = put key.keyid (key_member key).1 (put_keys keys ms)

abbrev pub role_value : RoleKeys → Data
role_value role = object_with (
    (codes "keyids", list_with (map (λ key. string key.keyid) role.keys)) ∷ (codes "threshold", count_value role.threshold) ∷ [])

abbrev pub roles_members : RootFile → List (List ℕ × Data)
roles_members file =
    (codes "root", role_value file.root) ∷ (codes "snapshot", role_value file.snapshot)
    ∷ (codes "targets", role_value file.targets) ∷ (codes "timestamp", role_value file.timestamp) ∷ []

abbrev pub roles_value : RootFile → Data
roles_value file = object_with (roles_members file)

-- the members of the role
abbrev pub root_more : RootFile → List (List ℕ × Data)
root_more file = (codes "keys", object_with (map key_member (all_keys file))) ∷ (codes "roles", roles_value file) ∷ []

unfoldable pub root_payload : RootFile → Data
root_payload file = payload (codes "root") file.repository file.version file.expires None (root_more file)

unfoldable pub root_text_of : Rules → List (List ℕ) → RootFile → List ℕ
root_text_of k secrets file = sealed_text k secrets (root_payload file)

-- ---- its limits

abbrev pub key_fits : RootKey → Bool
key_fits key = is_short_text 1 128 key.keyid && is_short_text 1 64 key.method && is_short_text 0 1024 key.shown

-- distinct identifiers, and a threshold that the keys can meet
abbrev pub role_is_met : RoleKeys → Bool
role_is_met role = are_distinct (map (λ key. key.keyid) role.keys) && is_from_to 1 (length role.keys) role.threshold

-- 1 to 4 keys
abbrev pub role_fits : RoleKeys → Bool
role_fits role = is_from_to 1 4 (length role.keys) && role_is_met role && list_all key_fits role.keys

abbrev pub root_fits : RootFile → Bool
root_fits file =
    version_fits file.version && role_fits file.root && role_fits file.targets && role_fits file.snapshot && role_fits file.timestamp

-- keys of one identifier have one method and one shown text
abbrev pub agree : RootKey → RootKey → Bool
agree x y = not (bytes_eq x.keyid y.keyid) || (bytes_eq x.method y.method && bytes_eq x.shown y.shown)

abbrev pub keys_agree : List RootKey → Bool
keys_agree [] = true
keys_agree (key ∷ keys) = list_all (agree key) keys && keys_agree keys

-- what the types of the fields keep
abbrev pub root_is_typed : RootFile → Bool
root_is_typed file = is_moment file.expires

-- ---- what a payload value means

abbrev pub members_list : Members → List (List ℕ × Data)
members_list no_members = []
members_list (member k d ms) = (k, d) ∷ members_list ms

-- the members of a map
abbrev pub entries_of : List (String Global × Value) → List (List ℕ × Data)
entries_of entries = map (λ m. (string_bytes m.0, view m.1)) entries

abbrev pub object_members : Data → List (List ℕ × Data)
object_members d = unwrap_or (option_map members_list (as_object d)) []

-- a printable text of so many bytes, in a key
unfoldable pub shown_in : ℕ → ℕ → List ℕ → Data → Result (List ℕ) Refusal
shown_in least most name d = do
  text ← text_part (codes "keys") name d
  fitting (is_short_text least most) (codes "keys") text

unfoldable pub key_of : List ℕ × Data → Result RootKey Refusal
key_of m = do
  keyid ← fitting (is_short_text 1 128) (codes "keys") m.0
  d ← object_of (codes "keys") m.1
  method ← shown_in 1 64 (codes "method") d
  shown ← shown_in 0 1024 (codes "public") d
  Ok (record { keyid = keyid; method = method; shown = shown })

unfoldable pub keys_in : Data → Result (List RootKey) Refusal
keys_in d = do
  keys ← object_in (codes "keys") d
  each key_of (object_members keys)

-- the key of that identifier
unfoldable pub chosen_key : List RootKey → Data → Result RootKey Refusal
chosen_key keys d = do
  keyid ← text_of (codes "roles") d
  or_error (BadShape (codes "roles")) (find (λ key. bytes_eq key.keyid keyid) keys)

unfoldable pub role_in : List RootKey → List ℕ → Data → Result RoleKeys Refusal
role_in keys name roles = do
  role ← object_part (codes "roles") name roles
  ids ← few_part 1 4 (codes "roles") (codes "keyids") role
  chosen ← each (chosen_key keys) ids
  threshold ← count_part (codes "roles") (codes "threshold") role
  fitting role_is_met (codes "roles") (record { keys = chosen; threshold = threshold })

abbrev pub has_key : RoleKeys → RootKey → Bool
has_key role key = list_any (λ own. bytes_eq own.keyid key.keyid) role.keys

-- one of the roles has the key
abbrev pub is_used : RootFile → RootKey → Bool
is_used file key = has_key file.root key || has_key file.targets key || has_key file.snapshot key || has_key file.timestamp key

unfoldable pub root_of : Data → Result RootFile Refusal
root_of d = do
  head ← head_in (codes "root") d
  keys ← keys_in d
  roles ← object_in (codes "roles") d
  root ← role_in keys (codes "root") roles
  targets ← role_in keys (codes "targets") roles
  snapshot ← role_in keys (codes "snapshot") roles
  timestamp ← role_in keys (codes "timestamp") roles
  fitting (λ file. list_all (is_used file) keys) (codes "roles") (record { repository = head.repository; version = head.version; expires = head.expires; root = root; targets = targets; snapshot = snapshot; timestamp = timestamp })

-- the file and its envelope that the bytes mean, or the first fault
unfoldable pub root_in : List ℕ → Result (RootFile × Envelope) Refusal
root_in bytes = file_in root_of bytes
