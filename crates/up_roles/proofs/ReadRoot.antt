-- The payload of a Root file within its limits means the file.
use Rattle.std.proofs.Common.{◌≡◌, ℕ, List, [], ◌∷◌, ◌++◌, Bool, true, Some, None, Ok, length, map, refl, ap, subst, ◌∙◌, arith}
use Rattle.std.specs.Prelude.{codes, nat_le, bytes_eq, ◌||◌}
use Rattle.std.specs.List.{AllByRecursion, list_all, list_any}
use Rattle.std.proofs.lemmas.Bool.{and_parts, or_left, or_right}
use Rattle.std.proofs.lemmas.Bool.Decides.{nat_tests}
use Rattle.std.proofs.lemmas.List.Folds.{list_all-append}
use Rattle.serde_json.specs.Data.{Data, string, object, Members, no_members}
use Rattle.serde_json.specs.Find as json
use Rattle.serde_json.specs.View.{items_of}
use Rattle.up_canon.specs.Canon.{max_count}
use Rattle.up_canon.specs.Names.{is_from_to}
use Rattle.up_canon.specs.Steps.{each}
use Rattle.up_canon.proofs.Printable.{both, all-more}
use Rattle.up_roles.specs.Meaning.{IsKeyId, MeansRole, MeansRoot}
use Rattle.up_roles.specs.Payload.{payload}
use Rattle.up_roles.specs.Root.{all_keys, key_member, put_keys, role_value, roles_value, root_more, root_payload, key_fits, role_fits, root_fits, root_is_typed, keys_agree, key_of, has_key, is_used}
use Rattle.up_roles.specs.declared.root.RootKey.{RootKey}
use Rattle.up_roles.specs.declared.root.RoleKeys.{RoleKeys}
use Rattle.up_roles.specs.declared.root.RootFile.{RootFile}
use Rattle.up_roles.proofs.Gathered.{gathered, keys-listed, all-gathered, AreFound, are-found}
use Rattle.up_roles.proofs.Heads.{HasHead, head_means, count_means, each_means, each_made}
use Rattle.up_roles.proofs.Keys.{members_with-keys}
use Rattle.up_roles.proofs.MeantRoot.{with_id, AreListed, IsKeyOf, key_there, keys_shown, found_shown, named_passes, any_used}
use Rattle.up_roles.proofs.PlainFiles.{roles-fit, all_keys-fit}
use Rattle.up_sign.proofs.Accepted.{bytes_eq-refl}

-- ---- keys

key_made : (key : RootKey) → key_fits key ≡ true → key_of (key_member key) ≡ Ok key
key_made key h = key_there key.keyid (key_member key).1 key (record { named = refl; fits = h; object_is = (_, refl); method = refl; public = refl })

-- the members of the keys are the gathered keys
gathered_listed : (keys : List RootKey) → list_all key_fits keys ≡ true → AreListed (put_keys keys no_members) (gathered keys)
gathered_listed keys fits = ap (each key_of) (keys-listed keys) ∙ each_made key_of key_member key_fits key_made (gathered keys) (all-gathered key_fits keys fits)

-- ---- roles

each_found : (ms : Members) (all : List RootKey) → AreListed ms all → (keys : List RootKey) → AreFound all keys → AllByRecursion (IsKeyOf ms) keys
each_found ms all listed [] h = tt
each_found ms all listed (key ∷ keys) h = (found_shown ms all listed key.keyid key h.0, each_found ms all listed keys h.1)

role_means : (ms : Members) (all : List RootKey) → AreListed ms all → (name : List ℕ) (role : RoleKeys) (roles : Data) → json.get name roles ≡ Some (role_value role) → role_fits role ≡ true → AreFound all role.keys
    → MeansRole (object ms) roles name role
role_means ms all listed name role roles has h found =
    let p = and_parts _ _ h in
    let q = and_parts (is_from_to 1 4 (length role.keys)) _ p.0 in
    let few : nat_le (length role.keys) 4 ≡ true = (and_parts (nat_le 1 (length role.keys)) _ q.0).1 in
    let met : nat_le role.threshold (length role.keys) ≡ true = (and_parts (nat_le 1 role.threshold) _ (and_parts _ _ q.1).1).1 in
    let small : nat_le role.threshold max_count ≡ true = grind (arith, nat_tests) in
    record {
      value = role_value role;
      has_role = (_, has, refl);
      listed = items_of (map (λ (key : RootKey). string key.keyid) role.keys);
      has_keyids = refl;
      keyids = each_means IsKeyId (λ (key : RootKey). string key.keyid) key_fits (λ key fits. refl) role.keys p.1;
      shown = keys_shown ms role.keys (each_found ms all listed role.keys found);
      threshold = count_means (role_value role) (codes "threshold") role.threshold refl small;
      fits = h;
    }

-- ---- each key is a role's

abbrev has : List RootKey → RootKey → Bool
has keys key = list_any (λ own. bytes_eq own.keyid key.keyid) keys

has-own : (keys : List RootKey) → list_all (has keys) keys ≡ true
has-own [] = refl
has-own (k ∷ keys) =
    let own = bytes_eq-refl k.keyid in
    both _ _ (rw own refl) (all-more (has keys) (has (k ∷ keys)) keys (λ x h. or_right (bytes_eq k.keyid x.keyid) (has keys x) h) (has-own keys))

all-used : (file : RootFile) → list_all (is_used file) (all_keys file) ≡ true
all-used file =
    let a = has_key file.root in
    let b = has_key file.targets in
    let c = has_key file.snapshot in
    let d = has_key file.timestamp in
    let root = all-more a (is_used file) file.root.keys (λ x h. or_left _ _ (or_left _ _ (or_left (a x) (b x) h))) (has-own file.root.keys) in
    let targets = all-more b (is_used file) file.targets.keys (λ x h. or_left _ _ (or_left _ _ (or_right (a x) (b x) h))) (has-own file.targets.keys) in
    let snapshot = all-more c (is_used file) file.snapshot.keys (λ x h. or_left _ _ (or_right (a x || b x) (c x) h)) (has-own file.snapshot.keys) in
    let timestamp = all-more d (is_used file) file.timestamp.keys (λ x h. or_right (a x || b x || c x) (d x) h) (has-own file.timestamp.keys) in
    rw (
      list_all-append (is_used file) (file.root.keys ++ file.targets.keys ++ file.snapshot.keys) file.timestamp.keys,
      list_all-append (is_used file) (file.root.keys ++ file.targets.keys) file.snapshot.keys,
      list_all-append (is_used file) file.root.keys file.targets.keys,
      root,
      targets,
      snapshot,
      timestamp,
    ) refl

-- ---- the file

found-parts : (all xs ys : List RootKey) → AreFound all (xs ++ ys) → AreFound all xs × AreFound all ys
found-parts all [] ys h = (tt, h)
found-parts all (x ∷ xs) ys h = let p = found-parts all xs ys h.1 in ((h.0, p.0), p.1)

pub root_means : (file : RootFile) → root_fits file ≡ true → root_is_typed file ≡ true → keys_agree (all_keys file) ≡ true → MeansRoot (root_payload file) file
unfolding root_payload
root_means file fits typed agree =
    let f = roles-fit file fits in
    let d = payload (codes "root") file.repository file.version file.expires None (root_more file) in
    let head : HasHead (codes "root") file.repository file.version file.expires d = record { kind_is = refl; repository_is = refl; version_is = refl; expires_is = refl } in
    let ms = put_keys (all_keys file) no_members in
    let all = gathered (all_keys file) in
    let listed = gathered_listed (all_keys file) (all_keys-fit file f) in
    let found = found-parts all (file.root.keys ++ file.targets.keys ++ file.snapshot.keys) file.timestamp.keys (are-found (all_keys file) agree) in
    let three = found-parts all (file.root.keys ++ file.targets.keys) file.snapshot.keys found.0 in
    let two = found-parts all file.root.keys file.targets.keys three.0 in
    let roles = roles_value file in
    record {
      head = head_means (codes "root") d file.repository file.version file.expires head f.version typed;
      keys = object ms;
      has_keys = (_, ap (λ members. Some (object members)) (members_with-keys (all_keys file)), refl);
      roles = roles;
      has_roles = (_, refl, refl);
      root = role_means ms all listed (codes "root") file.root roles refl f.root two.0;
      targets = role_means ms all listed (codes "targets") file.targets roles refl f.targets two.1;
      snapshot = role_means ms all listed (codes "snapshot") file.snapshot roles refl f.snapshot three.1;
      timestamp = role_means ms all listed (codes "timestamp") file.timestamp roles refl f.timestamp found.1;
      no_others = λ keyid shown there.
          let key = named_passes ms all listed (is_used file) (all-gathered (is_used file) (all_keys file) (all-used file)) keyid shown there in
          subst (λ id. list_any (with_id id) (all_keys file) ≡ true) key.1 (any_used file key.0 ∙ key.2);
    }
