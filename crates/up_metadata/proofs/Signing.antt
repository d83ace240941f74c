-- Every file is signed for its role.
use Rattle.std.proofs.Common.{◌≡◌, ℕ, suc, ◌+◌, List, [], ◌∷◌, ◌++◌, Bool, true, false, cond, not, Option, Some, None, refl, sym, ap, ◌∙◌, arith}
use Rattle.std.specs.Prelude.{◌&&◌, ◌||◌, length, map, filter, nat_le, bytes_eq, fold, option_map, option_to_list, is_none, IfSome}
use Rattle.std.specs.List.{AllByRecursion, list_all, list_any}
use Rattle.std.specs.Cmp.Lexicographic.{bytes_decides}
use Rattle.std.proofs.lemmas.Bool.{or_left, or_right}
use Rattle.std.proofs.lemmas.List.{length-map}
use Rattle.serde_json.specs.Data.{Data}
use Rattle.up_canon.specs.Canon.{text}
use Rattle.up_canon.specs.Names.{is_from_to}
use Rattle.up_sign.specs.Schemes.{Rules, IsScheme}
use Rattle.up_sign.specs.Envelopes.{is_by, is_satisfied, signature_of, sealed_envelope}
use Rattle.up_sign.specs.Formats.{envelope_text}
use Rattle.up_sign.specs.Hmac.{key_id}
use Rattle.up_sign.proofs.Accepted.{bytes_eq-refl}
use Rattle.up_roles.specs.declared.repository.Repository.{Repository}
use Rattle.up_roles.specs.Payload.{sealed_text}
use Rattle.up_roles.specs.Root.{root_payload, root_text_of}
use Rattle.up_roles.specs.Targets.{targets_payload, targets_text_of}
use Rattle.up_roles.specs.Snapshot.{snapshot_payload, snapshot_text_of}
use Rattle.up_roles.specs.Timestamp.{timestamp_payload, timestamp_text_of}
use Rattle.up_metadata.specs.declared.keys.RoleSecrets.{RoleSecrets}
use Rattle.up_metadata.specs.declared.keys.RepoKeys.{RepoKeys}
use Rattle.up_metadata.specs.declared.keys.KeySet.{KeySet}
use Rattle.up_metadata.specs.Keys.{secret_fits, keys_fit, threshold_fits, role_fits, repository_fits}
use Rattle.up_metadata.specs.Files.{keys_of, Root, root_signers, root_file, root_text, targets_file, targets_text, snapshot_file, snapshot_text, timestamp_file, timestamp_text}
use Rattle.up_metadata.specs.Signed.{IsAcceptedBy, IsSignedFor, root_role, HasFittingKeys, RootFilesAreSigned, RoleFilesAreSigned}
use Rattle.up_metadata.proofs.Lists.{and_left, and_right, each_weaker}

-- ---- tests of bytes

abbrev is_in : List ℕ → List (List ℕ) → Bool
is_in x xs = list_any (bytes_eq x) xs

in_front : (x : List ℕ) (xs ys : List (List ℕ)) → is_in x xs ≡ true → is_in x (xs ++ ys) ≡ true
in_front x [] ys h = cc
in_front x (z ∷ xs) ys h = by_test (bytes_eq x z) h (in_front x xs ys)
  where
    by_test : (b : Bool) → (b || list_any (bytes_eq x) xs) ≡ true → (list_any (bytes_eq x) xs ≡ true → list_any (bytes_eq x) (xs ++ ys) ≡ true) → (b || list_any (bytes_eq x) (xs ++ ys)) ≡ true
    by_test true h more = refl
    by_test false h more = more h

in_back : (x : List ℕ) (xs ys : List (List ℕ)) → is_in x ys ≡ true → is_in x (xs ++ ys) ≡ true
in_back x [] ys h = h
in_back x (z ∷ xs) ys h = or_right (bytes_eq x z) _ (in_back x xs ys h)

each_in : (xs : List (List ℕ)) → AllByRecursion (λ x. is_in x xs ≡ true) xs
each_in [] = tt
each_in (x ∷ xs) = (or_left _ _ (bytes_eq-refl x), each_weaker (λ y. list_any (bytes_eq y) xs ≡ true) (λ y. list_any (bytes_eq y) (x ∷ xs) ≡ true) (λ y h. or_right (bytes_eq y x) _ h) xs (each_in xs))

-- what passes the test stays in the filtered list
in_filter : (p : List ℕ → Bool) (x : List ℕ) (xs : List (List ℕ)) → p x ≡ true → is_in x xs ≡ true → is_in x (filter p xs) ≡ true
in_filter p x [] passes h = cc
in_filter p x (z ∷ xs) passes h = by_test (bytes_eq x z) refl h (in_filter p x xs passes)
  where
    by_pass : (b : Bool) → list_any (bytes_eq x) (filter p xs) ≡ true → list_any (bytes_eq x) (cond b (z ∷ filter p xs) (filter p xs)) ≡ true
    by_pass true h = or_right (bytes_eq x z) _ h
    by_pass false h = h

    by_test : (b : Bool) → bytes_eq x z ≡ b → (b || list_any (bytes_eq x) xs) ≡ true → (list_any (bytes_eq x) xs ≡ true → list_any (bytes_eq x) (filter p xs) ≡ true)
        → list_any (bytes_eq x) (cond (p z) (z ∷ filter p xs) (filter p xs)) ≡ true
    by_test true is h more =
        let kept : p z ≡ true = ap p (sym ((bytes_decides x z).0 is)) ∙ passes in
        rw kept (or_left _ _ is)
    by_test false is h more = by_pass (p z) (more h)

-- an old key is among the signers: it is one of the new keys, or one of those that aren't
old_signs : (x : List ℕ) (own old : List (List ℕ)) → is_in x old ≡ true → is_in x (own ++ filter (λ secret. not (list_any (bytes_eq secret) own)) old) ≡ true
old_signs x own old h = by_test (list_any (bytes_eq x) own) refl
  where
    by_test : (b : Bool) → list_any (bytes_eq x) own ≡ b → list_any (bytes_eq x) (own ++ filter (λ secret. not (list_any (bytes_eq secret) own)) old) ≡ true
    by_test true is = in_front x own _ is
    by_test false is = in_back x own _ (in_filter (λ secret. not (list_any (bytes_eq secret) own)) x old (ap not is) h)

-- ---- acceptance

satisfied : (k : Rules) → IsScheme k → (signed secret : List ℕ) (signers : List (List ℕ)) → k.secret_fits secret ≡ true → is_in secret signers ≡ true
    → list_any (is_by k signed (k.public_of secret)) (map (signature_of k signed) signers) ≡ true
satisfied k law signed secret [] fits h = cc
satisfied k law signed secret (x ∷ signers) fits h = by_test (bytes_eq secret x) refl h (satisfied k law signed secret signers fits)
  where
    own : is_by k signed (k.public_of secret) (signature_of k signed secret) ≡ true
    own = rw (bytes_eq-refl (key_id (k.public_of secret)), bytes_eq-refl k.method, law.tag_is_valid secret signed fits)

    by_test : (b : Bool) → bytes_eq secret x ≡ b → (b || list_any (bytes_eq secret) signers) ≡ true
        → (list_any (bytes_eq secret) signers ≡ true → list_any (is_by k signed (k.public_of secret)) (map (signature_of k signed) signers) ≡ true)
        → (is_by k signed (k.public_of secret) (signature_of k signed x) || list_any (is_by k signed (k.public_of secret)) (map (signature_of k signed) signers)) ≡ true
    by_test true is h more = or_left _ _ (ap (λ y. is_by k signed (k.public_of secret) (signature_of k signed y)) (sym ((bytes_decides secret x).0 is)) ∙ own)
    by_test false is h more = or_right _ _ (more h)

counted_from : {A : Type 0} (p : A → Bool) (n : ℕ) (xs : List A) → AllByRecursion (λ x. p x ≡ true) xs → fold (λ a x. a + cond (p x) 1 0) n xs ≡ n + length xs
counted_from p n [] h = omega arith
counted_from p n (x ∷ xs) h =
    ap (λ b. fold (λ a x. a + cond (p x) 1 0) (n + cond b 1 0) xs) h.0 ∙ counted_from p (n + 1) xs h.1 ∙ one_later n (length xs)
  where
    one_later : (n m : ℕ) → n + 1 + m ≡ n + suc m
    one_later n m = omega arith

each_satisfied : (k : Rules) → IsScheme k → (signed : List ℕ) (signers keys : List (List ℕ)) → list_all (secret_fits k) keys ≡ true → AllByRecursion (λ x. is_in x signers ≡ true) keys
    → AllByRecursion (λ p. is_satisfied k (sealed_envelope k signers signed) p ≡ true) (map k.public_of keys)
each_satisfied k law signed signers [] fits h = tt
each_satisfied k law signed signers (x ∷ keys) fits h = (
  satisfied k law signed x signers (and_right (is_from_to 1 256 (length x)) _ (and_left _ _ fits)) h.0,
  each_satisfied k law signed signers keys (and_right _ _ fits) h.1,
)

accepted : (k : Rules) → IsScheme k → (signed : List ℕ) (signers : List (List ℕ)) (role : RoleSecrets) → role_fits k role ≡ true → AllByRecursion (λ x. is_in x signers ≡ true) role.keys
    → IsAcceptedBy k (sealed_envelope k signers signed) role
accepted k law signed signers role fits h =
    let fit : list_all (secret_fits k) role.keys ≡ true = and_right (is_from_to 1 4 (length role.keys)) _ (and_left _ (is_none _) (and_left _ (threshold_fits role) fits)) in
    let counted = counted_from (is_satisfied k (sealed_envelope k signers signed)) 0 (map k.public_of role.keys) (each_satisfied k law signed signers role.keys fit h) in
    let size : length (map k.public_of role.keys) ≡ length role.keys = length-map role.keys k.public_of in
    let meets : nat_le role.threshold (length role.keys) ≡ true = and_right (nat_le 1 role.threshold) _ (and_right (keys_fit k role) _ fits) in
    ap (nat_le role.threshold) (counted ∙ plain _ ∙ size) ∙ meets
  where
    plain : (n : ℕ) → 0 + n ≡ n
    plain n = omega arith

-- ---- the roles of a repository whose keys fit

root_fits : (k : Rules) (keys : RepoKeys) → repository_fits k keys ≡ true → role_fits k keys.root ≡ true
root_fits k keys h = and_left _ _ (and_left _ _ (and_left _ _ h))

targets_fit : (k : Rules) (keys : RepoKeys) → repository_fits k keys ≡ true → role_fits k keys.targets ≡ true
targets_fit k keys h = and_right (role_fits k keys.root) _ (and_left _ _ (and_left _ _ h))

snapshot_fits : (k : Rules) (keys : RepoKeys) → repository_fits k keys ≡ true → role_fits k keys.snapshot ≡ true
snapshot_fits k keys h = and_right (role_fits k keys.root && role_fits k keys.targets) _ (and_left _ _ h)

timestamp_fits : (k : Rules) (keys : RepoKeys) → repository_fits k keys ≡ true → role_fits k keys.timestamp ≡ true
timestamp_fits k keys h = and_right (role_fits k keys.root && role_fits k keys.targets && role_fits k keys.snapshot) _ h

-- ---- Root files

root_sealed : (k : Rules) (repository : Repository) (number : ℕ) (root : Root) (before : Option KeySet)
    → root_text k repository number root before ≡ envelope_text (sealed_envelope k (root_signers repository root before) (text (root_payload (root_file k repository number root))))
unfolding root_text root_text_of sealed_text
root_sealed k repository number root before = refl

before_signs : (k : Rules) → IsScheme k → (repository : Repository) (root : Root) (signed : List ℕ) (before : Option KeySet) → IfSome before (HasFittingKeys k repository)
    → AllByRecursion (IsAcceptedBy k (sealed_envelope k (root_signers repository root before) signed)) (option_to_list (option_map (root_role repository) before))
before_signs k law repository root signed None fit = tt
before_signs k law repository root signed (Some before) fit = (
  accepted k law signed (root_signers repository root (Some before)) (root_role repository before) (root_fits k (keys_of repository before) fit)
      (each_weaker (λ x. is_in x (root_role repository before).keys ≡ true) (λ x. is_in x (root_signers repository root (Some before)) ≡ true)
      (λ x h. old_signs x (root_role repository root.keys).keys (root_role repository before).keys h) (root_role repository before).keys (each_in (root_role repository before).keys)),
  tt,
)

pub root_files_signed : RootFilesAreSigned
root_files_signed k repository number root before law fit fit_before =
    let signed = text (root_payload (root_file k repository number root)) in
    let own = (root_role repository root.keys).keys in
    record {
      envelope = sealed_envelope k (root_signers repository root before) signed;
      is = root_sealed k repository number root before;
      signed = refl;
      accepted = (
        accepted k law signed (root_signers repository root before) (root_role repository root.keys) (root_fits k (keys_of repository root.keys) fit)
            (each_weaker (λ x. is_in x own ≡ true) (λ x. is_in x (root_signers repository root before) ≡ true) (λ x h. in_front x own _ h) own (each_in own)),
        before_signs k law repository root signed before fit_before,
      );
    }

-- ---- Targets, Snapshot and Timestamp files

one_role : (k : Rules) → IsScheme k → (role : RoleSecrets) (payload : Data) (file_text : List ℕ) → role_fits k role ≡ true → file_text ≡ envelope_text (sealed_envelope k role.keys (text payload)) → IsSignedFor k (role ∷ []) payload file_text
one_role k law role payload file_text fits is = record {
  envelope = sealed_envelope k role.keys (text payload);
  is = is;
  signed = refl;
  accepted = (accepted k law (text payload) role.keys role fits (each_in role.keys), tt);
}

pub role_files_signed : RoleFilesAreSigned
unfolding targets_text snapshot_text timestamp_text targets_text_of snapshot_text_of timestamp_text_of sealed_text
role_files_signed k m law fits =
    let keys = keys_of m.repository m.keys in
    record {
      targets = one_role k law keys.targets (targets_payload (targets_file m)) (targets_text k m) (targets_fit k keys fits) refl;
      snapshot = one_role k law keys.snapshot (snapshot_payload (snapshot_file m)) (snapshot_text k m) (snapshot_fits k keys fits) refl;
      timestamp = one_role k law keys.timestamp (timestamp_payload (timestamp_file k m)) (timestamp_text k m) (timestamp_fits k keys fits) refl;
    }
