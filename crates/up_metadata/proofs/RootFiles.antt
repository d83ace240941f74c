-- Root files of keys that fit are within their limits, and so are their signers.
use Rattle.std.proofs.Common.{◌≡◌, ℕ, suc, ◌≤◌, List, [], ◌∷◌, ◌++◌, Bool, true, false, cond, not, Option, Some, None, refl, ap, ◌∙◌, arith}
use Rattle.std.specs.Prelude.{◌&&◌, ⊤, length, map, filter, bytes_eq, is_none, option_copied, IsTrue, MatchOption}
use Rattle.std.specs.List.{list_all, list_any}
use Rattle.std.proofs.lemmas.List.{length-map, length-append}
use Rattle.std.proofs.lemmas.List.Folds.{list_all-append, list_all-map}
use Rattle.up_canon.specs.Names.{is_from_to, is_short_text, first_repeated, are_distinct}
use Rattle.up_canon.proofs.Printable.{both}
use Rattle.up_sign.specs.Schemes.{Rules, IsScheme}
use Rattle.up_sign.specs.Formats.{signature_fits}
use Rattle.up_sign.specs.Envelopes.{identifier, signature_of}
use Rattle.up_sign.specs.Laws.{SealedFits}
use Rattle.up_roles.specs.declared.repository.Repository.{Repository}
use Rattle.up_roles.specs.declared.root.RootKey.{RootKey}
use Rattle.up_roles.specs.Payload.{version_fits}
use Rattle.up_roles.specs.Writing.{CanSeal}
use Rattle.up_roles.specs.Root.{key_fits, role_fits as root_role_fits, root_fits as root_file_fits, root_text_of}
use Rattle.up_metadata.proofs.Lists.{and_left, and_right, all_weaker, all_of_filter}
use Rattle.up_metadata.proofs.RoleFiles.{role_signs, secrets_fit, keys_are_few, roles_fit}
use Rattle.up_metadata.specs.declared.keys.RoleSecrets.{RoleSecrets}
use Rattle.up_metadata.specs.declared.keys.KeySet.{KeySet}
use Rattle.up_metadata.specs.Keys.{secret_fits, keys_fit, threshold_fits, role_fits, repository_fits, can_sign}
use Rattle.up_metadata.specs.Files.{Root, keys_of, root_key, role_keys, root_file, root_secrets, root_text}
use denote.Ref.{Bor}

-- ---- the keys that a Root file shows

root_key_fits : (k : Rules) → IsScheme k → SealedFits → (secret : List ℕ) → secret_fits k secret ≡ true → key_fits (root_key k secret) ≡ true
root_key_fits k law sealed_fits secret fits =
    let fit : k.secret_fits secret ≡ true = and_right (is_from_to 1 256 (length secret)) _ fits in
    let envelope = sealed_fits k (secret ∷ []) [] law (both (k.secret_fits secret) true fit refl) (omega arith) (omega arith) in
    let signature : signature_fits (signature_of k [] secret) ≡ true = and_left _ true (and_right (is_from_to 1 8 1) _ envelope.0) in
    both _ _ (both _ _ (and_left (is_short_text 1 128 (identifier k secret)) _ signature) law.method) (law.shown (k.public_of secret))

identifiers : (k : Rules) (secrets : List (List ℕ)) → map (λ (key : RootKey). key.keyid) (map (root_key k) secrets) ≡ map (identifier k) secrets
identifiers k [] = refl
identifiers k (x ∷ secrets) = ap (λ (rest : List (List ℕ)). identifier k x ∷ rest) (identifiers k secrets)

role_keys_fit : (k : Rules) → IsScheme k → SealedFits → (role : RoleSecrets) → role_fits k role ≡ true → root_role_fits (role_keys k role) ≡ true
role_keys_fit k law sealed_fits role fits =
    let size : length (map (root_key k) role.keys) ≡ length role.keys = length-map role.keys (root_key k) in
    let keys : keys_fit k role ≡ true = and_left _ (threshold_fits role) fits in
    let each : list_all (secret_fits k) role.keys ≡ true = and_right (is_from_to 1 4 (length role.keys)) _ (and_left _ (is_none _) keys) in
    let number : is_from_to 1 4 (length role.keys) ≡ true = and_left _ (list_all (secret_fits k) role.keys) (and_left _ (is_none _) keys) in
    let once : is_none (first_repeated (map (identifier k) role.keys)) ≡ true = and_right (is_from_to 1 4 (length role.keys) && list_all (secret_fits k) role.keys) _ keys in
    let distinct : are_distinct (map (λ (key : RootKey). key.keyid) (map (root_key k) role.keys)) ≡ true = ap are_distinct (identifiers k role.keys) ∙ once in
    let meets : is_from_to 1 (length (map (root_key k) role.keys)) role.threshold ≡ true = ap (λ n. is_from_to 1 n role.threshold) size ∙ and_right (keys_fit k role) _ fits in
    let shown : list_all key_fits (map (root_key k) role.keys) ≡ true =
    list_all-map key_fits (root_key k) role.keys ∙ all_weaker (secret_fits k) (λ s. key_fits (root_key k s)) (root_key_fits k law sealed_fits) role.keys each in
    both _ _ (both _ _ (ap (is_from_to 1 4) size ∙ number) (both _ _ distinct meets)) shown

pub root_file_is_fit : (k : Rules) → IsScheme k → SealedFits → (repository : Repository) (number : ℕ) (root : Root) → IsTrue (version_fits number) → IsTrue (repository_fits k (keys_of repository root.keys))
    → IsTrue (root_file_fits (root_file k repository number root))
root_file_is_fit k law sealed_fits repository number root version fits =
    let keys = keys_of repository root.keys in
    let roles = roles_fit k keys fits in
    both _ _ (both _ _ (both _ _ (both _ _ version (role_keys_fit k law sealed_fits keys.root roles.0)) (role_keys_fit k law sealed_fits keys.targets roles.1))
    (role_keys_fit k law sealed_fits keys.snapshot roles.2)) (role_keys_fit k law sealed_fits keys.timestamp roles.3)

-- ---- the signers

-- secrets that fit, and few of them
pub record AreFew (k : Rules) (secrets : List (List ℕ)) : Type 0 where
  pub fit : list_all k.secret_fits secrets ≡ true
  pub few : length secrets ≤ 4

pub old_are_few : (k : Rules) (repository : Repository) (before : Option (Bor KeySet)) → MatchOption before ⊤ (λ b. IsTrue (can_sign k (keys_of repository b.now).root))
    → AreFew k (root_secrets repository (option_copied before))
old_are_few k repository None h = record { fit = refl; few = omega arith }
old_are_few k repository (Some b) h =
    let root = (keys_of repository b.now).root in
    record { fit = secrets_fit k root h; few = (keys_are_few k root h).1 }

filter_is_shorter : {A : Type 0} (p : A → Bool) (xs : List A) → length (filter p xs) ≤ length xs
filter_is_shorter p [] = omega arith
filter_is_shorter p (x ∷ xs) = by_test (p x) (filter_is_shorter p xs)
  where
    by_test : (b : Bool) → length (filter p xs) ≤ length xs → length (cond b (x ∷ filter p xs) (filter p xs)) ≤ suc (length xs)
    by_test true h = omega (arith, h)
    by_test false h = omega (arith, h)

abbrev pub others : List (List ℕ) → List (List ℕ) → List (List ℕ)
others own old = filter (λ secret. not (list_any (bytes_eq secret) own)) old

signers_fit : (k : Rules) (role : RoleSecrets) (old : List (List ℕ)) → IsTrue (role_fits k role) → AreFew k old → IsTrue (list_all k.secret_fits (role.keys ++ others role.keys old))
signers_fit k role old fits before =
    list_all-append k.secret_fits role.keys (others role.keys old)
    ∙ both _ _ (secrets_fit k role (role_signs k role fits)) (all_of_filter k.secret_fits (λ secret. not (list_any (bytes_eq secret) role.keys)) old before.fit)

signers_are_few : (k : Rules) (role : RoleSecrets) (old : List (List ℕ)) → IsTrue (role_fits k role) → AreFew k old
    → (1 ≤ length (role.keys ++ others role.keys old)) × (length (role.keys ++ others role.keys old) ≤ 8)
signers_are_few k role old fits before =
    let own = keys_are_few k role (role_signs k role fits) in
    let size = length-append role.keys (others role.keys old) in
    let shorter = filter_is_shorter (λ secret. not (list_any (bytes_eq secret) role.keys)) old in
    let few = before.few in
    (omega (arith, own.0, own.1, size, shorter, few), omega (arith, own.0, own.1, size, shorter, few))

pub signers_seal : (k : Rules) (role : RoleSecrets) (old : List (List ℕ)) → IsTrue (role_fits k role) → AreFew k old → CanSeal k (role.keys ++ others role.keys old)
signers_seal k role old fits before = record { fit = signers_fit k role old fits before; number = signers_are_few k role old fits before }

-- ---- the text

pub root_text_is : (k : Rules) (repository : Repository) (number : ℕ) (root : Root) (before : Option KeySet)
    → root_text_of k ((keys_of repository root.keys).root.keys ++ others (keys_of repository root.keys).root.keys (root_secrets repository before)) (root_file k repository number root) ≡ root_text k repository number root before
unfolding root_text
root_text_is k repository number root before = refl
