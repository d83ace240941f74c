-- The next Root that the machine serves is accepted by who trusts the one before it.
use Rattle.std.proofs.Common.{◌≡◌, ℕ, ◌+◌, ◌*◌, ◌≤◌, List, [], ◌∷◌, ◌++◌, Bool, true, false, not, Some, Ok, map, refl, sym, ap, ◌∙◌, arith}
use Rattle.std.specs.Prelude.{◌||◌, ◌&&◌, length, filter, bytes_eq, nat_le, option_to_list}
use Rattle.std.specs.List.{list_all, list_any}
use Rattle.std.proofs.lemmas.Bool.{and_parts, or_right, eq-eqb, leb-true}
use Rattle.std.proofs.lemmas.Bool.Decides.{nat_tests}
use Rattle.std.proofs.lemmas.List.Folds.{list_all-append, list_all-map}
use Rattle.up_canon.specs.Canon.{text}
use Rattle.up_canon.specs.Moments.{last_moment, last_command_moment}
use Rattle.up_canon.proofs.Printable.{both}
use Rattle.up_sign.specs.Envelopes.{sealed_envelope}
use Rattle.up_sign.specs.Hmac.{key_id}
use Rattle.up_sign.specs.Laws.{SealedFits, SealedIsAccepted}
use Rattle.up_sign.specs.Schemes.{Rules, IsScheme}
use Rattle.up_sign.proofs.Accepted.{bytes_eq-refl}
use Rattle.up_roles.specs.declared.repository.Repository.{Repository}
use Rattle.up_roles.specs.declared.repository.Repository.TheVariants.{Director, Image}
use Rattle.up_roles.specs.Laws.{RootsAreRead}
use Rattle.up_roles.specs.Payload.{largest_file, version_fits, is_moment}
use Rattle.up_roles.specs.Root.{all_keys, keys_agree, root_payload, root_in}
use Rattle.up_metadata.specs.declared.keys.RoleSecrets.{RoleSecrets}
use Rattle.up_metadata.specs.declared.keys.RepoKeys.{RepoKeys}
use Rattle.up_metadata.specs.Keys.{role_fits, repository_fits}
use Rattle.up_metadata.specs.Files.{Root, keys_of, root_key, role_keys, root_signers, root_file, root_text}
use Rattle.up_metadata.proofs.Lists.{and_right, all_weaker}
use Rattle.up_metadata.proofs.RoleFiles.{role_signs, secrets_fit, keys_are_few, roles_fit}
use Rattle.up_metadata.proofs.RootFiles.{root_file_is_fit, signers_seal}
use Rattle.up_verify.specs.Verifiers.{Verifier, is_known, are_known, is_signed_for}
use Rattle.up_verify.specs.Roots.{same_repository, or_unread, if_next, next_root}
use Rattle.up_primary.specs.Following.{all_secrets, can_read}
use Rattle.up_primary.proofs.Counting.{any_of_filter, any_of, signed_for}
use Rattle.up_verify.proofs.Steps.{go_ok, pass}

-- ---- what is known of the scheme and of the formats

pub record Known (k : Rules) : Type 0 where
  pub scheme : IsScheme k
  pub seals : SealedFits
  pub accepts : SealedIsAccepted
  pub roots_read : RootsAreRead

-- ---- among the signers

among_front : (xs ys zs : List (List ℕ)) → list_all (λ s. list_any (bytes_eq s) ys) xs ≡ true → list_all (λ s. list_any (bytes_eq s) (zs ++ ys)) xs ≡ true
among_front xs ys zs h = all_weaker (λ s. list_any (bytes_eq s) ys) (λ s. list_any (bytes_eq s) (zs ++ ys)) (λ s g. behind s zs g) xs h
  where
    behind : (s : List ℕ) (zs : List (List ℕ)) → list_any (bytes_eq s) ys ≡ true → list_any (bytes_eq s) (zs ++ ys) ≡ true
    behind s [] g = g
    behind s (z ∷ zs) g = or_right (bytes_eq s z) _ (behind s zs g)

-- each is among itself and more
pub among_own : (xs ys : List (List ℕ)) → list_all (λ s. list_any (bytes_eq s) (xs ++ ys)) xs ≡ true
among_own [] ys = refl
among_own (x ∷ xs) ys =
    both _ _ (ap (λ (t : Bool). t || list_any (bytes_eq x) (xs ++ ys)) (bytes_eq-refl x)) (among_front xs (xs ++ ys) (x ∷ []) (among_own xs ys))

in_front : (x : List ℕ) (xs ys : List (List ℕ)) → list_any (bytes_eq x) xs ≡ true → list_any (bytes_eq x) (xs ++ ys) ≡ true
in_front x [] ys h = cc
in_front x (z ∷ xs) ys h = by_test (bytes_eq x z) h (in_front x xs ys)
  where
    by_test : (b : Bool) → (b || list_any (bytes_eq x) xs) ≡ true → (list_any (bytes_eq x) xs ≡ true → list_any (bytes_eq x) (xs ++ ys) ≡ true) → (b || list_any (bytes_eq x) (xs ++ ys)) ≡ true
    by_test true h more = refl
    by_test false h more = more h

in_back : (x : List ℕ) (xs ys : List (List ℕ)) → list_any (bytes_eq x) ys ≡ true → list_any (bytes_eq x) (xs ++ ys) ≡ true
in_back x [] ys h = h
in_back x (z ∷ xs) ys h = or_right (bytes_eq x z) _ (in_back x xs ys h)

stays_in : (p : List ℕ → Bool) (x : List ℕ) (xs : List (List ℕ)) → p x ≡ true → list_any (bytes_eq x) xs ≡ true → list_any (bytes_eq x) (filter p xs) ≡ true
stays_in p x xs passes h = any_of_filter p (bytes_eq x) x xs passes (bytes_eq-refl x) h

-- each old key is: it is one of the new keys, or one of those that aren't
pub among_old : (own old some : List (List ℕ)) → list_all (λ s. list_any (bytes_eq s) old) some ≡ true
    → list_all (λ s. list_any (bytes_eq s) (own ++ filter (λ secret. not (list_any (bytes_eq secret) own)) old)) some ≡ true
among_old own old some h = all_weaker (λ s. list_any (bytes_eq s) old) _ (λ s g. by_test s (list_any (bytes_eq s) own) refl g) some h
  where
    by_test : (s : List ℕ) (b : Bool) → list_any (bytes_eq s) own ≡ b → list_any (bytes_eq s) old ≡ true → list_any (bytes_eq s) (own ++ filter (λ secret. not (list_any (bytes_eq secret) own)) old) ≡ true
    by_test s true is g = in_front s own _ is
    by_test s false is g = in_back s own _ (stays_in (λ secret. not (list_any (bytes_eq secret) own)) s old (ap not is) g)

append-none : (xs : List (List ℕ)) → xs ++ [] ≡ xs
append-none [] = refl
append-none (x ∷ xs) = ap (λ (rest : List (List ℕ)). x ∷ rest) (append-none xs)

pub among_itself : (xs : List (List ℕ)) → list_all (λ s. list_any (bytes_eq s) xs) xs ≡ true
among_itself xs = ap (λ ys. list_all (λ s. list_any (bytes_eq s) ys) xs) (sym (append-none xs)) ∙ among_own xs []

-- ---- keys

-- what can be read is known
key_known : (v : Verifier) (secret : List ℕ) → can_read v (v.rules.public_of secret) ≡ true → is_known v (root_key v.rules secret) ≡ true
key_known v secret h =
    both _ _ (bytes_eq-refl v.rules.method)
    (any_of (λ p. bytes_eq (key_id p) (key_id (v.rules.public_of secret)) && bytes_eq (v.rules.shown p) (v.rules.shown (v.rules.public_of secret))) (v.rules.public_of secret)
    (option_to_list (v.public_in (v.rules.shown (v.rules.public_of secret))) ++ v.held) (both _ _ (bytes_eq-refl (key_id (v.rules.public_of secret))) (bytes_eq-refl (v.rules.shown (v.rules.public_of secret)))) h)

role_known : (v : Verifier) (secrets : List (List ℕ)) → list_all (λ s. can_read v (v.rules.public_of s)) secrets ≡ true → list_all (is_known v) (map (root_key v.rules) secrets) ≡ true
role_known v secrets h = list_all-map (is_known v) (root_key v.rules) secrets ∙ all_weaker _ (λ s. is_known v (root_key v.rules s)) (key_known v) secrets h

-- of the keys of a repository, those of each role
pub record ReadRoles (v : Verifier) (keys : RepoKeys) : Type 0 where
  pub root : list_all (λ s. can_read v (v.rules.public_of s)) keys.root.keys ≡ true
  pub targets : list_all (λ s. can_read v (v.rules.public_of s)) keys.targets.keys ≡ true
  pub snapshot : list_all (λ s. can_read v (v.rules.public_of s)) keys.snapshot.keys ≡ true
  pub timestamp : list_all (λ s. can_read v (v.rules.public_of s)) keys.timestamp.keys ≡ true

pub read_roles : (v : Verifier) (keys : RepoKeys) → list_all (λ s. can_read v (v.rules.public_of s)) (all_secrets keys) ≡ true → ReadRoles v keys
read_roles v keys h =
    let p : List ℕ → Bool = λ s. can_read v (v.rules.public_of s) in
    let r = keys.root.keys in
    let t = keys.targets.keys in
    let s = keys.snapshot.keys in
    let m = keys.timestamp.keys in
    let a = and_parts (list_all p (r ++ t ++ s)) (list_all p m) (sym (list_all-append p (r ++ t ++ s) m) ∙ h) in
    let b = and_parts (list_all p (r ++ t)) (list_all p s) (sym (list_all-append p (r ++ t) s) ∙ a.0) in
    let c = and_parts (list_all p r) (list_all p t) (sym (list_all-append p r t) ∙ b.0) in
    record { root = c.0; targets = c.1; snapshot = b.1; timestamp = a.1 }

all_known : (v : Verifier) (repository : Repository) (i : ℕ) (root : Root) → ReadRoles v (keys_of repository root.keys) → are_known v (root_file v.rules repository i root) ≡ true
all_known v repository i root reads =
    let keys = keys_of repository root.keys in
    both _ _
    (both _ _
    (both _ _ (role_known v keys.root.keys reads.root) (role_known v keys.targets.keys reads.targets))
    (role_known v keys.snapshot.keys reads.snapshot))
    (role_known v keys.timestamp.keys reads.timestamp)

-- ---- signed

-- a role that fits, each of whose keys is among the signers
pub sealed_for : (v : Verifier) → Known v.rules → (role : RoleSecrets) (signers : List (List ℕ)) (signed : List ℕ) → role_fits v.rules role ≡ true
    → list_all (λ s. can_read v (v.rules.public_of s)) role.keys ≡ true → list_all (λ s. list_any (bytes_eq s) signers) role.keys ≡ true
    → is_signed_for v (role_keys v.rules role) (sealed_envelope v.rules signers signed) ≡ true
sealed_for v known role signers signed fits read among =
    let meets : nat_le role.threshold (length role.keys) ≡ true = and_right (nat_le 1 role.threshold) _ (and_right _ _ fits) in
    signed_for v role (sealed_envelope v.rules signers signed) read
    (known.accepts v.rules role.keys signers signed role.threshold known.scheme (secrets_fit v.rules role (role_signs v.rules role fits)) among (leb-true _ _ meets))

-- ---- the Root

pub same_one : (repository : Repository) → same_repository repository repository ≡ true
same_one Director = refl
same_one Image = refl

-- what a Root has to have to be served
pub record IsRoot (k : Rules) (repository : Repository) (i : ℕ) (root : Root) : Type 0 where
  pub fits : repository_fits k (keys_of repository root.keys) ≡ true
  pub moment : root.at ≤ last_command_moment
  pub number : version_fits i ≡ true
  pub agree : keys_agree (all_keys (root_file k repository i root)) ≡ true

year_later : (at : ℕ) → at ≤ last_command_moment → nat_le (at + 365 * 86400) last_moment ≡ true
year_later at h = grind (arith, nat_tests)

pub expires_in_time : (k : Rules) (repository : Repository) (i : ℕ) (root : Root) → root.at ≤ last_command_moment → is_moment (root_file k repository i root).expires ≡ true
expires_in_time k Director i root h = year_later root.at h
expires_in_time k Image i root h = year_later root.at h

pub root_read : (k : Rules) → Known k → (repository : Repository) (i : ℕ) (root before : Root) → IsRoot k repository i root → repository_fits k (keys_of repository before.keys) ≡ true
    → length (root_text k repository i root (Some before.keys)) ≤ largest_file
    → root_in (root_text k repository i root (Some before.keys))
    ≡ Ok (root_file k repository i root, sealed_envelope k (root_signers repository root (Some before.keys)) (text (root_payload (root_file k repository i root))))
unfolding root_text
root_read k known repository i root before is before_fits small =
    let own = (keys_of repository root.keys).root in
    let old = (keys_of repository before.keys).root in
    let old_signs = role_signs k old (roles_fit k (keys_of repository before.keys) before_fits).0 in
    let seal = signers_seal k own old.keys (roles_fit k (keys_of repository root.keys) is.fits).0 (record { fit = secrets_fit k old old_signs; few = (keys_are_few k old old_signs).1 }) in
    known.roots_read k (root_signers repository root (Some before.keys)) (root_file k repository i root)
    (record { scheme = known.scheme; fit = seal.fit; some = seal.number.0; few = seal.number.1 })
    (root_file_is_fit k known.scheme known.seals repository i root is.number is.fits) (expires_in_time k repository i root is.moment) is.agree small

pub next_is : (v : Verifier) → Known v.rules → (repository : Repository) (i : ℕ) (root before : Root) → IsRoot v.rules repository (i + 1) root
    → repository_fits v.rules (keys_of repository before.keys) ≡ true
    → ReadRoles v (keys_of repository root.keys) → ReadRoles v (keys_of repository before.keys)
    → length (root_text v.rules repository (i + 1) root (Some before.keys)) ≤ largest_file
    → next_root v repository (root_file v.rules repository i before) (root_text v.rules repository (i + 1) root (Some before.keys)) ≡ Ok (root_file v.rules repository (i + 1) root)
unfolding next_root if_next
next_is v known repository i root before is before_fits reads reads_before small =
    let own = (keys_of repository root.keys).root in
    let old = (keys_of repository before.keys).root in
    let signed = text (root_payload (root_file v.rules repository (i + 1) root)) in
    go_ok _ _ _ _ (ap or_unread (root_read v.rules known repository (i + 1) root before is before_fits small))
    (pass _ _ _ _ (same_one repository)
    (pass _ _ _ _ (eq-eqb (i + 1) (i + 1) refl)
    (pass _ _ _ _ (all_known v repository (i + 1) root reads)
    (pass _ _ _ _ (sealed_for v known old (root_signers repository root (Some before.keys)) signed (roles_fit v.rules (keys_of repository before.keys) before_fits).0 reads_before.root (among_old own.keys old.keys old.keys (among_itself old.keys)))
    (pass _ _ _ _ (sealed_for v known own (root_signers repository root (Some before.keys)) signed (roles_fit v.rules (keys_of repository root.keys) is.fits).0 reads.root (among_own own.keys _))
    refl)))))
