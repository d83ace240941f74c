-- What enough keys of a safe role have signed, the machine has signed.
use Rattle.std.proofs.Common.{◌≡◌, ℕ, ◌<◌, ◌≤◌, List, [], ◌∷◌, ◌++◌, Bool, true, false, Some, refl, ap, ◌∙◌, arith}
use Rattle.std.specs.Prelude.{◌||◌, ◌&&◌, IsTrue, bytes_eq, nat_lt, count_by, option_to_list}
use Rattle.std.specs.List.{AllByRecursion, list_any}
use Rattle.std.specs.Cmp.Lexicographic.{bytes_decides}
use Rattle.std.proofs.lemmas.Bool.{or_right, leb-true}
use Rattle.std.proofs.lemmas.Bool.Decides.{nat_tests}
use Rattle.up_sign.specs.Envelopes.{is_satisfied}
use Rattle.up_sign.specs.Hmac.{key_id}
use Rattle.up_sign.specs.declared.envelope.Envelope.{Envelope}
use Rattle.up_sign.proofs.Accepted.{bytes_eq-refl}
use Rattle.up_roles.specs.declared.repository.Repository.{Repository}
use Rattle.up_roles.specs.declared.root.RootKey.{RootKey}
use Rattle.up_roles.specs.declared.root.RoleKeys.{RoleKeys}
use Rattle.up_roles.specs.declared.root.RootFile.{RootFile}
use Rattle.up_roles.specs.Root.{all_keys}
use Rattle.up_metadata.specs.Files.{Root, root_file}
use Rattle.up_metadata.proofs.Lists.{each_weaker}
use Rattle.up_machine.specs.State.{empty_state, nth}
use Rattle.up_machine.specs.Machine.{Timed}
use Rattle.up_machine.specs.Made.{roots_of}
use Rattle.up_verify.specs.Verifiers.{Verifier, has_signed, is_signed_for}
use Rattle.up_primary.specs.Forging.{WasSigned, IsEnvelopeOf, IsUnforged, is_safe}
use Rattle.up_primary.proofs.Counting.{one_alone}

-- ---- what a test finds

any_both : {A : Type 0} (p q : A → Bool) (xs : List A) → list_any (λ x. p x && q x) xs ≡ true → (x : A) × (p x ≡ true) × (q x ≡ true)
any_both p q [] h = cc
any_both {A = A} p q (x ∷ xs) h = by_tests (p x) (q x) refl refl h (any_both p q xs)
  where
    by_tests : (a b : Bool) → p x ≡ a → q x ≡ b → ((a && b) || list_any (λ x. p x && q x) xs) ≡ true → (list_any (λ x. p x && q x) xs ≡ true → (y : A) × (p y ≡ true) × (q y ≡ true)) → (y : A) × (p y ≡ true) × (q y ≡ true)
    by_tests true true is it h more = (x, is, it)
    by_tests true false is it h more = more h
    by_tests false b is it h more = more h

-- ---- keys of the Root

abbrev IsOf : List RootKey → RootKey → Type 0
IsOf keys key = IsTrue (list_any (λ x. bytes_eq x.keyid key.keyid) keys)

of_front : (key : RootKey) (xs ys : List RootKey) → IsOf xs key → IsOf (xs ++ ys) key
of_front key [] ys h = cc
of_front key (x ∷ xs) ys h = by_test (bytes_eq x.keyid key.keyid) h (of_front key xs ys)
  where
    by_test : (b : Bool) → (b || list_any (λ x. bytes_eq x.keyid key.keyid) xs) ≡ true → (IsOf xs key → IsOf (xs ++ ys) key) → (b || list_any (λ x. bytes_eq x.keyid key.keyid) (xs ++ ys)) ≡ true
    by_test true h more = refl
    by_test false h more = more h

of_back : (key : RootKey) (xs ys : List RootKey) → IsOf ys key → IsOf (xs ++ ys) key
of_back key [] ys h = h
of_back key (x ∷ xs) ys h = or_right (bytes_eq x.keyid key.keyid) _ (of_back key xs ys h)

each_of : (keys : List RootKey) → AllByRecursion (IsOf keys) keys
each_of [] = tt
each_of (x ∷ keys) = (
  ap (λ (b : Bool). b || list_any (λ y. bytes_eq y.keyid x.keyid) keys) (bytes_eq-refl x.keyid),
  each_weaker (IsOf keys) (IsOf (x ∷ keys)) (λ key h. or_right (bytes_eq x.keyid key.keyid) _ h) keys (each_of keys),
)

pub of_root : (file : RootFile) → AllByRecursion (IsOf (all_keys file)) file.root.keys
of_root file = each_weaker (IsOf file.root.keys) (IsOf (all_keys file))
    (λ key h. of_front key (file.root.keys ++ file.targets.keys ++ file.snapshot.keys) file.timestamp.keys (of_front key (file.root.keys ++ file.targets.keys) file.snapshot.keys (of_front key file.root.keys file.targets.keys h)))
    file.root.keys (each_of file.root.keys)

pub of_targets : (file : RootFile) → AllByRecursion (IsOf (all_keys file)) file.targets.keys
of_targets file = each_weaker (IsOf file.targets.keys) (IsOf (all_keys file))
    (λ key h. of_front key (file.root.keys ++ file.targets.keys ++ file.snapshot.keys) file.timestamp.keys (of_front key (file.root.keys ++ file.targets.keys) file.snapshot.keys (of_back key file.root.keys file.targets.keys h)))
    file.targets.keys (each_of file.targets.keys)

pub of_timestamp : (file : RootFile) → AllByRecursion (IsOf (all_keys file)) file.timestamp.keys
of_timestamp file = each_weaker (IsOf file.timestamp.keys) (IsOf (all_keys file)) (λ key h. of_back key (file.root.keys ++ file.targets.keys ++ file.snapshot.keys) file.timestamp.keys h) file.timestamp.keys (each_of file.timestamp.keys)

-- ---- signed

pub machine_signed : (v : Verifier) (ts : List Timed) (stolen : List ℕ → Bool) (bytes : List ℕ) → IsUnforged v.rules ts stolen bytes → (repository : Repository) (i : ℕ) (root : Root) → nth (roots_of v.rules empty_state ts) i ≡ Some root
    → (role : RoleKeys) → AllByRecursion (IsOf (all_keys (root_file v.rules repository i root))) role.keys → IsTrue (is_safe stolen role) → (e : Envelope) → IsEnvelopeOf bytes e → is_signed_for v role e ≡ true
    → WasSigned v.rules ts e.signed
machine_signed v ts stolen bytes unforged repository i root there role of safe e came signed =
    let enough : role.threshold ≤ count_by (has_signed v e) role.keys = leb-true _ _ signed in
    let few : count_by (λ (key : RootKey). stolen key.keyid) role.keys < role.threshold = below (count_by (λ (key : RootKey). stolen key.keyid) role.keys) role.threshold safe in
    let key = one_alone (IsOf (all_keys (root_file v.rules repository i root))) (has_signed v e) (λ (key : RootKey). stolen key.keyid) role.keys of (omega (arith, enough, few)) in
    let public = any_both (λ p. bytes_eq (key_id p) key.0.keyid) (is_satisfied v.rules e) (option_to_list (v.public_in key.0.shown) ++ v.held) key.2 in
    let id : key_id public.0 ≡ key.0.keyid = (bytes_decides (key_id public.0) key.0.keyid).0 public.1 in
    unforged e public.0 came
    (repository, i, root, there, ap (λ n. list_any (λ (x : RootKey). bytes_eq x.keyid n) (all_keys (root_file v.rules repository i root))) id ∙ key.1)
    (ap stolen id ∙ key.3) public.2
  where
    below : (m n : ℕ) → IsTrue (nat_lt m n) → m < n
    below m n h = grind (arith, nat_tests)
