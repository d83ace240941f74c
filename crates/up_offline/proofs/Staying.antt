-- What is published is trusted.
use Rattle.std.proofs.Common.{◌≡◌, ℕ, suc, ◌+◌, ◌-◌, ◌≤◌, ◌<◌, ◌++◌, List, [], ◌∷◌, Bool, true, false, Option, Some, None, Result, Ok, ◌⊎◌, inl, inr, length, refl, sym, ap, ap₂, ◌∙◌, subst, arith}
use Rattle.std.specs.Prelude.{⊤, MatchResult, ◌&&◌, ◌||◌, ◌==◌, nat_le, map, filter_map, bytes_eq, slice_get, is_some, if◌then◌else◌, unwrap_or, option_map, option_and_then}
use Rattle.std.specs.Cmp.Lexicographic.{pointwise, bytes_decides}
use Rattle.std.specs.List.{AllByRecursion, list_all, list_any, cons_option}
use Rattle.std.proofs.lemmas.Bool.{leb-true}
use Rattle.std.proofs.lemmas.Bool.Decides.{nat_tests}
use Rattle.std.proofs.lemmas.List.{length-map}
use Rattle.up_canon.specs.Canon.{text}
use Rattle.up_canon.specs.Names.{is_from_to, are_distinct}
use Rattle.up_canon.specs.Steps.{◌>>=◌, unless}
use Rattle.up_canon.proofs.Steps.{first_ok, same_ok, unless_ok, one_value}
use Rattle.up_sign.specs.Schemes.{IsScheme}
use Rattle.up_sign.specs.Hmac.{key_id}
use Rattle.up_sign.specs.Envelopes.{is_accepted, sealed_envelope}
use Rattle.up_sign.specs.Laws.{SealedIsAccepted}
use Rattle.up_sign.specs.declared.envelope.Envelope.{Envelope}
use Rattle.up_sign.proofs.Accepted.{bytes_eq-refl}
use Rattle.up_roles.specs.declared.repository.Repository.{Repository}
use Rattle.up_roles.specs.declared.repository.Repository.TheVariants.{Director, Image}
use Rattle.up_roles.specs.declared.root.RootKey.{RootKey}
use Rattle.up_roles.specs.declared.root.RoleKeys.{RoleKeys}
use Rattle.up_roles.specs.declared.root.RootFile.{RootFile}
use Rattle.up_roles.specs.declared.targets.TargetsFile.{TargetsFile}
use Rattle.up_roles.specs.Laws.{MeaningLaws}
use Rattle.up_roles.specs.Meaning.{MeansFile, MeansRoot}
use Rattle.up_sign.specs.Laws.{IsTextFault}
use Rattle.up_roles.specs.Lifetimes.{lifetimes}
use Rattle.up_roles.specs.Payload.{sealed_text, version_fits}
use Rattle.up_roles.specs.Root.{root_in, role_fits, role_is_met, key_fits, root_fits}
use Rattle.up_roles.specs.Snapshot.{snapshot_payload, snapshot_text_of}
use Rattle.up_roles.specs.Timestamp.{timestamp_payload, timestamp_text_of}
use Rattle.up_roles.specs.Targets.{targets_in}
use Rattle.up_metadata.specs.declared.keys.RoleSecrets.{RoleSecrets}
use Rattle.up_metadata.specs.declared.keys.RepoKeys.{RepoKeys}
use Rattle.up_metadata.specs.declared.role_files.RoleTexts.{RoleTexts}
use Rattle.up_metadata.specs.Files.{root_key, role_keys}
use Rattle.up_metadata.specs.Keys.{secret_fits}
use Rattle.up_metadata.proofs.Lists.{and_left, and_right, each_weaker, all_weaker, all_pass}
use Rattle.up_machine.specs.State.{nth}
use Rattle.up_brought.specs.declared.fault.Fault.{Fault}
use Rattle.up_brought.specs.declared.fault.Fault.TheVariants.{OtherKeys}
use Rattle.up_shown.specs.Showing.{Showing, ShowsKeys}
use Rattle.up_brought.specs.Shown.{if_named, public_of, accepts, files_are_apart}
use Rattle.up_brought.specs.Brought.{offline}
use Rattle.up_offline.specs.State.{Chain, State, is_offline, is_founded, last_root}
use Rattle.up_offline.specs.Making.{MetadataSet, Listing, image_metadata, image_targets, snapshot_file, snapshot_text, timestamp_file, timestamp_text, with_files}
use Rattle.up_brought.specs.declared.brought.BroughtRoot.{BroughtRoot}
use Rattle.up_brought.specs.Brought.{root_read, value_or_none, accepted_before, same_key, same_target, are_secrets_of, held, held_keys, none_may_be_held}
use Rattle.up_offline.specs.Publications.{Publication, next_chain, chain_with, read_apart, are_apart}
use Rattle.up_offline.specs.Repositories.{Found, Rotate, Publish, AddImage, Refresh, decide_publish, decide_refresh, refreshed, stamped}
use Rattle.up_offline.specs.Trusted.{IsRoot, AreRoots, Holds, HoldsDirector, HoldsImage, IsSigned, IsTrusted}
use Rattle.up_offline.specs.Laws.{IsNewOrTrusted, PublishedIsTrusted}
use Rattle.up_offline.proofs.Decided.{Come, stayed, came, made, IsListed, IsReadRoot, keys_ok, publish_ok, refresh_ok}

-- what is known of the crates below
pub record Lower : Type 0 where
  pub accepted : SealedIsAccepted
  pub meaning : MeaningLaws

-- ---- keys

-- the public part of a secret's key is read as it is shown
shown_public : (k : Showing) → ShowsKeys k → (s : List ℕ) → k.rules.secret_fits s ≡ true → public_of k (root_key k.rules s) ≡ Some (k.rules.public_of s)
shown_public k shows s fits =
    ap (option_and_then (if_named k (root_key k.rules s))) (shows s fits)
    ∙ ap (λ b. if b then Some (k.rules.public_of s) else None) (ap₂ (λ a b. a && b) (bytes_eq-refl (key_id (k.rules.public_of s))) (bytes_eq-refl k.rules.method))

shown_publics : (k : Showing) → ShowsKeys k → (secrets : List (List ℕ)) → list_all (secret_fits k.rules) secrets ≡ true
    → filter_map (public_of k) (map (root_key k.rules) secrets) ≡ map k.rules.public_of secrets
shown_publics k shows [] fit = refl
shown_publics k shows (s ∷ secrets) fit =
    ap₂ cons_option (shown_public k shows s (and_right (is_from_to 1 256 (length s)) _ (and_left _ (list_all (secret_fits k.rules) secrets) fit)))
    (shown_publics k shows secrets (and_right (secret_fits k.rules s) _ fit))

each_in : (xs : List (List ℕ)) → AllByRecursion (λ x. list_any (bytes_eq x) xs ≡ true) xs
each_in [] = tt
each_in (x ∷ xs) = (
  first _ _ (bytes_eq-refl x),
  each_weaker (λ y. list_any (bytes_eq y) xs ≡ true) (λ y. list_any (bytes_eq y) (x ∷ xs) ≡ true) (λ y h. second (bytes_eq y x) _ h) xs (each_in xs),
)
  where
    first : (a b : Bool) → a ≡ true → (a || b) ≡ true
    first true b h = refl
    first false b h = cc

    second : (a b : Bool) → b ≡ true → (a || b) ≡ true
    second true b h = refl
    second false b h = h

-- a role accepts what its secrets seal
accepts_made : Lower → (k : Showing) → IsScheme k.rules → ShowsKeys k → (role : RoleSecrets) (listed : RoleKeys) (signed : List ℕ) → Holds k role listed → role_fits listed ≡ true
    → accepts k listed (sealed_envelope k.rules role.keys signed) ≡ true
accepts_made lower k law shows role listed signed holds fits =
    let one : (r : RoleKeys) → role_keys k.rules role ≡ r → role_fits r ≡ true → accepts k r (sealed_envelope k.rules role.keys signed) ≡ true =
    λ r same fit. subst (λ (r : RoleKeys). accepts k r (sealed_envelope k.rules role.keys signed) ≡ true) same (own (subst (λ (r : RoleKeys). role_fits r ≡ true) (sym same) fit)) in
    one listed holds.same fits
  where
    own : role_fits (role_keys k.rules role) ≡ true → accepts k (role_keys k.rules role) (sealed_envelope k.rules role.keys signed) ≡ true
    own fit =
        let met : role_is_met (role_keys k.rules role) ≡ true = and_right (is_from_to 1 4 (length (map (root_key k.rules) role.keys))) (role_is_met (role_keys k.rules role))
        (and_left (is_from_to 1 4 (length (map (root_key k.rules) role.keys)) && role_is_met (role_keys k.rules role)) (list_all key_fits (map (root_key k.rules) role.keys)) fit) in
        let range : is_from_to 1 (length (map (root_key k.rules) role.keys)) role.threshold ≡ true = and_right (are_distinct (map (λ (key : RootKey). key.keyid) (map (root_key k.rules) role.keys))) (is_from_to 1 (length (map (root_key k.rules) role.keys)) role.threshold) met in
        let few : role.threshold ≤ length (map (root_key k.rules) role.keys) = leb-true role.threshold (length (map (root_key k.rules) role.keys)) (and_right (nat_le 1 role.threshold) (nat_le role.threshold (length (map (root_key k.rules) role.keys))) range) in
        ap (λ (ps : List (List ℕ)). is_accepted k.rules ps role.threshold (sealed_envelope k.rules role.keys signed)) (shown_publics k shows role.keys holds.fit)
        ∙ lower.accepted k.rules role.keys role.keys signed role.threshold law
        (all_weaker (secret_fits k.rules) k.rules.secret_fits (λ s h. and_right (is_from_to 1 256 (length s)) _ h) role.keys holds.fit)
        (all_pass (λ x. list_any (bytes_eq x) role.keys) role.keys (each_in role.keys)) (subst (λ (n : ℕ). role.threshold ≤ n) (length-map role.keys (root_key k.rules)) few)

same_root_key : (a b : RootKey) → same_key a b ≡ true → a ≡ b
same_root_key a b h =
    let keyid : a.keyid ≡ b.keyid = (bytes_decides a.keyid b.keyid).0 (and_left _ _ (and_left _ (bytes_eq a.shown b.shown) h)) in
    let method : a.method ≡ b.method = (bytes_decides a.method b.method).0 (and_right (bytes_eq a.keyid b.keyid) _ (and_left _ (bytes_eq a.shown b.shown) h)) in
    let shown : a.shown ≡ b.shown = (bytes_decides a.shown b.shown).0 (and_right (bytes_eq a.keyid b.keyid && bytes_eq a.method b.method) _ h) in
    λ i. record { keyid = keyid i; method = method i; shown = shown i }

same_root_keys : (xs ys : List RootKey) → pointwise same_key xs ys ≡ true → xs ≡ ys
same_root_keys [] [] h = refl
same_root_keys [] (y ∷ ys) h = cc
same_root_keys (x ∷ xs) [] h = cc
same_root_keys (x ∷ xs) (y ∷ ys) h = ap₂ (λ (a : RootKey) (bs : List RootKey). a ∷ bs) (same_root_key x y (and_left _ _ h)) (same_root_keys xs ys (and_right (same_key x y) _ h))

held_by : (k : Showing) (listed : RoleKeys) (secrets : List (List ℕ)) → are_secrets_of k listed secrets ≡ true → Holds k (record { keys = secrets; threshold = listed.threshold }) listed
held_by k listed secrets h = record {
  fit = and_left _ (pointwise same_key (map (root_key k.rules) secrets) listed.keys) h;
  same = ap with_keys (same_root_keys _ _ (and_right (list_all (secret_fits k.rules) secrets) _ h));
}
  where
    with_keys : List RootKey → RoleKeys
    with_keys ks = record { keys = ks; threshold = listed.threshold }

-- the secrets of a role of a new Root: those of the keys that it lists, or none, where there may be none
held_ok : (k : Showing) (may : Bool) (name : List ℕ) (listed : RoleKeys) (present : RoleSecrets) (given : Option (List (List ℕ))) (role : RoleSecrets)
    → held k may name listed present given ≡ Ok role → ((may ≡ true) × (is_offline role ≡ true)) ⊎ Holds k role listed
unfolding held
held_ok k may name listed present given role h = by_test (may && (length (unwrap_or given present.keys) == 0)) refl h
  where
    secrets : List (List ℕ)
    secrets = unwrap_or given present.keys

    by_test : (b : Bool) → (may && (length (unwrap_or given present.keys) == 0)) ≡ b
        → ◌≡◌ {A = Result RoleSecrets Fault} (if b then Ok offline else (unless (are_secrets_of k listed (unwrap_or given present.keys)) (OtherKeys name) >>= λ other. Ok (record { keys = unwrap_or given present.keys; threshold = listed.threshold }))) (Ok role)
        → ((may ≡ true) × (is_offline role ≡ true)) ⊎ Holds k role listed
    by_test true is h = inl (and_left may _ is, ap is_offline (sym (same_ok offline role h)))
    by_test false is h = inr (first_ok _ _ _ _ h (λ a keys h. subst (λ (r : RoleSecrets). Holds k r listed) (same_ok _ _ h) (held_by k listed (unwrap_or given present.keys) (unless_ok _ _ a keys))))

always_held : (k : Showing) (name : List ℕ) (listed : RoleKeys) (present : RoleSecrets) (given : Option (List (List ℕ))) (role : RoleSecrets) → held k false name listed present given ≡ Ok role → Holds k role listed
always_held k name listed present given role h = elim (held_ok k false name listed present given role h) [
  | inl none ↦ absurd (let no : false ≡ true = none.0 in cc)
  | inr holds ↦ holds
]

-- ---- root versions

-- what is read of the last root version
last_read : (k : Showing) (r : Repository) (n : ℕ) (before : Option RootFile) (t : List ℕ) (ts : List (List ℕ)) (last : RootFile) → AreRoots k r n before (t ∷ ts) last
    → (served : List ℕ) × (slice_get (t ∷ ts) (length ts) ≡ Some served) × (root_read served ≡ Some last)
last_read k r n before t [] last (file, is, same) = (t, refl, ap (λ x. option_map (λ read. read.0) (value_or_none x)) is.read ∙ same)
last_read k r n before t (u ∷ us) last (file, is, more) = let found = last_read k r (suc n) (Some file) u us last more in (found.0, found.1, found.2)

nth_last : (t : List ℕ) (ts : List (List ℕ)) → nth (t ∷ ts) (length (t ∷ ts)) ≡ slice_get (t ∷ ts) (length ts)
nth_last t ts = nth_suc (t ∷ ts) (length ts)
  where
    nth_suc : (xs : List (List ℕ)) (n : ℕ) → nth xs (suc n) ≡ slice_get xs n
    nth_suc xs n =
        let some : (suc n == 0) ≡ false = grind (arith, nat_tests) in
        let before : suc n - 1 ≡ n = omega arith in
        ap₂ (λ b (m : ℕ). if b then None else slice_get xs m) some before

one_more_root : (k : Showing) (r : Repository) (n : ℕ) (before : Option RootFile) (ts : List (List ℕ)) (last : RootFile) (served : List ℕ) (file : RootFile)
    → AreRoots k r n before ts last → IsRoot k r (n + length ts) (Some last) served file → AreRoots k r n before (ts ++ served ∷ []) file
one_more_root k r n before [] last served file same is =
    (file, subst (λ (b : Option RootFile). IsRoot k r n b served file) (sym same) (subst (λ (m : ℕ). IsRoot k r m (Some last) served file) (plain n) is), refl)
  where
    plain : (n : ℕ) → n + 0 ≡ n
    plain n = omega arith
one_more_root k r n before (t ∷ ts) last served file (f, is, more) new =
    (f, is, one_more_root k r (suc n) (Some f) ts last served file more (subst (λ (m : ℕ). IsRoot k r m (Some last) served file) (later n (length ts)) new))
  where
    later : (n m : ℕ) → n + suc m ≡ suc n + m
    later n m = omega arith

-- what was there of a repository: nothing, or root versions and the keys that are held
abbrev Prior : (RepoKeys → RootFile → Type 0) → Showing → Repository → Chain → Type 0
Prior H k r chain = (chain.texts ≡ []) ⊎ ((last : RootFile) × AreRoots k r 1 None chain.texts last × H chain.keys last)

pub record Follows (H : RepoKeys → RootFile → Type 0) (k : Showing) (r : Repository) (next : Chain) : Type 0 where
  pub file : RootFile
  pub roots : AreRoots k r 1 None next.texts file
  pub keys : H next.keys file

accepted_by : (k : Showing) (served : List ℕ) (last : RootFile) (envelope : Envelope) → root_read served ≡ Some last → accepted_before k (Some served) envelope ≡ true → accepts k last.root envelope ≡ true
accepted_by k served last envelope read h = sym (ap (λ o. unwrap_or (option_map (λ before. accepts k before.root envelope) o) false) read) ∙ h

new_roots : (k : Showing) (r : Repository) (chain : Chain) (served : List ℕ) (file : RootFile) (at : ℕ) → IsReadRoot k r at chain served file
    → (chain.texts ≡ []) ⊎ ((last : RootFile) × AreRoots k r 1 None chain.texts last) → AreRoots k r 1 None (chain.texts ++ served ∷ []) file
new_roots k r chain served file at is (inl none) =
    subst (λ (ts : List (List ℕ)). AreRoots k r 1 None (ts ++ served ∷ []) file) (sym none) (
      file,
      record {
        envelope = is.envelope;
        read = is.read;
        repository_is = is.repository_is;
        number_is = is.number ∙ ap (λ (ts : List (List ℕ)). length ts + 1) none;
        shown = is.shown;
        apart = is.apart;
        own = is.own;
        old = tt;
      },
      refl,
    )
new_roots k r chain served file at is (inr (last, roots)) = by_texts chain.texts refl roots
  where
    turned : (n : ℕ) → suc n + 1 ≡ 1 + suc n
    turned n = omega arith

    by_texts : (ts : List (List ℕ)) → chain.texts ≡ ts → AreRoots k r 1 None ts last → AreRoots k r 1 None (chain.texts ++ served ∷ []) file
    by_texts [] same roots = cc
    by_texts (t ∷ ts) same roots =
        let found = last_read k r 1 None t ts last roots in
        let there : last_root chain ≡ Some found.0 = ap (λ (us : List (List ℕ)). nth us (length us)) same ∙ nth_last t ts ∙ found.1 in
        let before : accepted_before k (Some found.0) is.envelope ≡ true = ap (λ o. accepted_before k o is.envelope) (sym there) ∙ is.before in
        subst (λ (us : List (List ℕ)). AreRoots k r 1 None (us ++ served ∷ []) file) (sym same) (one_more_root k r 1 None (t ∷ ts) last served file roots (record {
          envelope = is.envelope;
          read = is.read;
          repository_is = is.repository_is;
          number_is = is.number ∙ ap (λ (us : List (List ℕ)). length us + 1) same ∙ turned (length ts);
          shown = is.shown;
          apart = is.apart;
          own = is.own;
          old = accepted_by k found.0 last is.envelope found.2 before;
        }))

-- what is known of the roots alone
roots_before : (H : RepoKeys → RootFile → Type 0) (k : Showing) (r : Repository) (chain : Chain) → Prior H k r chain → (chain.texts ≡ []) ⊎ ((last : RootFile) × AreRoots k r 1 None chain.texts last)
roots_before H k r chain (inl none) = inl none
roots_before H k r chain (inr (last, roots, keys)) = inr (last, roots)

-- the secrets of the roles that the server has to hold, of a Root that is brought
pub record HoldsNew (k : Showing) (may : Bool) (keys : RepoKeys) (file : RootFile) : Type 0 where
  pub targets : ((may ≡ true) × (is_offline keys.targets ≡ true)) ⊎ Holds k keys.targets file.targets
  pub snapshot : Holds k keys.snapshot file.snapshot
  pub timestamp : Holds k keys.timestamp file.timestamp

director_new : (k : Showing) (keys : RepoKeys) (file : RootFile) → HoldsNew k false keys file → HoldsDirector k keys file
director_new k keys file new = record { targets = held_there new.targets; snapshot = new.snapshot; timestamp = new.timestamp }
  where
    held_there : ((false ≡ true) × (is_offline keys.targets ≡ true)) ⊎ Holds k keys.targets file.targets → Holds k keys.targets file.targets
    held_there (inl none) = absurd (let never : false ≡ true = none.0 in cc)
    held_there (inr holds) = holds

image_new : (k : Showing) (keys : RepoKeys) (file : RootFile) → HoldsNew k true keys file → HoldsImage k keys file
image_new k keys file new = record { targets = either new.targets; snapshot = new.snapshot; timestamp = new.timestamp }
  where
    either : ((true ≡ true) × (is_offline keys.targets ≡ true)) ⊎ Holds k keys.targets file.targets → (is_offline keys.targets ≡ true) ⊎ Holds k keys.targets file.targets
    either (inl none) = inl none.1
    either (inr holds) = inr holds

pub holds_new : (k : Showing) (r : Repository) (file : RootFile) (present : RepoKeys) (brought : BroughtRoot) (keys : RepoKeys) → held_keys k r file present brought ≡ Ok keys
    → HoldsNew k (none_may_be_held r) keys file
unfolding held_keys
holds_new k r file present brought keys h = first_ok _ _ _ _ h (λ targets a h. first_ok _ _ _ _ h (λ snapshot b h. first_ok _ _ _ _ h (λ timestamp c h.
    subst (λ (held : RepoKeys). HoldsNew k (none_may_be_held r) held file) (same_ok _ _ h) (record {
      targets = held_ok k (none_may_be_held r) _ file.targets present.targets brought.targets targets a;
      snapshot = always_held k _ file.snapshot present.snapshot brought.snapshot snapshot b;
      timestamp = always_held k _ file.timestamp present.timestamp brought.timestamp timestamp c;
    }))))

brought_follows : (H : RepoKeys → RootFile → Type 0) (k : Showing) (r : Repository) (at : ℕ) (chain : Chain) (brought : BroughtRoot) (next : Chain)
    → Prior H k r chain → ((keys : RepoKeys) (file : RootFile) → HoldsNew k (none_may_be_held r) keys file → H keys file)
    → next_chain k r at chain brought ≡ Ok next → Follows H k r next
unfolding next_chain
brought_follows H k r at chain brought next prior holds h = first_ok _ _ _ _ h (λ keys is h.
    let held = keys_ok k r at chain brought keys is in
    subst (Follows H k r) (same_ok _ _ h) (record {
      file = held.file;
      roots = new_roots k r chain brought.text held.file at held.root (roots_before H k r chain prior);
      keys = holds keys held.file (holds_new k r held.file chain.keys brought keys held.held);
    }))

follows : (H : RepoKeys → RootFile → Type 0) (k : Showing) (r : Repository) (at : ℕ) (chain : Chain) (brought : Option BroughtRoot) (next : Chain)
    → Prior H k r chain → (chain.texts ≡ [] → is_some brought ≡ true) → ((keys : RepoKeys) (file : RootFile) → HoldsNew k (none_may_be_held r) keys file → H keys file)
    → chain_with k r at chain brought ≡ Ok next → Follows H k r next
follows H k r at chain None next (inl none) due holds h = let some : false ≡ true = due none in cc
follows H k r at chain None next (inr (last, roots, keys)) due holds h = subst (Follows H k r) (same_ok chain next h) (record { file = last; roots = roots; keys = keys })
follows H k r at chain (Some brought) next prior due holds h = brought_follows H k r at chain brought next prior holds h

-- ---- what was read is within its limits

root_limits : Lower → (served : List ℕ) (file : RootFile) (envelope : Envelope) → root_in served ≡ Ok (file, envelope) → root_fits file ≡ true
root_limits lower served file envelope read =
    let means = subst (λ r. MatchResult r (λ p. MeansFile MeansRoot served p.0 p.1 × ((f : RootFile) (e : Envelope) → MeansFile MeansRoot served f e → (f ≡ p.0) × (e ≡ p.1)))
    (λ fault. IsTextFault fault × ((f : RootFile) (e : Envelope) → MeansFile MeansRoot served f e → ⊥))) read (lower.meaning.root served) in
    (lower.meaning.root_fits means.0.payload file means.0.means).0

last_limits : Lower → (k : Showing) (r : Repository) (n : ℕ) (before : Option RootFile) (ts : List (List ℕ)) (last : RootFile) → before ≡ None → AreRoots k r n before ts last → root_fits last ≡ true
last_limits lower k r n before [] last none same = let no : None ≡ Some last = sym none ∙ same in cc
last_limits lower k r n before (t ∷ ts) last none (file, is, more) = from ts n file (root_limits lower t file is.envelope is.read) more
  where
    from : (ts : List (List ℕ)) (n : ℕ) (file : RootFile) → root_fits file ≡ true → AreRoots k r (suc n) (Some file) ts last → root_fits last ≡ true
    from [] n file fits same = let is : file ≡ last = cc in subst (λ (f : RootFile). root_fits f ≡ true) is fits
    from (u ∷ us) n file fits (next, is, more) = from us (suc n) next (root_limits lower u next is.envelope is.read) more

-- ---- the files that are made

snapshot_made : Lower → (k : Showing) → IsScheme k.rules → ShowsKeys k → (m : MetadataSet) (number : ℕ) (listed : RoleKeys) → Holds k m.keys.snapshot listed → role_fits listed ≡ true
    → IsSigned k listed (snapshot_payload (snapshot_file m number)) (snapshot_text k.rules m number)
unfolding snapshot_text snapshot_text_of sealed_text
snapshot_made lower k law shows m number listed holds fits = record {
  envelope = sealed_envelope k.rules m.keys.snapshot.keys (text (snapshot_payload (snapshot_file m number)));
  is = refl;
  signed = refl;
  accepted = accepts_made lower k law shows m.keys.snapshot listed _ holds fits;
}

timestamp_made : Lower → (k : Showing) → IsScheme k.rules → ShowsKeys k → (m : MetadataSet) (number : ℕ) (listed : RoleKeys) → Holds k m.keys.timestamp listed → role_fits listed ≡ true
    → IsSigned k listed (timestamp_payload (timestamp_file k.rules m number)) (timestamp_text k.rules m number)
unfolding timestamp_text timestamp_text_of sealed_text
timestamp_made lower k law shows m number listed holds fits = record {
  envelope = sealed_envelope k.rules m.keys.timestamp.keys (text (timestamp_payload (timestamp_file k.rules m number)));
  is = refl;
  signed = refl;
  accepted = accepts_made lower k law shows m.keys.timestamp listed _ holds fits;
}

-- the roles of a Root that was read
snapshot_limits : (file : RootFile) → root_fits file ≡ true → role_fits file.snapshot ≡ true
snapshot_limits file h = and_right (version_fits file.version && role_fits file.root && role_fits file.targets) _ (and_left _ (role_fits file.timestamp) h)

timestamp_limits : (file : RootFile) → root_fits file ≡ true → role_fits file.timestamp ≡ true
timestamp_limits file h = and_right (version_fits file.version && role_fits file.root && role_fits file.targets && role_fits file.snapshot) _ h

-- Targets that are there, or were brought
pub record AreThere (k : Showing) (s : State) (root : RootFile) (targets : Listing) : Type 0 where
  pub file : TargetsFile
  pub envelope : Envelope
  pub read : targets_in targets.text ≡ Ok (file, envelope)
  pub signed : accepts k root.targets envelope ≡ true
  pub version : file.version ≡ targets.version
  pub lists : pointwise same_target file.targets (image_targets s) ≡ true

abbrev Goes : Showing → State → Type 0
Goes k next = (files : RoleTexts) × (next.files ≡ Some files) × IsTrusted k next files

all_trusted : Lower → (k : Showing) → IsScheme k.rules → ShowsKeys k → (t : State) (at version : ℕ) (targets : Listing)
    → (director : Follows (HoldsDirector k) k Director t.director) → (image : Follows (HoldsImage k) k Image t.image) → files_are_apart director.file image.file ≡ true
    → AreThere k t image.file targets → targets.version ≤ version → Goes k (with_files k.rules t at version targets)
all_trusted lower k law shows t at version targets director image apart there below =
    let fits = last_limits lower k Image 1 None t.image.texts image.file refl image.roots in (
      _,
      refl,
      record {
        director = director.file;
        director_roots = director.roots;
        director_keys = director.keys;
        root = image.file;
        image_roots = image.roots;
        image_keys = image.keys;
        apart = apart;
        targets = there.file;
        envelope = there.envelope;
        targets_read = there.read;
        targets_signed = there.signed;
        targets_version = there.version;
        targets_listed = there.lists;
        snapshot_signed = snapshot_made lower k law shows (image_metadata t at version) targets.version image.file.snapshot image.keys.snapshot (snapshot_limits image.file fits);
        expires = at + (lifetimes Image).timestamp;
        timestamp_signed = timestamp_made lower k law shows (image_metadata t at version) targets.version image.file.timestamp image.keys.timestamp (timestamp_limits image.file fits);
        versions = below;
      },
    )

-- ---- what comes of Targets

-- what is read of the last root version
last_of : (k : Showing) (r : Repository) (chain : Chain) (file : RootFile) → AreRoots k r 1 None chain.texts file → option_and_then root_read (last_root chain) ≡ Some file
last_of k r chain file roots = by_texts chain.texts refl roots
  where
    by_texts : (ts : List (List ℕ)) → chain.texts ≡ ts → AreRoots k r 1 None ts file → option_and_then root_read (last_root chain) ≡ Some file
    by_texts [] same roots = cc
    by_texts (t ∷ ts) same roots =
        let found = last_read k r 1 None t ts file roots in
        ap (option_and_then root_read) (ap (λ (us : List (List ℕ)). nth us (length us)) same ∙ nth_last t ts ∙ found.1) ∙ found.2

-- what was tested of the last Roots holds of those that each chain leads to
still_apart : (k : Showing) (director image : Chain) (a b : RootFile) → AreRoots k Director 1 None director.texts a → AreRoots k Image 1 None image.texts b
    → are_apart director image ≡ true → files_are_apart a b ≡ true
still_apart k director image a b ra rb h = sym (ap₂ read_apart (last_of k Director director a ra) (last_of k Image image b rb)) ∙ h

-- the last root version is the one that is read
last_is : (k : Showing) (r : Repository) (chain : Chain) (file root : RootFile) → AreRoots k r 1 None chain.texts file → option_and_then root_read (last_root chain) ≡ Some root → root ≡ file
last_is k r chain file root roots h = one_value (option_and_then root_read (last_root chain)) root file h (last_of k r chain file roots)

listed_there : (k : Showing) (t : State) (image : RootFile) (file : TargetsFile) (envelope : Envelope) (targets : Listing) → AreRoots k Image 1 None t.image.texts image
    → targets_in targets.text ≡ Ok (file, envelope) → file.version ≡ targets.version → IsListed k t file envelope → AreThere k t image targets
listed_there k t image file envelope targets roots read version listed = record {
  file = file;
  envelope = envelope;
  read = read;
  signed = subst (λ (r : RootFile). accepts k r.targets envelope ≡ true) (last_is k Image t.image image listed.root roots listed.last) listed.signed;
  version = version;
  lists = listed.lists;
}

-- of a state in which Targets of its version are published, or nothing is
abbrev HasVersion : State → Type 0
HasVersion s = (files : RoleTexts) → s.files ≡ Some files → (file : TargetsFile) (envelope : Envelope) → targets_in files.targets ≡ Ok (file, envelope) → file.version ≡ s.targets_version

offline_or_held : (b : Bool) → b ≡ true → b ≡ false → ⊥
offline_or_held true a b = cc
offline_or_held false a b = cc

published_there : (k : Showing) (t : State) (at : ℕ) (brought : Option (List ℕ)) (targets : Listing) (image : RootFile) → AreRoots k Image 1 None t.image.texts image → HasVersion t
    → t.targets_version ≤ t.image_version → is_offline t.image.keys.targets ≡ true → Come k t at brought targets → AreThere k t image targets × (targets.version ≤ t.image_version + 1)
published_there k t at brought targets image roots has low off (stayed is kept) =
    let text : targets.text ≡ kept.files.targets = ap (λ (l : Listing). l.text) kept.is in
    let number : targets.version ≡ t.targets_version = ap (λ (l : Listing). l.version) kept.is in
    (listed_there k t image kept.file kept.envelope targets roots (ap targets_in text ∙ kept.read) (has kept.files kept.there kept.file kept.envelope kept.read ∙ sym number) kept.listed, omega (arith, number, low))
published_there k t at brought targets image roots has low off (came is text there b) =
    (listed_there k t image b.file b.envelope targets roots (ap targets_in b.is ∙ b.read) b.version b.listed, b.below)
published_there k t at brought targets image roots has low off (made on is) = absurd (offline_or_held _ off on)

-- ---- publications and refreshes

abbrev Director_prior : Showing → State → Type 0
Director_prior k s = Prior (HoldsDirector k) k Director s.director

before_director : (k : Showing) (s : State) → IsNewOrTrusted k s → Director_prior k s
before_director k s (inl new) = inl new.director
before_director k s (inr (files, there, is)) = inr (is.director, is.director_roots, is.director_keys)

before_image : (k : Showing) (s : State) → IsNewOrTrusted k s → Prior (HoldsImage k) k Image s.image
before_image k s (inl new) = inl new.image
before_image k s (inr (files, there, is)) = inr (is.root, is.image_roots, is.image_keys)

has_version : (k : Showing) (s : State) → IsNewOrTrusted k s → HasVersion s
has_version k s (inl new) files there file envelope read = let none : None ≡ Some files = sym new.files ∙ there in cc
has_version k s (inr (old, was, is)) files there file envelope read =
    let same : old ≡ files = one_value s.files old files was there in
    let both = same_ok (is.targets, is.envelope) (file, envelope) (sym is.targets_read ∙ ap (λ (f : RoleTexts). targets_in f.targets) same ∙ read) in
    sym (ap (λ (p : TargetsFile × Envelope). p.0.version) both) ∙ is.targets_version

low_version : (k : Showing) (s : State) → IsNewOrTrusted k s → s.targets_version ≤ s.image_version
low_version k s (inl new) = omega (arith, new.targets_version)
low_version k s (inr (files, there, is)) = is.versions

-- where nothing is published both Roots are brought
both_due : (k : Showing) (s : State) → IsNewOrTrusted k s → (a b : Bool) → (is_founded s || (a && b)) ≡ true → ((s.director.texts ≡ []) → a ≡ true) × ((s.image.texts ≡ []) → b ≡ true)
both_due k s (inl new) a b h =
    let due : (a && b) ≡ true = sym (ap (λ f. is_some f || (a && b)) new.files) ∙ h in
    (λ none. and_left a b due, λ none. and_right a b due)
both_due k s (inr (files, there, is)) a b h = (
  λ none. absurd (no_roots k Director 1 _ is.director (subst (λ (ts : List (List ℕ)). AreRoots k Director 1 None ts is.director) none is.director_roots)),
  λ none. absurd (no_roots k Image 1 _ is.root (subst (λ (ts : List (List ℕ)). AreRoots k Image 1 None ts is.root) none is.image_roots)),
)
  where
    no_roots : (k : Showing) (r : Repository) (n : ℕ) (z : ⊤) (last : RootFile) → AreRoots k r n None [] last → ⊥
    no_roots k r n z last same = cc

published_trusted : Lower → (k : Showing) (s next : State) (at : ℕ) (p : Publication) → IsScheme k.rules → ShowsKeys k → IsNewOrTrusted k s → decide_publish k s at p ≡ Ok (Some next)
    → is_offline next.image.keys.targets ≡ true → Goes k next
published_trusted lower k s next at p law shows prior h off =
    let is = publish_ok k s at p next h in
    let due = both_due k s prior (is_some p.director) (is_some p.image) is.founded in
    let director = follows (HoldsDirector k) k Director at s.director p.director is.director (before_director k s prior) due.0 (director_new k) is.director_is in
    let image = follows (HoldsImage k) k Image at s.image p.image is.image (before_image k s prior) due.1 (image_new k) is.image_is in
    let here : is_offline is.image.keys.targets ≡ true = ap (λ (n : State). is_offline n.image.keys.targets) is.is ∙ off in
    let there = published_there k _ at p.targets is.targets image.file image.roots (has_version k s prior) (low_version k s prior) here is.targets_come in
    let apart = still_apart k is.director is.image director.file image.file director.roots image.roots is.apart in
    subst (Goes k) is.is (all_trusted lower k law shows _ at (s.image_version + 1) is.targets director image apart there.0 there.1)

refreshed_trusted : Lower → (k : Showing) (s next : State) (at version : ℕ) → IsScheme k.rules → ShowsKeys k → IsNewOrTrusted k s → decide_refresh k.rules s at version ≡ Ok (Some next)
    → is_offline next.image.keys.targets ≡ true → Goes k next
refreshed_trusted lower k s next at version law shows (inl new) h off =
    let is = refresh_ok k.rules s at version next h in
    absurd (let none : None ≡ Some is.files = sym new.files ∙ is.there in cc)
refreshed_trusted lower k s next at version law shows (inr (files, there, was)) h off =
    let is = refresh_ok k.rules s at version next h in
    let same : files ≡ is.files = one_value s.files files is.files there is.there in
    let off_now : is_offline (refreshed k.rules s at version is.files.targets).image.keys.targets ≡ true = ap (λ (n : State). is_offline n.image.keys.targets) is.is ∙ off in
    subst (Goes k) is.is (by_test same (is_offline s.image.keys.targets) refl is.above off_now)
  where
    by_test : {now : RoleTexts} → files ≡ now → (b : Bool) → is_offline s.image.keys.targets ≡ b → s.image_version < version
        → is_offline (if b then with_files k.rules s at version (record { text = now.targets; version = s.targets_version }) else stamped k.rules s at version).image.keys.targets ≡ true
        → Goes k (if b then with_files k.rules s at version (record { text = now.targets; version = s.targets_version }) else stamped k.rules s at version)
    by_test same true on above here = all_trusted lower k law shows s at version _
        (record { file = was.director; roots = was.director_roots; keys = was.director_keys }) (record { file = was.root; roots = was.image_roots; keys = was.image_keys })
        was.apart
        (record {
          file = was.targets;
          envelope = was.envelope;
          read = sym (ap (λ (f : RoleTexts). targets_in f.targets) same) ∙ was.targets_read;
          signed = was.targets_signed;
          version = was.targets_version;
          lists = was.targets_listed;
        }) (omega (arith, was.versions, above))
    by_test same false on above here = absurd (offline_or_held _ here on)

pub trusted : Lower → PublishedIsTrusted
trusted lower k s next at (Found keys) law shows prior c h off = absurd c
trusted lower k s next at (Rotate keys) law shows prior c h off = absurd c
trusted lower k s next at (Publish p) law shows prior c h off = published_trusted lower k s next at p law shows prior h off
trusted lower k s next at (AddImage image) law shows prior c h off = absurd c
trusted lower k s next at (Refresh version) law shows prior c h off = refreshed_trusted lower k s next at version law shows prior h off
