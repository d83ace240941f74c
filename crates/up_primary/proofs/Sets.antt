-- The three files of a set that the machine made are accepted under the Root whose keys signed them.
use Rattle.std.proofs.Common.{◌≡◌, ℕ, ◌+◌, ◌<◌, ◌≤◌, List, true, Option, Some, None, Ok, refl, ap, ◌∙◌, arith}
use Rattle.std.specs.Prelude.{nat_le}
use Rattle.std.specs.List.{list_all}
use Rattle.std.proofs.lemmas.Bool.{eq-eqb, lt-ltb}
use Rattle.std.proofs.lemmas.Bool.Decides.{nat_tests}
use Rattle.sha2.specs.Sha256.{sha256}
use Rattle.up_canon.specs.Canon.{text}
use Rattle.up_canon.specs.Names.{Name}
use Rattle.up_canon.proofs.Printable.{both}
use Rattle.up_canon.proofs.Steps.{unless_there}
use Rattle.up_sign.specs.Envelopes.{sealed_envelope}
use Rattle.up_sign.specs.declared.envelope.Envelope.{Envelope}
use Rattle.up_sign.proofs.Accepted.{bytes_eq-refl}
use Rattle.up_roles.specs.declared.root.RoleKeys.{RoleKeys}
use Rattle.up_roles.specs.declared.root.RootFile.{RootFile}
use Rattle.up_roles.specs.Lifetimes.{lifetimes}
use Rattle.up_roles.specs.Snapshot.{snapshot_payload}
use Rattle.up_roles.specs.Targets.{targets_payload}
use Rattle.up_roles.specs.Timestamp.{timestamp_payload}
use Rattle.up_metadata.specs.declared.keys.RoleSecrets.{RoleSecrets}
use Rattle.up_metadata.specs.Keys.{role_fits, repository_fits}
use Rattle.up_metadata.specs.Files.{Root, keys_of, role_keys, root_file, MetadataSet, targets_file, snapshot_file, snapshot_text, timestamp_file, role_texts}
use Rattle.up_metadata.proofs.RoleFiles.{roles_fit}
use Rattle.up_laws.specs.Readings.{AreReadAgain}
use Rattle.up_verify.specs.declared.refused.Role.TheVariants.{Timestamp, Snapshot, Targets}
use Rattle.up_verify.specs.declared.trust.Versions.{Versions}
use Rattle.up_verify.specs.declared.trust.Trust.{Trust}
use Rattle.up_verify.specs.Verifiers.{Verifier, is_signed_for}
use Rattle.up_verify.specs.Roots.{same_repository, or_unread}
use Rattle.up_verify.specs.declared.asked.Asked.{Asked}
use Rattle.up_verify.specs.Files.{Says, same_vehicle, of_file, check_file, check_timestamp, check_snapshot, check_targets, check_files}
use Rattle.up_primary.specs.Following.{can_read, AreUpTo}
use Rattle.up_primary.proofs.NextRoot.{Known, ReadRoles, sealed_for, same_one, among_itself}
use Rattle.up_verify.proofs.Steps.{go_ok, pass}

same_name : (vehicle : Option Name) → same_vehicle vehicle vehicle ≡ true
same_name None = refl
same_name (Some name) = bytes_eq-refl name

-- ---- one file

-- what a file has to have to be accepted
pub record Passes (v : Verifier) (asked : Asked) (role : RoleKeys) (last : ℕ) (says : Says) (envelope : Envelope) : Type 0 where
  pub repository : says.repository ≡ asked.repository
  pub vehicle : says.vehicle ≡ asked.vehicle
  pub signed : is_signed_for v role envelope ≡ true
  pub version : last ≤ says.version
  pub expires : asked.moment < says.expires

file_passes : (v : Verifier) (asked : Asked) (role : RoleKeys) (last : ℕ) (says : Says) (envelope : Envelope) → Passes v asked role last says envelope → check_file v asked role last says envelope ≡ Ok tt
unfolding check_file
file_passes v asked role last says envelope p =
    let version = p.version in
    let high : nat_le last says.version ≡ true = grind (arith, nat_tests) in
    pass _ _ _ _ (ap (λ r. same_repository r asked.repository) p.repository ∙ same_one asked.repository)
    (pass _ _ _ _ (ap (λ name. same_vehicle name asked.vehicle) p.vehicle ∙ same_name asked.vehicle)
    (pass _ _ _ _ p.signed
    (pass _ _ _ _ high
    (unless_there _ _ (lt-ltb asked.moment says.expires p.expires)))))

-- ---- the set

-- whose keys, at which moment: the trusted Root has the keys of the set, no version is greater, and nothing has expired
pub record IsCurrent (v : Verifier) (m : MetadataSet) (now : ℕ) (t : Trust) : Type 0 where
  pub number : ℕ
  pub root : Root
  pub keys : root.keys ≡ m.keys
  pub trusted : t.root ≡ root_file v.rules m.repository number root
  pub fits : repository_fits v.rules (keys_of m.repository m.keys) ≡ true
  pub reads : ReadRoles v (keys_of m.repository m.keys)
  pub versions : AreUpTo m.version t.versions
  pub targets : now < m.at + (lifetimes m.repository).targets
  pub snapshot : now < m.at + (lifetimes m.repository).snapshot
  pub timestamp : now < m.at + (lifetimes m.repository).timestamp

abbrev pub all_of : ℕ → Versions
all_of n = record { timestamp = n; snapshot = n; targets = n }

abbrev asked_of : MetadataSet → ℕ → Asked
asked_of m now = record { repository = m.repository; vehicle = m.vehicle; moment = now }

-- a role of the trusted Root has signed what it sealed
own_signed : (v : Verifier) → Known v.rules → (m : MetadataSet) (now : ℕ) (t : Trust) → (is : IsCurrent v m now t) (pick : RootFile → RoleKeys) (role : RoleSecrets) (signed : List ℕ)
    → pick (root_file v.rules m.repository is.number is.root) ≡ role_keys v.rules role → role_fits v.rules role ≡ true → list_all (λ s. can_read v (v.rules.public_of s)) role.keys ≡ true
    → is_signed_for v (pick t.root) (sealed_envelope v.rules role.keys signed) ≡ true
own_signed v known m now t is pick role signed picked fits reads =
    ap (λ root. is_signed_for v (pick root) (sealed_envelope v.rules role.keys signed)) is.trusted ∙ ap (λ keys. is_signed_for v keys (sealed_envelope v.rules role.keys signed)) picked
    ∙ sealed_for v known role role.keys signed fits reads (among_itself role.keys)

timestamp_checked : (v : Verifier) → Known v.rules → (m : MetadataSet) (now : ℕ) (t : Trust) → AreReadAgain v.rules m → IsCurrent v m now t
    → check_timestamp v (asked_of m now) t (role_texts v.rules m).timestamp ≡ Ok (timestamp_file v.rules m)
unfolding check_timestamp
timestamp_checked v known m now t again is =
    let keys = keys_of m.repository m.keys in
    go_ok _ _ _ _ (ap or_unread again.timestamp.read)
    (go_ok _ _ _ _ (file_passes v (asked_of m now) t.root.timestamp t.versions.timestamp _ _ (record {
      repository = refl;
      vehicle = refl;
      signed = own_signed v known m now t is (λ root. root.timestamp) keys.timestamp (text (timestamp_payload (timestamp_file v.rules m))) (ap (λ ks. role_keys v.rules (keys_of m.repository ks).timestamp) is.keys) (roles_fit v.rules keys is.fits).3 is.reads.timestamp;
      version = is.versions.timestamp;
      expires = is.timestamp;
    }))
    refl)

snapshot_checked : (v : Verifier) → Known v.rules → (m : MetadataSet) (now : ℕ) (t : Trust) → AreReadAgain v.rules m → IsCurrent v m now t
    → check_snapshot v (asked_of m now) t (timestamp_file v.rules m) (role_texts v.rules m).snapshot ≡ Ok (snapshot_file m)
unfolding check_snapshot
snapshot_checked v known m now t again is =
    let keys = keys_of m.repository m.keys in
    go_ok _ _ _ _ (ap or_unread again.snapshot.read)
    (pass _ _ _ _ (both _ _ (bytes_eq-refl (sha256 (snapshot_text v.rules m))) (eq-eqb m.version m.version refl))
    (go_ok _ _ _ _ (file_passes v (asked_of m now) t.root.snapshot t.versions.snapshot _ _ (record {
      repository = refl;
      vehicle = refl;
      signed = own_signed v known m now t is (λ root. root.snapshot) keys.snapshot (text (snapshot_payload (snapshot_file m))) (ap (λ ks. role_keys v.rules (keys_of m.repository ks).snapshot) is.keys) (roles_fit v.rules keys is.fits).2 is.reads.snapshot;
      version = is.versions.snapshot;
      expires = is.snapshot;
    }))
    refl))

targets_checked : (v : Verifier) → Known v.rules → (m : MetadataSet) (now : ℕ) (t : Trust) → AreReadAgain v.rules m → IsCurrent v m now t
    → check_targets v (asked_of m now) t (snapshot_file m) (role_texts v.rules m).targets ≡ Ok (targets_file m)
unfolding check_targets
targets_checked v known m now t again is =
    let keys = keys_of m.repository m.keys in
    go_ok _ _ _ _ (ap or_unread again.targets.read)
    (pass _ _ _ _ (eq-eqb m.version m.version refl)
    (go_ok _ _ _ _ (file_passes v (asked_of m now) t.root.targets t.versions.targets _ _ (record {
      repository = refl;
      vehicle = refl;
      signed = own_signed v known m now t is (λ root. root.targets) keys.targets (text (targets_payload (targets_file m))) (ap (λ ks. role_keys v.rules (keys_of m.repository ks).targets) is.keys) (roles_fit v.rules keys is.fits).1 is.reads.targets;
      version = is.versions.targets;
      expires = is.targets;
    }))
    refl))

pub set_checked : (v : Verifier) → Known v.rules → (m : MetadataSet) (now : ℕ) (t : Trust) → AreReadAgain v.rules m → IsCurrent v m now t
    → check_files v (asked_of m now) t (role_texts v.rules m) ≡ Ok (record { versions = all_of m.version; targets = targets_file m })
unfolding check_files
set_checked v known m now t again is =
    go_ok _ _ _ _ (ap (of_file m.repository Timestamp) (timestamp_checked v known m now t again is))
    (go_ok _ _ _ _ (ap (of_file m.repository Snapshot) (snapshot_checked v known m now t again is))
    (go_ok _ _ _ _ (ap (of_file m.repository Targets) (targets_checked v known m now t again is))
    refl))
