-- What is tested of files that are signed elsewhere, by keys that the server hasn't. Each check carries the name of its refusal, in the order of refusals.
use Rattle.std.specs.Prelude.{ℕ, ◌+◌, ◌==◌, ◌&&◌, List, [], Bool, true, false, nat_le, nat_lt, option_map, option_and_then, unwrap_or, Option, Some, None, if◌then◌else◌, map, bytes_eq, length, ⊤, Result, Ok, Err, codes}
use Rattle.std.specs.Option.{option_eq}
use Rattle.std.specs.Cmp.Lexicographic.{pointwise}
use Rattle.std.specs.List.{list_all}
use Rattle.up_canon.specs.Steps.{◌>>=◌, unless, refuse_if, or_error}
use Rattle.up_canon.specs.declared.refusal.Refusal.{Refusal}
use Rattle.up_canon.specs.declared.refusal.Refusal.TheVariants.{BadShape, VersionNotGreater, RootFull}
use Rattle.up_shown.specs.Showing.{Showing}
use Rattle.up_sign.specs.declared.envelope.Envelope.{Envelope}
use Rattle.up_roles.specs.declared.repository.Repository.{Repository}
use Rattle.up_roles.specs.declared.repository.Repository.TheVariants.{Director, Image}
use Rattle.up_roles.specs.declared.root.RootFile.{RootFile}
use Rattle.up_roles.specs.declared.root.RootKey.{RootKey}
use Rattle.up_roles.specs.declared.root.RoleKeys.{RoleKeys}
use Rattle.up_roles.specs.declared.targets.Target.{Target}
use Rattle.up_roles.specs.declared.targets.TargetsFile.{TargetsFile}
use Rattle.up_roles.specs.Payload.{repository_text}
use Rattle.up_roles.specs.Root.{root_in}
use Rattle.up_roles.specs.Targets.{targets_in}
use Rattle.up_metadata.specs.declared.keys.RoleSecrets.{RoleSecrets}
use Rattle.up_metadata.specs.declared.keys.RepoKeys.{RepoKeys}
use Rattle.up_metadata.specs.Files.{root_key}
use Rattle.up_metadata.specs.Keys.{secret_fits}
use Rattle.up_brought.specs.declared.brought.BroughtRoot.{BroughtRoot}
use Rattle.up_brought.specs.declared.fault.Fault.{Fault}
use Rattle.up_brought.specs.declared.fault.Fault.TheVariants.{Known, WrongVersion, Expired, BadSignature, OtherKeys, OtherImages}
use Rattle.up_brought.specs.Faults.{known}
use Rattle.up_brought.specs.Shown.{shows_keys, roles_are_apart, accepts, in_one_spelling}

-- ---- Root files

-- the last Root, as it is read; none before founding
abbrev pub value_or_none : {A : Type 0} → Result A Refusal → Option A
value_or_none (Ok x) = Some x
value_or_none (Err r) = None

abbrev pub root_read : List ℕ → Option RootFile
root_read text = option_map (λ read. read.0) (value_or_none (root_in text))

-- the root keys before accept it; before founding there are none to ask
abbrev pub accepted_before : Showing → Option (List ℕ) → Envelope → Bool
accepted_before k None envelope = true
accepted_before k (Some text) envelope = unwrap_or (option_map (λ before. accepts k before.root envelope) (root_read text)) false

abbrev pub same_repository : Repository → Repository → Bool
same_repository a b = bytes_eq (repository_text a) (repository_text b)

-- a Root may follow so many root versions, of which the last is this text
unfoldable pub test_root : Showing → Repository → ℕ → Option (List ℕ) → ℕ → RootFile → Envelope → Result ⊤ Fault
test_root k repository number last at file envelope = do
  other_repository ← unless (same_repository repository file.repository) (Known (BadShape (codes "repository")))
  bad_keys ← unless (shows_keys k file && roles_are_apart file) (Known (BadShape (codes "keys")))
  root_full ← refuse_if (nat_le 64 number) (Known RootFull)
  wrong_version ← unless (file.version == number + 1) (WrongVersion (number + 1))
  expired ← refuse_if (nat_le file.expires at) (Expired (codes "root"))
  bad_before ← unless (accepted_before k last envelope) (BadSignature (codes "before"))
  unless (accepts k file.root envelope) (BadSignature (codes "root"))

-- the Root that a text is, which may follow them
unfoldable pub check_root : Showing → Repository → ℕ → Option (List ℕ) → ℕ → List ℕ → Result RootFile Fault
check_root k repository number last at text = do
  read ← known (in_one_spelling root_in text)
  tested ← test_root k repository number last at read.0 read.1
  Ok read.0

-- ---- the keys that are held of its roles

abbrev pub same_key : RootKey → RootKey → Bool
same_key a b = bytes_eq a.keyid b.keyid && bytes_eq a.method b.method && bytes_eq a.shown b.shown

-- these are the secrets of the keys that are listed, in order
abbrev pub are_secrets_of : Showing → RoleKeys → List (List ℕ) → Bool
are_secrets_of k listed secrets = list_all (secret_fits k.rules) secrets && pointwise same_key (map (root_key k.rules) secrets) listed.keys

-- those of the image repository's Targets alone may be kept offline: then none are held
abbrev pub none_may_be_held : Repository → Bool
none_may_be_held Image = true
none_may_be_held Director = false

-- of a role whose keys are kept offline the server has none
abbrev pub offline : RoleSecrets
offline = record { keys = []; threshold = 0 }

-- the secrets that were given, or else those that are held, have to be those of the keys that the Root lists
unfoldable pub held : Showing → Bool → List ℕ → RoleKeys → RoleSecrets → Option (List (List ℕ)) → Result RoleSecrets Fault
held k may_be_none name listed present given =
    let secrets = unwrap_or given present.keys in
    if may_be_none && (length secrets == 0) then Ok offline else do
      other_keys ← unless (are_secrets_of k listed secrets) (OtherKeys name)
      Ok (record { keys = secrets; threshold = listed.threshold })

-- what is held of a Root that is brought: its root keys are kept offline from then on
unfoldable pub held_keys : Showing → Repository → RootFile → RepoKeys → BroughtRoot → Result RepoKeys Fault
held_keys k repository file present brought = do
  targets ← held k (none_may_be_held repository) (codes "targets") file.targets present.targets brought.targets
  snapshot ← held k false (codes "snapshot") file.snapshot present.snapshot brought.snapshot
  timestamp ← held k false (codes "timestamp") file.timestamp present.timestamp brought.timestamp
  Ok (record { root = offline; targets = targets; snapshot = snapshot; timestamp = timestamp })

-- what is held behind a Root that is brought, where so many root versions are there, of which the last is this text
unfoldable pub next_keys : Showing → Repository → ℕ → Option (List ℕ) → ℕ → RepoKeys → BroughtRoot → Result RepoKeys Fault
next_keys k repository number last at present brought = do
  file ← check_root k repository number last at brought.text
  held_keys k repository file present brought

-- ---- Targets

abbrev pub same_target : Target → Target → Bool
same_target a b =
    bytes_eq a.file b.file && (a.length == b.length) && bytes_eq a.sha256 b.sha256 && option_eq bytes_eq a.sha512 b.sha512
    && pointwise bytes_eq a.hardware b.hardware && (a.release == b.release)

-- Targets are signed for the last Root, which is this text, and list just these images
unfoldable pub check_listing : Showing → Option (List ℕ) → List Target → TargetsFile → Envelope → Result ⊤ Fault
check_listing k last listed file envelope = do
  root ← or_error (BadSignature (codes "targets")) (option_and_then root_read last)
  bad_signature ← unless (accepts k root.targets envelope) (BadSignature (codes "targets"))
  unless (pointwise same_target file.targets listed) OtherImages

-- Targets of the image repository, of a version above this one and at most the Snapshot's next, may follow
unfoldable pub test_targets : Showing → Option (List ℕ) → List Target → ℕ → ℕ → ℕ → TargetsFile → Envelope → Result ⊤ Fault
test_targets k last listed above most at file envelope = do
  other_repository ← unless (same_repository Image file.repository) (Known (BadShape (codes "repository")))
  version_not_greater ← refuse_if (nat_le file.version above) (Known VersionNotGreater)
  wrong_version ← refuse_if (nat_lt most file.version) (WrongVersion most)
  expired ← refuse_if (nat_le file.expires at) (Expired (codes "targets"))
  check_listing k last listed file envelope

-- the Targets that a text is, which may follow
unfoldable pub check_targets : Showing → Option (List ℕ) → List Target → ℕ → ℕ → ℕ → List ℕ → Result TargetsFile Fault
check_targets k last listed above most at text = do
  read ← known (in_one_spelling targets_in text)
  tested ← test_targets k last listed above most at read.0 read.1
  Ok read.0

-- the Targets that a text is, which was published, may stay
unfoldable pub check_kept : Showing → Option (List ℕ) → List Target → List ℕ → Result ⊤ Fault
check_kept k last listed text = do
  read ← known (targets_in text)
  check_listing k last listed read.0 read.1
