-- What whoever verifies finds, from the texts that are served alone: of a scheme that shows its keys.
use Rattle.std.specs.Prelude.{◌≡◌, ℕ, suc, ◌≤◌, ◌⊎◌, List, [], ◌∷◌, Option, Some, None, IfSome, IsTrue, Ok}
use Rattle.std.specs.Cmp.Lexicographic.{pointwise}
use Rattle.std.specs.List.{list_all}
use Rattle.sha2.specs.Sha256.{sha256}
use Rattle.serde_json.specs.Data.{Data}
use Rattle.up_canon.specs.Canon.{text}
use Rattle.up_sign.specs.Formats.{envelope_text}
use Rattle.up_sign.specs.declared.envelope.Envelope.{Envelope}
use Rattle.up_roles.specs.declared.repository.Repository.{Repository}
use Rattle.up_roles.specs.declared.repository.Repository.TheVariants.{Director, Image}
use Rattle.up_roles.specs.declared.root.RoleKeys.{RoleKeys}
use Rattle.up_roles.specs.declared.root.RootFile.{RootFile}
use Rattle.up_roles.specs.declared.targets.TargetsFile.{TargetsFile}
use Rattle.up_roles.specs.declared.timestamp.TimestampFile.{TimestampFile}
use Rattle.up_roles.specs.Root.{root_in}
use Rattle.up_roles.specs.Targets.{targets_in}
use Rattle.up_roles.specs.Snapshot.{snapshot_payload}
use Rattle.up_roles.specs.Timestamp.{timestamp_payload}
use Rattle.up_metadata.specs.declared.keys.RoleSecrets.{RoleSecrets}
use Rattle.up_metadata.specs.declared.keys.RepoKeys.{RepoKeys}
use Rattle.up_metadata.specs.declared.role_files.RoleTexts.{RoleTexts}
use Rattle.up_metadata.specs.Files.{role_keys}
use Rattle.up_metadata.specs.Keys.{secret_fits}
use Rattle.up_shown.specs.Showing.{Showing}
use Rattle.up_brought.specs.Shown.{accepts, shows_keys, roles_are_apart, files_are_apart}
use Rattle.up_offline.specs.State.{State, is_offline}
use Rattle.up_offline.specs.Making.{image_metadata, image_targets, snapshot_file}
use Rattle.up_brought.specs.Brought.{same_repository, same_target}

-- ---- root versions

-- a Root of this number, whose keys are shown and each of one role, signed for its own root role and for that of the version before
pub record IsRoot (k : Showing) (repository : Repository) (number : ℕ) (before : Option RootFile) (served : List ℕ) (file : RootFile) : Type 0 where
  pub envelope : Envelope
  pub read : root_in served ≡ Ok (file, envelope)
  pub repository_is : IsTrue (same_repository repository file.repository)
  pub number_is : file.version ≡ number
  pub shown : IsTrue (shows_keys k file)
  pub apart : IsTrue (roles_are_apart file)
  pub own : IsTrue (accepts k file.root envelope)
  pub old : IfSome before (λ b. IsTrue (accepts k b.root envelope))

-- root versions from this number on, each signed for the one before, and the last of them
abbrev pub AreRoots : Showing → Repository → ℕ → Option RootFile → List (List ℕ) → RootFile → Type 0
AreRoots k repository number before [] last = before ≡ Some last
AreRoots k repository number before (served ∷ more) last =
    (file : RootFile) × IsRoot k repository number before served file × AreRoots k repository (suc number) (Some file) more last

-- ---- keys that are held

-- the secrets are those of the keys that the Root lists for the role
pub record Holds (k : Showing) (role : RoleSecrets) (listed : RoleKeys) : Type 0 where
  pub fit : IsTrue (list_all (secret_fits k.rules) role.keys)
  pub same : role_keys k.rules role ≡ listed

pub record HoldsDirector (k : Showing) (keys : RepoKeys) (root : RootFile) : Type 0 where
  pub targets : Holds k keys.targets root.targets
  pub snapshot : Holds k keys.snapshot root.snapshot
  pub timestamp : Holds k keys.timestamp root.timestamp

pub record HoldsImage (k : Showing) (keys : RepoKeys) (root : RootFile) : Type 0 where
  pub targets : IsTrue (is_offline keys.targets) ⊎ Holds k keys.targets root.targets
  pub snapshot : Holds k keys.snapshot root.snapshot
  pub timestamp : Holds k keys.timestamp root.timestamp

-- ---- the image repository's files

-- the text is that of an envelope of this payload, which the role accepts
pub record IsSigned (k : Showing) (role : RoleKeys) (payload : Data) (served : List ℕ) : Type 0 where
  pub envelope : Envelope
  pub is : served ≡ envelope_text envelope
  pub signed : envelope.signed ≡ text payload
  pub accepted : IsTrue (accepts k role envelope)

-- what the Timestamp says of this Snapshot
abbrev pub timestamp_of : State → ℕ → List ℕ → TimestampFile
timestamp_of s expires snapshot = record {
  repository = Image;
  version = s.image_version;
  expires = expires;
  vehicle = None;
  snapshot_version = s.image_version;
  snapshot_sha256 = sha256 snapshot;
}

-- From version 1 on each Root leads to the next, and no key stands in both last ones. The image repository's last one accepts Targets of just the
-- registered images, the Snapshot that names them, and the Timestamp that names this Snapshot. The secrets that are held are those of the keys that
-- are listed.
pub record IsTrusted (k : Showing) (s : State) (files : RoleTexts) : Type 0 where
  pub director : RootFile
  pub director_roots : AreRoots k Director 1 None s.director.texts director
  pub director_keys : HoldsDirector k s.director.keys director
  pub root : RootFile
  pub image_roots : AreRoots k Image 1 None s.image.texts root
  pub image_keys : HoldsImage k s.image.keys root
  pub apart : IsTrue (files_are_apart director root)
  pub targets : TargetsFile
  pub envelope : Envelope
  pub targets_read : targets_in files.targets ≡ Ok (targets, envelope)
  pub targets_signed : IsTrue (accepts k root.targets envelope)
  pub targets_version : targets.version ≡ s.targets_version
  pub targets_listed : IsTrue (pointwise same_target targets.targets (image_targets s))
  pub snapshot_signed : IsSigned k root.snapshot (snapshot_payload (snapshot_file (image_metadata s s.stamp s.image_version) s.targets_version)) files.snapshot
  pub expires : ℕ
  pub timestamp_signed : IsSigned k root.timestamp (timestamp_payload (timestamp_of s expires files.snapshot)) files.timestamp
  pub versions : s.targets_version ≤ s.image_version
