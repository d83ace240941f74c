-- The files of a root version and those of the other three roles, which are made together, as functions of what they are made of.
use Rattle.std.specs.Prelude.{ℕ, ◌+◌, ◌++◌, List, [], not, Option, option_map, unwrap_or, map, filter, bytes_eq}
use Rattle.std.specs.List.{list_any}
use Rattle.sha2.specs.Sha256.{sha256}
use Rattle.up_canon.specs.Names.{Name}
use Rattle.up_sign.specs.Envelopes.{identifier}
use Rattle.up_sign.specs.Schemes.{Rules}
use Rattle.up_roles.specs.declared.repository.Repository.{Repository}
use Rattle.up_roles.specs.declared.repository.Repository.TheVariants.{Director, Image}
use Rattle.up_roles.specs.declared.root.RootKey.{RootKey}
use Rattle.up_roles.specs.declared.root.RoleKeys.{RoleKeys}
use Rattle.up_roles.specs.declared.root.RootFile.{RootFile}
use Rattle.up_roles.specs.declared.snapshot.SnapshotFile.{SnapshotFile}
use Rattle.up_roles.specs.declared.targets.Target.{Target}
use Rattle.up_roles.specs.declared.targets.TargetsFile.{TargetsFile}
use Rattle.up_roles.specs.declared.timestamp.TimestampFile.{TimestampFile}
use Rattle.up_roles.specs.Lifetimes.{lifetimes}
use Rattle.up_roles.specs.Root.{root_text_of}
use Rattle.up_roles.specs.Targets.{targets_text_of}
use Rattle.up_roles.specs.Snapshot.{snapshot_text_of}
use Rattle.up_roles.specs.Timestamp.{timestamp_text_of}
use Rattle.up_metadata.specs.declared.keys.RoleSecrets.{RoleSecrets}
use Rattle.up_metadata.specs.declared.keys.RepoKeys.{RepoKeys}
use Rattle.up_metadata.specs.declared.keys.KeySet.{KeySet}
use Rattle.up_metadata.specs.declared.role_files.RoleTexts.{RoleTexts}

abbrev pub keys_of : Repository → KeySet → RepoKeys
keys_of Director keys = keys.director
keys_of Image keys = keys.image

-- ---- Root files

-- a root version of both repositories: the keys and the moment
pub record Root : Type 0 where
  pub keys : KeySet
  pub at : ℕ

abbrev pub root_key : Rules → List ℕ → RootKey
root_key k secret = record { keyid = identifier k secret; method = k.method; shown = k.shown (k.public_of secret) }

abbrev pub role_keys : Rules → RoleSecrets → RoleKeys
role_keys k role = record { keys = map (root_key k) role.keys; threshold = role.threshold }

-- it expires its lifetime after the root's moment
abbrev pub root_file : Rules → Repository → ℕ → Root → RootFile
root_file k repository number root =
    let keys = keys_of repository root.keys in
    record {
      repository = repository;
      version = number;
      expires = root.at + (lifetimes repository).root;
      root = role_keys k keys.root;
      targets = role_keys k keys.targets;
      snapshot = role_keys k keys.snapshot;
      timestamp = role_keys k keys.timestamp;
    }

-- the root keys of the version before; none where there is none
abbrev pub root_secrets : Repository → Option KeySet → List (List ℕ)
root_secrets repository before = unwrap_or (option_map (λ keys. (keys_of repository keys).root.keys) before) []

-- a Root file is signed by its own root keys, and by those of the version before that aren't among them
abbrev pub root_signers : Repository → Root → Option KeySet → List (List ℕ)
root_signers repository root before =
    let own = (keys_of repository root.keys).root.keys in
    own ++ filter (λ secret. not (list_any (bytes_eq secret) own)) (root_secrets repository before)

-- the text of the Root file of this number, given the keys of the version before it
unfoldable pub root_text : Rules → Repository → ℕ → Root → Option KeySet → List ℕ
root_text k repository number root before = root_text_of k (root_signers repository root before) (root_file k repository number root)

-- ---- Targets, Snapshot and Timestamp files, which are made together

-- what the three files are made of: repository, keys, vehicle in the Director's, their version, the moment, and the targets
pub record MetadataSet : Type 0 where
  pub repository : Repository
  pub keys : KeySet
  pub vehicle : Option Name
  pub version : ℕ
  pub at : ℕ
  pub targets : List Target

abbrev pub targets_file : MetadataSet → TargetsFile
targets_file m = record {
  repository = m.repository;
  version = m.version;
  expires = m.at + (lifetimes m.repository).targets;
  vehicle = m.vehicle;
  targets = m.targets;
}

unfoldable pub targets_text : Rules → MetadataSet → List ℕ
targets_text k m = targets_text_of k (keys_of m.repository m.keys).targets.keys (targets_file m)

abbrev pub snapshot_file : MetadataSet → SnapshotFile
snapshot_file m = record {
  repository = m.repository;
  version = m.version;
  expires = m.at + (lifetimes m.repository).snapshot;
  vehicle = m.vehicle;
  targets_version = m.version;
}

unfoldable pub snapshot_text : Rules → MetadataSet → List ℕ
snapshot_text k m = snapshot_text_of k (keys_of m.repository m.keys).snapshot.keys (snapshot_file m)

-- it names the hash of the Snapshot file's text
abbrev pub timestamp_file : Rules → MetadataSet → TimestampFile
timestamp_file k m = record {
  repository = m.repository;
  version = m.version;
  expires = m.at + (lifetimes m.repository).timestamp;
  vehicle = m.vehicle;
  snapshot_version = m.version;
  snapshot_sha256 = sha256 (snapshot_text k m);
}

unfoldable pub timestamp_text : Rules → MetadataSet → List ℕ
timestamp_text k m = timestamp_text_of k (keys_of m.repository m.keys).timestamp.keys (timestamp_file k m)

abbrev pub role_texts : Rules → MetadataSet → RoleTexts
role_texts k m = record { targets = targets_text k m; snapshot = snapshot_text k m; timestamp = timestamp_text k m }
