-- What the calls ask for that write the files of a root version and those of the other three roles, and what they answer.
use Rattle.std.specs.Prelude.{◌≡◌, ℕ, ◌≤◌, List, Bool, Option, IsTrue, Result, IfOk, OnOk, true}
use Rattle.std.specs.List.{list_all}
use Rattle.serde_json.specs.Data.{Data}
use Rattle.up_canon.specs.Moments.{last_command_moment}
use Rattle.up_canon.specs.Names.{Name, are_distinct}
use Rattle.up_sign.specs.Schemes.{Rules}
use Rattle.up_roles.specs.declared.repository.Repository.{Repository}
use Rattle.up_roles.specs.declared.targets.Target.{Target}
use Rattle.up_roles.specs.Payload.{IsCanonical, version_fits, name_fits}
use Rattle.up_roles.specs.Root.{root_payload, root_is_typed}
use Rattle.up_roles.specs.Snapshot.{snapshot_payload, snapshot_is_typed}
use Rattle.up_roles.specs.Targets.{targets_payload, targets_is_typed, target_fits, ecus_of}
use Rattle.up_roles.specs.Timestamp.{timestamp_payload, timestamp_is_typed}
use Rattle.up_metadata.specs.declared.keys.KeySet.{KeySet}
use Rattle.up_metadata.specs.declared.role_files.RoleTexts.{RoleTexts}
use Rattle.up_metadata.specs.Keys.{repository_fits}
use Rattle.up_metadata.specs.Files.{Root, keys_of, root_file, root_text, MetadataSet, targets_file, snapshot_file, timestamp_file, role_texts}

-- ---- Root files

-- the keys fit, and the number and the moment are within their limits
pub record CanWriteRoot (k : Rules) (repository : Repository) (n : ℕ) (root : Root) : Type 0 where
  pub keys : IsTrue (repository_fits k (keys_of repository root.keys))
  pub number : IsTrue (version_fits n)
  pub moment : root.at ≤ last_command_moment

-- the text, given the keys of the version before, of a payload that has a canonical text; and what the types of the file's
-- fields keep
pub record WritesRoot {E : Type 0} (k : Rules) (repository : Repository) (number : ℕ) (root : Root) (before : Option KeySet) (r : Result (List ℕ) E) : Type 0 where
  pub value : IfOk r (λ text. text ≡ root_text k repository number root before)
  pub canonical : OnOk r (IsCanonical (root_payload (root_file k repository number root)))
  pub typed : OnOk r (root_is_typed (root_file k repository number root) ≡ true)

-- ---- Targets, Snapshot and Timestamp files

abbrev pub metadata_set : Repository → KeySet → Option Name → ℕ → ℕ → List Target → MetadataSet
metadata_set repository keys vehicle version at targets =
    record { repository = repository; keys = keys; vehicle = vehicle; version = version; at = at; targets = targets }

-- what the three files say is within their limits
pub record CanWriteFiles (m : MetadataSet) : Type 0 where
  pub version : IsTrue (version_fits m.version)
  pub moment : m.at ≤ last_command_moment
  pub vehicle : IsTrue (name_fits m.repository m.vehicle)
  pub targets : IsTrue (list_all (target_fits m.repository) m.targets)
  pub ecus : IsTrue (are_distinct (ecus_of m.targets))

-- each payload has a canonical text
pub record AreCanonical (k : Rules) (m : MetadataSet) : Type 0 where
  pub targets : IsCanonical (targets_payload (targets_file m))
  pub snapshot : IsCanonical (snapshot_payload (snapshot_file m))
  pub timestamp : IsCanonical (timestamp_payload (timestamp_file k m))

-- what the types of each file's fields keep
pub record AreTyped (k : Rules) (m : MetadataSet) : Type 0 where
  pub targets : targets_is_typed (targets_file m) ≡ true
  pub snapshot : snapshot_is_typed (snapshot_file m) ≡ true
  pub timestamp : timestamp_is_typed (timestamp_file k m) ≡ true

-- the text of one file, as `IsWritten` says it of a string
pub record WritesFile {E : Type 0} (payload : Data) (file_text : List ℕ) (kept : Bool) (r : Result (List ℕ) E) : Type 0 where
  pub value : IfOk r (λ t. t ≡ file_text)
  pub canonical : OnOk r (IsCanonical payload)
  pub typed : OnOk r (kept ≡ true)

-- the three texts, of payloads that have a canonical text; and what the types of the files' fields keep
pub record WritesFiles {E : Type 0} (k : Rules) (m : MetadataSet) (r : Result RoleTexts E) : Type 0 where
  pub value : IfOk r (λ texts. texts ≡ role_texts k m)
  pub canonical : OnOk r (AreCanonical k m)
  pub typed : OnOk r (AreTyped k m)
