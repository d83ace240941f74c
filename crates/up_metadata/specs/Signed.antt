-- Every file is signed for its role: so many of the role's keys are satisfied, over the text of the file's payload.
use Rattle.std.specs.Prelude.{◌≡◌, ℕ, List, [], ◌∷◌, Option, IfSome, IsTrue, map, option_map, option_to_list}
use Rattle.std.specs.List.{AllByRecursion}
use Rattle.serde_json.specs.Data.{Data}
use Rattle.up_canon.specs.Canon.{text}
use Rattle.up_sign.specs.Schemes.{Rules, IsScheme}
use Rattle.up_sign.specs.Envelopes.{is_accepted}
use Rattle.up_sign.specs.Formats.{envelope_text}
use Rattle.up_sign.specs.declared.envelope.Envelope.{Envelope}
use Rattle.up_roles.specs.declared.repository.Repository.{Repository}
use Rattle.up_roles.specs.Root.{root_payload}
use Rattle.up_roles.specs.Snapshot.{snapshot_payload}
use Rattle.up_roles.specs.Targets.{targets_payload}
use Rattle.up_roles.specs.Timestamp.{timestamp_payload}
use Rattle.up_metadata.specs.declared.keys.RoleSecrets.{RoleSecrets}
use Rattle.up_metadata.specs.declared.keys.KeySet.{KeySet}
use Rattle.up_metadata.specs.Keys.{repository_fits}
use Rattle.up_metadata.specs.Files.{keys_of, Root, root_file, root_text, MetadataSet, targets_file, targets_text, snapshot_file, snapshot_text, timestamp_file, timestamp_text}

-- the envelope is accepted under the role's keys and threshold
abbrev pub IsAcceptedBy : Rules → Envelope → RoleSecrets → Type 0
IsAcceptedBy k envelope role = IsTrue (is_accepted k (map k.public_of role.keys) role.threshold envelope)

-- the text is that of one envelope of the payload's text, which each of these roles accepts
pub record IsSignedFor (k : Rules) (roles : List RoleSecrets) (payload : Data) (file_text : List ℕ) : Type 0 where
  pub envelope : Envelope
  pub is : file_text ≡ envelope_text envelope
  pub signed : envelope.signed ≡ text payload
  pub accepted : AllByRecursion (IsAcceptedBy k envelope) roles

abbrev pub root_role : Repository → KeySet → RoleSecrets
root_role repository keys = (keys_of repository keys).root

-- the keys of a root version fit
abbrev pub HasFittingKeys : Rules → Repository → KeySet → Type 0
HasFittingKeys k repository keys = IsTrue (repository_fits k (keys_of repository keys))

-- a Root file is signed for its own root role and for that of the version before
abbrev pub RootFilesAreSigned : Type 0
RootFilesAreSigned = (k : Rules) (repository : Repository) (number : ℕ) (root : Root) (before : Option KeySet) → IsScheme k → HasFittingKeys k repository root.keys → IfSome before (HasFittingKeys k repository)
    → IsSignedFor k (root_role repository root.keys ∷ option_to_list (option_map (root_role repository) before)) (root_payload (root_file k repository number root)) (root_text k repository number root before)

-- the three files of a set are signed for their roles
pub record AreSignedFor (k : Rules) (m : MetadataSet) : Type 0 where
  pub targets : IsSignedFor k ((keys_of m.repository m.keys).targets ∷ []) (targets_payload (targets_file m)) (targets_text k m)
  pub snapshot : IsSignedFor k ((keys_of m.repository m.keys).snapshot ∷ []) (snapshot_payload (snapshot_file m)) (snapshot_text k m)
  pub timestamp : IsSignedFor k ((keys_of m.repository m.keys).timestamp ∷ []) (timestamp_payload (timestamp_file k m)) (timestamp_text k m)

abbrev pub RoleFilesAreSigned : Type 0
RoleFilesAreSigned = (k : Rules) (m : MetadataSet) → IsScheme k → IsTrue (repository_fits k (keys_of m.repository m.keys)) → AreSignedFor k m
