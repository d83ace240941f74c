-- The texts of payloads, piece by piece as they are written.
use Rattle.std.proofs.Common.{◌≡◌, ℕ, List, [], ◌∷◌, ◌++◌, Option, Some, None, map, refl, sym, ap, ◌∙◌, append_assoc}
use Rattle.std.specs.Prelude.{codes, decimal, option_map, unwrap_or}
use Rattle.serde_json.specs.Data.{Data, string}
use Rattle.up_canon.specs.Build.{list_with, hashes_value}
use Rattle.up_canon.specs.Canon.{json_string, text}
use Rattle.up_canon.specs.Moments.{moment_text}
use Rattle.up_canon.specs.Names.{Name}
use Rattle.up_roles.specs.Payload.{payload, repository_text}
use Rattle.up_roles.specs.Snapshot.{snapshot_meta}
use Rattle.up_roles.specs.Targets.{target_value}
use Rattle.up_roles.specs.Timestamp.{timestamp_meta}
use Rattle.up_roles.specs.declared.repository.Repository.{Repository}
use Rattle.up_roles.specs.declared.snapshot.SnapshotFile.{SnapshotFile}
use Rattle.up_roles.specs.declared.targets.Target.{Target}
use Rattle.up_roles.specs.declared.timestamp.TimestampFile.{TimestampFile}

-- the vehicle, where there is one
abbrev pub vehicle_text : Option Name → List ℕ
vehicle_text vehicle = unwrap_or (option_map (λ name. codes ",\"vehicle\":" ++ json_string name) vehicle) []

-- the same, the version, and the end
abbrev pub end_text : Option Name → ℕ → List ℕ
end_text vehicle version = vehicle_text vehicle ++ (codes ",\"version\":" ++ (decimal version ++ codes "}"))

-- the entry of the Targets file
pub snapshot_meta_text : (file : SnapshotFile) → codes ",\"meta\":{\"targets.json\":{\"version\":" ++ (decimal file.targets_version ++ codes "}}") ≡ codes ",\"meta\":" ++ text (snapshot_meta file)
snapshot_meta_text file =
    ap (λ (t : List ℕ). codes ",\"meta\":{\"targets.json\":{\"version\":" ++ t) (sym (append_assoc (decimal file.targets_version) (codes "}") (codes "}")))

-- the entry of the Snapshot file
entry_text : (hashes : List ℕ) (version : ℕ)
    → hashes ++ (codes ",\"version\":" ++ (decimal version ++ codes "}}")) ≡ (hashes ++ (codes ",\"version\":" ++ (decimal version ++ codes "}"))) ++ codes "}"
entry_text hashes version =
    sym (
    append_assoc hashes (codes ",\"version\":" ++ (decimal version ++ codes "}")) (codes "}")
    ∙ ap (λ (t : List ℕ). hashes ++ (codes ",\"version\":" ++ t)) (append_assoc (decimal version) (codes "}") (codes "}"))
    )

pub timestamp_meta_text : (file : TimestampFile)
    → codes ",\"meta\":{\"snapshot.json\":{\"hashes\":" ++ (text (hashes_value file.snapshot_sha256 None) ++ (codes ",\"version\":" ++ (decimal file.snapshot_version ++ codes "}}")))
    ≡ codes ",\"meta\":" ++ text (timestamp_meta file)
timestamp_meta_text file =
    ap (λ (t : List ℕ). codes ",\"meta\":{\"snapshot.json\":{\"hashes\":" ++ t) (entry_text (text (hashes_value file.snapshot_sha256 None)) file.snapshot_version)

-- of a file that lists another one
pub listing_text : (kind : List ℕ) (r : Repository) (version expires : ℕ) (vehicle : Option Name) (meta : Data)
    → (codes "{\"expires\":" ++ json_string (moment_text expires)) ++ ((codes ",\"meta\":" ++ text meta) ++ ((codes ",\"repository\":" ++ json_string (repository_text r))
    ++ ((codes ",\"type\":" ++ json_string kind) ++ end_text vehicle version)))
    ≡ text (payload kind r version expires vehicle ((codes "meta", meta) ∷ []))
listing_text kind r version expires None meta = refl
listing_text kind r version expires (Some name) meta = refl

-- of a file that lists targets
pub targets_text : (r : Repository) (version expires : ℕ) (vehicle : Option Name) (targets : List Target)
    → (codes "{\"expires\":" ++ json_string (moment_text expires)) ++ ((codes ",\"repository\":" ++ json_string (repository_text r))
    ++ (codes ",\"targets\":" ++ (text (list_with (map target_value targets)) ++ (codes ",\"type\":\"targets\"" ++ end_text vehicle version))))
    ≡ text (payload (codes "targets") r version expires vehicle ((codes "targets", list_with (map target_value targets)) ∷ []))
targets_text r version expires None targets = refl
targets_text r version expires (Some name) targets = refl

-- the ECU, where there is one
abbrev pub ecu_text : Option Name → List ℕ
ecu_text ecu = unwrap_or (option_map (λ name. codes "\"ecu\":" ++ (json_string name ++ codes ",")) ecu) []

-- the members behind the ECU
abbrev pub image_text : Target → List ℕ
image_text t =
    codes "\"file\":" ++ (json_string t.file ++ (codes ",\"hardware\":" ++ (text (list_with (map string t.hardware)) ++ (codes ",\"hashes\":" ++ (text (hashes_value t.sha256 t.sha512)
    ++ (codes ",\"length\":" ++ (decimal t.length ++ (codes ",\"release\":" ++ (decimal t.release ++ codes "}")))))))))

pub target_text : (t : Target) → (codes "{" ++ ecu_text t.ecu) ++ image_text t ≡ text (target_value t)
target_text t = by_ecu t.ecu
  where
    by_ecu : (ecu : Option Name) → (codes "{" ++ ecu_text ecu) ++ image_text t ≡ text (target_value (record { ecu = ecu; file = t.file; length = t.length; sha256 = t.sha256; sha512 = t.sha512; hardware = t.hardware; release = t.release }))
    by_ecu None = refl
    by_ecu (Some name) = ap (λ (rest : List ℕ). codes "{\"ecu\":" ++ rest) (append_assoc (json_string name) (codes ",") (image_text t))
