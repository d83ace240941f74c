-- Targets files: images, and in the Director's the ECU that installs each.
use Rattle.std.specs.Prelude.{◌≡◌, ℕ, ◌&&◌, List, [], ◌∷◌, Bool, nat_le, false, bytes_eq, option_map, option_to_list, map, filter_map, codes, Option, Some, None, Result, Ok}
use Rattle.std.specs.BTreeSet.{BTreeSet, contains_by}
use Rattle.std.specs.Cmp.Lexicographic.{slice_cmp}
use Rattle.std.specs.List.{list_all, list_any}
use Rattle.std.specs.Ordering.{nat_cmp}
use Rattle.serde_json.specs.Data.{Data, string}
use Rattle.up_canon.specs.Canon.{max_count}
use Rattle.up_canon.specs.Members.{list_in, object_of}
use Rattle.up_canon.specs.Names.{Name, is_ident, is_file_name, are_distinct, hardware_fits}
use Rattle.up_canon.specs.Readers.{ident_of, fitting}
use Rattle.up_canon.specs.Steps.{◌>>=◌, each}
use Rattle.up_canon.specs.declared.refusal.Refusal.{Refusal}
use Rattle.up_sign.specs.Schemes.{Rules}
use Rattle.up_sign.specs.declared.envelope.Envelope.{Envelope}
use Rattle.up_roles.specs.Parts.{few_part, ident_part, file_name_part, count_part, sha256_part, sha512_part}
use Rattle.up_canon.specs.Build.{object_with, list_with, count_value, hashes_value}
use Rattle.up_canon.specs.HexText.{is_hash, is_second_hash}
use Rattle.up_roles.specs.Payload.{payload, sealed_text, version_fits, name_fits, is_moment, is_named, head_in, vehicle_in, file_in}
use Rattle.up_roles.specs.declared.repository.Repository.{Repository}
use Rattle.up_roles.specs.declared.repository.Repository.TheVariants.{Director, Image}
use Rattle.up_roles.specs.declared.targets.Target.{Target}
use Rattle.up_roles.specs.declared.targets.TargetsFile.{TargetsFile}
use denote.Ref.{Bor}

-- ---- the payload

abbrev pub target_members : Target → List (List ℕ × Data)
target_members target =
    (codes "file", string target.file) ∷ (codes "hardware", list_with (map string target.hardware))
    ∷ (codes "hashes", hashes_value target.sha256 target.sha512) ∷ (codes "length", count_value target.length) ∷ (codes "release", count_value target.release)
    ∷ option_to_list (option_map (λ name. (codes "ecu", string name)) target.ecu)

abbrev pub target_value : Target → Data
target_value target = object_with (target_members target)

unfoldable pub targets_payload : TargetsFile → Data
targets_payload file = payload (codes "targets") file.repository file.version file.expires file.vehicle (
    (codes "targets", list_with (map target_value file.targets)) ∷ [])

unfoldable pub targets_text_of : Rules → List (List ℕ) → TargetsFile → List ℕ
targets_text_of k secrets file = sealed_text k secrets (targets_payload file)

-- ---- its limits

abbrev pub target_fits : Repository → Target → Bool
target_fits repository target = name_fits repository target.ecu && hardware_fits target.hardware

-- the ECUs that are named
abbrev pub ecus_of : List Target → List Name
ecus_of targets = filter_map (λ target. target.ecu) targets

-- whether a target names one of these ECUs
abbrev pub repeats_ecu : List Name → Option Name → Bool
repeats_ecu ecus None = false
repeats_ecu ecus (Some ecu) = list_any (bytes_eq ecu) ecus

-- the set has these names
abbrev pub IsSeen : BTreeSet (Bor Name) → List Name → Type 0
IsSeen seen names = (q : Name) → contains_by (λ k. slice_cmp nat_cmp q k.now) seen ≡ list_any (bytes_eq q) names

abbrev pub targets_fits : TargetsFile → Bool
targets_fits file =
    version_fits file.version && name_fits file.repository file.vehicle && list_all (target_fits file.repository) file.targets
    && are_distinct (ecus_of file.targets)

-- what the types of the fields keep
abbrev pub target_is_typed : Target → Bool
target_is_typed target =
    is_named target.ecu && is_file_name target.file && nat_le target.length max_count && is_hash target.sha256 && is_second_hash target.sha512
    && list_all is_ident target.hardware && nat_le target.release max_count

abbrev pub targets_is_typed : TargetsFile → Bool
targets_is_typed file = is_moment file.expires && is_named file.vehicle && list_all target_is_typed file.targets

-- ---- what a payload value means

-- the ECU that the Director names
unfoldable pub ecu_of : Repository → Data → Result (Option Name) Refusal
ecu_of Director d = do
  ecu ← ident_part (codes "targets") (codes "ecu") d
  Ok (Some ecu)
ecu_of Image d = Ok None

unfoldable pub hardware_of : Data → Result (List Name) Refusal
hardware_of d = do
  values ← few_part 1 16 (codes "targets") (codes "hardware") d
  hardware ← each (ident_of (codes "targets")) values
  fitting are_distinct (codes "targets") hardware

unfoldable pub target_of : Repository → Data → Result Target Refusal
target_of repository value = do
  d ← object_of (codes "targets") value
  ecu ← ecu_of repository d
  file ← file_name_part (codes "targets") (codes "file") d
  hardware ← hardware_of d
  sha256 ← sha256_part (codes "targets") d
  size ← count_part (codes "targets") (codes "length") d
  release ← count_part (codes "targets") (codes "release") d
  Ok (record { ecu = ecu; file = file; length = size; sha256 = sha256; sha512 = sha512_part d; hardware = hardware; release = release })

unfoldable pub target_list_in : Repository → Data → Result (List Target) Refusal
target_list_in repository d = do
  values ← list_in (codes "targets") d
  targets ← each (target_of repository) values
  fitting (λ ts. are_distinct (ecus_of ts)) (codes "targets") targets

unfoldable pub targets_of : Data → Result TargetsFile Refusal
targets_of d = do
  head ← head_in (codes "targets") d
  vehicle ← vehicle_in head.repository d
  targets ← target_list_in head.repository d
  Ok (record { repository = head.repository; version = head.version; expires = head.expires; vehicle = vehicle; targets = targets })

-- the file and its envelope that the bytes mean, or the first fault
unfoldable pub targets_in : List ℕ → Result (TargetsFile × Envelope) Refusal
targets_in bytes = file_in targets_of bytes
