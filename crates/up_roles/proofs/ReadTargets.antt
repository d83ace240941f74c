-- The payload of a Targets file within its limits means the file.
use Rattle.std.proofs.Common.{◌≡◌, ℕ, List, [], ◌∷◌, true, ◌&&◌, Option, Some, None, map, refl}
use Rattle.std.specs.Prelude.{codes}
use Rattle.std.proofs.lemmas.Bool.{and_parts}
use Rattle.serde_json.specs.Data.{Data, string}
use Rattle.serde_json.specs.Find as json
use Rattle.serde_json.specs.View.{items_of}
use Rattle.up_canon.specs.Build.{list_with, count_value, hashes_value}
use Rattle.up_canon.specs.Names.{Name, is_ident}
use Rattle.up_canon.specs.Meaning.{HasText}
use Rattle.up_roles.specs.Meaning.{MeansIdent, MeansTarget, MeansTargets}
use Rattle.up_roles.specs.Payload.{payload, name_fits}
use Rattle.up_roles.specs.Targets.{target_value, target_fits, target_is_typed, targets_payload, targets_fits, targets_is_typed}
use Rattle.up_roles.specs.declared.repository.Repository.{Repository}
use Rattle.up_roles.specs.declared.targets.Target.{Target}
use Rattle.up_roles.specs.declared.targets.TargetsFile.{TargetsFile}
use Rattle.up_roles.proofs.Heads.{HasHead, HasNamed, head_means, name_means, count_means, sha256_means, sha512_means, each_means, all_both}

-- ---- one target

record HasTarget (target : Target) (d : Data) : Type 0 where
  ecu_is : HasNamed (codes "ecu") target.ecu d
  file_is : HasText d (codes "file") target.file
  hardware_is : json.get (codes "hardware") d ≡ Some (list_with (map string target.hardware))
  hashes_is : json.get (codes "hashes") d ≡ Some (hashes_value target.sha256 target.sha512)
  length_is : json.get (codes "length") d ≡ Some (count_value target.length)
  release_is : json.get (codes "release") d ≡ Some (count_value target.release)

abbrev made : Option Name → Name → ℕ → List ℕ → Option (List ℕ) → List Name → ℕ → Target
made ecu file size sha256 sha512 hardware release = record { ecu = ecu; file = file; length = size; sha256 = sha256; sha512 = sha512; hardware = hardware; release = release }

has_target : (ecu : Option Name) (file : Name) (size : ℕ) (sha256 : List ℕ) (sha512 : Option (List ℕ)) (hardware : List Name) (release : ℕ)
    → HasTarget (made ecu file size sha256 sha512 hardware release) (target_value (made ecu file size sha256 sha512 hardware release))
has_target None file size sha256 sha512 hardware release = record { ecu_is = tt; file_is = refl; hardware_is = refl; hashes_is = refl; length_is = refl; release_is = refl }
has_target (Some name) file size sha256 sha512 hardware release = record { ecu_is = refl; file_is = refl; hardware_is = refl; hashes_is = refl; length_is = refl; release_is = refl }

target_means : (r : Repository) (target : Target) → (target_fits r target && target_is_typed target) ≡ true → MeansTarget r (target_value target) target
target_means r target h =
    let both = and_parts (target_fits r target) _ h in
    let f = and_parts (name_fits r target.ecu) _ both.0 in
    let release = and_parts _ _ both.1 in
    let hardware = and_parts _ _ release.0 in
    let second = and_parts _ _ hardware.0 in
    let hash = and_parts _ _ second.0 in
    let size = and_parts _ _ hash.0 in
    let file = and_parts _ _ size.0 in
    let d = target_value target in
    let has : HasTarget target d = has_target target.ecu target.file target.length target.sha256 target.sha512 target.hardware target.release in
    record {
      ecu = name_means r d (codes "ecu") target.ecu f.0 file.0 has.ecu_is;
      file = has.file_is;
      file_fits = file.1;
      kinds = items_of (map string target.hardware);
      has_hardware = has.hardware_is;
      hardware = each_means MeansIdent string is_ident (λ name fits. (refl, fits)) target.hardware hardware.1;
      some_distinct = f.1;
      sha256 = sha256_means d target.sha256 target.sha512 has.hashes_is hash.1;
      sha512 = sha512_means d target.sha256 target.sha512 has.hashes_is second.1;
      size = count_means d (codes "length") target.length has.length_is size.1;
      release = count_means d (codes "release") target.release has.release_is release.1;
    }

-- ---- the file

record HasTargets (r : Repository) (version expires : ℕ) (vehicle : Option Name) (value d : Data) : Type 0 where
  head : HasHead (codes "targets") r version expires d
  vehicle_is : HasNamed (codes "vehicle") vehicle d
  targets_is : json.get (codes "targets") d ≡ Some value

has_targets : (r : Repository) (version expires : ℕ) (vehicle : Option Name) (value : Data)
    → HasTargets r version expires vehicle value (payload (codes "targets") r version expires vehicle ((codes "targets", value) ∷ []))
has_targets r version expires None value = record { head = record { kind_is = refl; repository_is = refl; version_is = refl; expires_is = refl }; vehicle_is = tt; targets_is = refl }
has_targets r version expires (Some name) value = record { head = record { kind_is = refl; repository_is = refl; version_is = refl; expires_is = refl }; vehicle_is = refl; targets_is = refl }

pub targets_means : (file : TargetsFile) → targets_fits file ≡ true → targets_is_typed file ≡ true → MeansTargets (targets_payload file) file
unfolding targets_payload
targets_means file fits typed =
    let distinct = and_parts _ _ fits in
    let each = and_parts _ _ distinct.0 in
    let f = and_parts _ _ each.0 in
    let t = and_parts _ _ typed in
    let s = and_parts _ _ t.0 in
    let value = list_with (map target_value file.targets) in
    let d = payload (codes "targets") file.repository file.version file.expires file.vehicle ((codes "targets", value) ∷ []) in
    let has = has_targets file.repository file.version file.expires file.vehicle value in
    let both = λ (target : Target). target_fits file.repository target && target_is_typed target in
    record {
      head = head_means (codes "targets") d file.repository file.version file.expires has.head f.0 s.0;
      vehicle = name_means file.repository d (codes "vehicle") file.vehicle f.1 s.1 has.vehicle_is;
      listed = items_of (map target_value file.targets);
      has_targets = has.targets_is;
      targets = each_means (MeansTarget file.repository) target_value both (target_means file.repository) file.targets (all_both (target_fits file.repository) target_is_typed file.targets each.1 t.1);
      distinct = distinct.1;
    }
