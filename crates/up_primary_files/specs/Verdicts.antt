-- What is told of a verdict: lines of text, in the names of the refusals.
use Rattle.std.specs.Prelude.{◌≡◌, ◌++◌, ℕ, List, [], ◌∷◌, Bool, true, false, if◌then◌else◌, Option, Some, None, Result, Ok, Err, codes, decimal, flat_map, string_bytes}
use Rattle.hex.specs.Hex.{encode_lower}
use Rattle.up_canon.specs.Names.{Name}
use Rattle.up_canon.specs.Refusals.{refusal_text}
use Rattle.up_sign.specs.Hmac.{hmac_sha256}
use Rattle.up_shown.specs.Showing.{reads_none}
use Rattle.up_ed25519.specs.Scheme.{ed25519}
use Rattle.up_ed25519.specs.Shows.{read_shown}
use Rattle.up_roles.specs.declared.repository.Repository.{Repository}
use Rattle.up_roles.specs.declared.repository.Repository.TheVariants.{Director, Image}
use Rattle.up_roles.specs.declared.targets.Target.{Target}
use Rattle.up_verify.specs.declared.refused.Fault.{Fault}
use Rattle.up_verify.specs.declared.refused.Fault.TheVariants.{Unread, OtherRepository, OtherVehicle, NotNext, UnknownKey, NotSignedBefore, NotSigned, NotNamed, GoesBack, Expired}
use Rattle.up_verify.specs.declared.refused.Role.{Role}
use Rattle.up_verify.specs.declared.refused.Role.TheVariants.{Root, Timestamp, Snapshot, Targets}
use Rattle.up_verify.specs.declared.refused.Refused.{Refused}
use Rattle.up_verify.specs.declared.refused.Refused.TheVariants.{Memory, File, WrongVehicle, UnknownRoot, OldRoot, MixedVersions, UnnamedEcu, ReplacedEcu, UnknownEcu, UnknownImage, WrongHardware, LowerRelease}
use Rattle.up_verify.specs.declared.served.Accepted.{Accepted}
use Rattle.up_verify.specs.declared.served.Served.{Served}
use Rattle.up_verify.specs.declared.trust.Primary.{Primary}
use Rattle.up_verify.specs.Verifiers.{Verifier, verifier}
use Rattle.up_verify.specs.Verify.{verify, after, is_old}
use Rattle.up_primary_files.specs.declared.method.Method.{Method}
use Rattle.up_primary_files.specs.declared.method.Method.TheVariants.{Hmac, Ed25519}
use Rattle.up_primary_files.specs.declared.judged.Judged.{Judged}

-- ---- the named refusal

abbrev pub repository_word : Repository → List ℕ
repository_word Director = codes "director"
repository_word Image = codes "image"

abbrev pub role_word : Role → List ℕ
role_word Root = codes "root"
role_word Timestamp = codes "timestamp"
role_word Snapshot = codes "snapshot"
role_word Targets = codes "targets"

abbrev pub fault_text : Fault → List ℕ
fault_text (Unread refusal) = refusal_text refusal
fault_text OtherRepository = codes "OtherRepository"
fault_text OtherVehicle = codes "OtherVehicle"
fault_text NotNext = codes "NotNext"
fault_text UnknownKey = codes "UnknownKey"
fault_text NotSignedBefore = codes "NotSignedBefore"
fault_text NotSigned = codes "NotSigned"
fault_text NotNamed = codes "NotNamed"
fault_text GoesBack = codes "GoesBack"
fault_text Expired = codes "Expired"

-- two words, apart by a space
abbrev pub apart : List ℕ → List ℕ → List ℕ
apart a b = a ++ 32 ∷ b

abbrev pub refused_text : Refused → List ℕ
refused_text Memory = codes "Memory"
refused_text (File repository role fault) = apart (apart (repository_word repository) (role_word role)) (fault_text fault)
refused_text WrongVehicle = codes "WrongVehicle"
refused_text UnknownRoot = codes "UnknownRoot"
refused_text OldRoot = codes "OldRoot"
refused_text MixedVersions = codes "MixedVersions"
refused_text UnnamedEcu = codes "UnnamedEcu"
refused_text (ReplacedEcu ecu) = apart (codes "ReplacedEcu") ecu
refused_text (UnknownEcu ecu) = apart (codes "UnknownEcu") ecu
refused_text (UnknownImage file) = apart (codes "UnknownImage") file
refused_text (WrongHardware ecu) = apart (codes "WrongHardware") ecu
refused_text (LowerRelease ecu) = apart (codes "LowerRelease") ecu

abbrev pub refused_word : Refused → List ℕ
refused_word refused = if is_old refused then codes "old" else codes "refused"

-- ---- what is to be installed

abbrev pub ecu_text : Option Name → List ℕ
ecu_text None = []
ecu_text (Some ecu) = ecu

-- a space and the hash, where there is one
abbrev pub hash_text : List ℕ → List ℕ
hash_text hash = 32 ∷ encode_lower hash

abbrev pub second_hash_text : Option (List ℕ) → List ℕ
second_hash_text None = []
second_hash_text (Some hash) = hash_text hash

abbrev pub names_text : Target → List ℕ
names_text t = codes "install " ++ apart (ecu_text t.ecu) t.file

abbrev pub hashes_text : Target → List ℕ
hashes_text t = hash_text t.sha256 ++ 32 ∷ decimal t.release ++ second_hash_text t.sha512

-- the ECU, the filename, the length, the SHA-256, the release and the SHA-512
abbrev pub install_line : Target → List ℕ
install_line t = names_text t ++ 32 ∷ decimal t.length ++ hashes_text t ++ codes "\n"

-- ---- the verdict

abbrev pub verdict_text : Result Accepted Refused → List ℕ
verdict_text (Ok accepted) = codes "accepted\n" ++ flat_map install_line accepted.installs
verdict_text (Err refused) = apart (refused_word refused) (refused_text refused) ++ codes "\n"

abbrev pub is_accepted : Result Accepted Refused → Bool
is_accepted (Ok accepted) = true
is_accepted (Err refused) = false

-- what verifies by a scheme, with the public parts that are held
abbrev pub verifier_by : Method → List (List ℕ) → Verifier
verifier_by Hmac held = verifier hmac_sha256 reads_none held
verifier_by Ed25519 held = verifier ed25519 read_shown held

-- The verdict is the definition's, told as its text, and what is known and trusted behind it is the definition's too.
pub record IsJudged (v : Verifier) (now : ℕ) (p : Primary) (served : Served) (judged : Judged) : Type 0 where
  pub verdict : judged.is_accepted ≡ is_accepted (verify v now p served)
  pub told : string_bytes judged.told ≡ verdict_text (verify v now p served)
  pub next : judged.next ≡ after v p served (verify v now p served)
