-- Laws of role files: what bytes mean, and that what was written is read again as the same file.
use Rattle.std.specs.Prelude.{◌≡◌, ℕ, ◌≤◌, List, IsTrue, length, Result, Ok, MatchResult}
use Rattle.std.specs.List.{list_all}
use Rattle.serde_json.specs.Data.{Data}
use Rattle.up_canon.specs.Canon.{text}
use Rattle.up_canon.specs.declared.refusal.Refusal.{Refusal}
use Rattle.up_sign.specs.Envelopes.{sealed_envelope}
use Rattle.up_sign.specs.Laws.{IsTextFault}
use Rattle.up_sign.specs.Schemes.{Rules, IsScheme}
use Rattle.up_sign.specs.declared.envelope.Envelope.{Envelope}
use Rattle.up_roles.specs.Meaning.{MeansRoot, MeansTargets, MeansSnapshot, MeansTimestamp, MeansFile}
use Rattle.up_roles.specs.Payload.{largest_file}
use Rattle.up_roles.specs.Root.{all_keys, keys_agree, root_payload, root_text_of, root_fits, root_is_typed, root_in}
use Rattle.up_roles.specs.Snapshot.{snapshot_payload, snapshot_text_of, snapshot_fits, snapshot_is_typed, snapshot_in}
use Rattle.up_roles.specs.Targets.{targets_payload, targets_text_of, targets_fits, targets_is_typed, targets_in}
use Rattle.up_roles.specs.Timestamp.{timestamp_payload, timestamp_text_of, timestamp_fits, timestamp_is_typed, timestamp_in}
use Rattle.up_roles.specs.declared.root.RootFile.{RootFile}
use Rattle.up_roles.specs.declared.snapshot.SnapshotFile.{SnapshotFile}
use Rattle.up_roles.specs.declared.targets.TargetsFile.{TargetsFile}
use Rattle.up_roles.specs.declared.timestamp.TimestampFile.{TimestampFile}

-- ---- writing

-- 1 to 8 secrets that fit a scheme
pub record AreSigners (k : Rules) (secrets : List (List ℕ)) : Type 0 where
  pub scheme : IsScheme k
  pub fit : IsTrue (list_all k.secret_fits secrets)
  pub some : 1 ≤ length secrets
  pub few : length secrets ≤ 8

-- A file within the limits of its role, whose text isn't too large, is read from its text, with the envelope that was sealed.
abbrev pub TimestampsAreRead : Type 0
TimestampsAreRead = (k : Rules) (secrets : List (List ℕ)) (file : TimestampFile) → AreSigners k secrets → IsTrue (timestamp_fits file) → IsTrue (timestamp_is_typed file)
    → length (timestamp_text_of k secrets file) ≤ largest_file
    → timestamp_in (timestamp_text_of k secrets file) ≡ Ok (file, sealed_envelope k secrets (text (timestamp_payload file)))

abbrev pub SnapshotsAreRead : Type 0
SnapshotsAreRead = (k : Rules) (secrets : List (List ℕ)) (file : SnapshotFile) → AreSigners k secrets → IsTrue (snapshot_fits file) → IsTrue (snapshot_is_typed file)
    → length (snapshot_text_of k secrets file) ≤ largest_file
    → snapshot_in (snapshot_text_of k secrets file) ≡ Ok (file, sealed_envelope k secrets (text (snapshot_payload file)))

abbrev pub TargetsAreRead : Type 0
TargetsAreRead = (k : Rules) (secrets : List (List ℕ)) (file : TargetsFile) → AreSigners k secrets → IsTrue (targets_fits file) → IsTrue (targets_is_typed file)
    → length (targets_text_of k secrets file) ≤ largest_file
    → targets_in (targets_text_of k secrets file) ≡ Ok (file, sealed_envelope k secrets (text (targets_payload file)))

-- In a Root file the keys of one identifier have to be one key.
abbrev pub RootsAreRead : Type 0
RootsAreRead = (k : Rules) (secrets : List (List ℕ)) (file : RootFile) → AreSigners k secrets → IsTrue (root_fits file) → IsTrue (root_is_typed file) → IsTrue (keys_agree (all_keys file))
    → length (root_text_of k secrets file) ≤ largest_file
    → root_in (root_text_of k secrets file) ≡ Ok (file, sealed_envelope k secrets (text (root_payload file)))

-- ---- reading

-- bytes mean just one file with its envelope, by what M says of payloads, or nothing and then they have a first fault
abbrev pub MeanOneOrFail : {F : Type 0} → (Data → F → Type 0) → (List ℕ → Result (F × Envelope) Refusal) → Type 0
MeanOneOrFail {F = F} M reading = (bytes : List ℕ) → MatchResult (reading bytes)
    (λ p. MeansFile M bytes p.0 p.1 × ((file : F) (e : Envelope) → MeansFile M bytes file e → (file ≡ p.0) × (e ≡ p.1)))
    (λ fault. IsTextFault fault × ((file : F) (e : Envelope) → MeansFile M bytes file e → ⊥))

abbrev pub RootsMeanOneOrFail : Type 0
RootsMeanOneOrFail = MeanOneOrFail MeansRoot root_in

abbrev pub TargetsMeanOneOrFail : Type 0
TargetsMeanOneOrFail = MeanOneOrFail MeansTargets targets_in

abbrev pub SnapshotsMeanOneOrFail : Type 0
SnapshotsMeanOneOrFail = MeanOneOrFail MeansSnapshot snapshot_in

abbrev pub TimestampsMeanOneOrFail : Type 0
TimestampsMeanOneOrFail = MeanOneOrFail MeansTimestamp timestamp_in

-- What a payload means is within the limits that the writer of its role asks for, so a file that was read can be written again.
abbrev pub MeantRootsFit : Type 0
MeantRootsFit = (d : Data) (file : RootFile) → MeansRoot d file → IsTrue (root_fits file) × IsTrue (root_is_typed file) × IsTrue (keys_agree (all_keys file))

abbrev pub MeantTargetsFit : Type 0
MeantTargetsFit = (d : Data) (file : TargetsFile) → MeansTargets d file → IsTrue (targets_fits file) × IsTrue (targets_is_typed file)

abbrev pub MeantSnapshotsFit : Type 0
MeantSnapshotsFit = (d : Data) (file : SnapshotFile) → MeansSnapshot d file → IsTrue (snapshot_fits file) × IsTrue (snapshot_is_typed file)

abbrev pub MeantTimestampsFit : Type 0
MeantTimestampsFit = (d : Data) (file : TimestampFile) → MeansTimestamp d file → IsTrue (timestamp_fits file) × IsTrue (timestamp_is_typed file)

-- What bytes mean is just one file of each role or a first fault, and within the limits of the role.
pub record MeaningLaws : Type 0 where
  pub root : RootsMeanOneOrFail
  pub targets : TargetsMeanOneOrFail
  pub snapshot : SnapshotsMeanOneOrFail
  pub timestamp : TimestampsMeanOneOrFail
  pub root_fits : MeantRootsFit
  pub targets_fit : MeantTargetsFit
  pub snapshot_fits : MeantSnapshotsFit
  pub timestamp_fits : MeantTimestampsFit
