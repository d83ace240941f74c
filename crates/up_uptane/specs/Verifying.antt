-- Every published file is read again as what it is, and enough of the keys that the published Roots give its role have signed it.
use Rattle.std.specs.Prelude.{◌≡◌, ℕ, ◌+◌, ◌<◌, ◌≤◌, ◌⊎◌, List, Some, IsTrue, Result, Ok, length, map}
use Rattle.up_canon.specs.Names.{Name}
use Rattle.up_canon.specs.declared.refusal.Refusal.{Refusal}
use Rattle.up_sign.specs.Envelopes.{is_accepted}
use Rattle.up_sign.specs.Hmac.{key_id}
use Rattle.up_sign.specs.Schemes.{Rules, IsScheme}
use Rattle.up_sign.specs.declared.envelope.Envelope.{Envelope}
use Rattle.up_roles.specs.declared.repository.Repository.{Repository}
use Rattle.up_roles.specs.declared.repository.Repository.TheVariants.{Director, Image}
use Rattle.up_roles.specs.declared.root.RootKey.{RootKey}
use Rattle.up_roles.specs.declared.root.RoleKeys.{RoleKeys}
use Rattle.up_roles.specs.declared.root.RootFile.{RootFile}
use Rattle.up_roles.specs.Root.{root_in}
use Rattle.up_roles.specs.Snapshot.{snapshot_in}
use Rattle.up_roles.specs.Targets.{targets_in}
use Rattle.up_roles.specs.Timestamp.{timestamp_in}
use Rattle.up_metadata.specs.declared.role_files.RoleTexts.{RoleTexts}
use Rattle.up_machine.specs.declared.answer.Reply.{Reply}
use Rattle.up_machine.specs.Files.{file, numbered_root_name}
use Rattle.up_machine.specs.Machine.{Timed, run}
use Rattle.up_machine.specs.Made.{roots_of}
use Rattle.up_machine.specs.Replies.{kept_reply, reply_json}
use Rattle.up_machine.specs.State.{State, empty_state, chain_of, root_number, image_root_number}
use Rattle.up_primary.specs.Following.{KeysAgree}
use Rattle.up_primary.specs.Laws.{AreGiven}

-- ---- signatures

-- a key, as a Root shows it
abbrev pub shown_key : Rules → List ℕ → RootKey
shown_key k public = record { keyid = key_id public; method = k.method; shown = k.shown public }

-- Enough of a role's keys have signed: the envelope is accepted under public parts that are shown as the role's keys.
pub record IsSignedUnder (k : Rules) (role : RoleKeys) (envelope : Envelope) : Type 0 where
  pub publics : List (List ℕ)
  pub shown : map (shown_key k) publics ≡ role.keys
  pub accepted : IsTrue (is_accepted k publics role.threshold envelope)

-- ---- Root files

-- what is published as this repository's Root of this number is read as that
pub record IsRoot (s : State) (repository : Repository) (i : ℕ) (root : RootFile) (envelope : Envelope) : Type 0 where
  pub bytes : List ℕ
  pub published : file s repository (numbered_root_name i) ≡ Some bytes
  pub read : root_in bytes ≡ Ok (root, envelope)
  pub of_repository : root.repository ≡ repository
  pub number : root.version ≡ i

-- and enough of the root keys that it gives have signed it
pub record IsSignedRoot (k : Rules) (s : State) (repository : Repository) (i : ℕ) : Type 0 where
  pub root : RootFile
  pub envelope : Envelope
  pub is : IsRoot s repository i root envelope
  pub signed : IsSignedUnder k root.root envelope

-- and the Root of the next number
pub record IsFollowed (k : Rules) (s : State) (repository : Repository) (i : ℕ) : Type 0 where
  pub root : RootFile
  pub envelope : Envelope
  pub is : IsRoot s repository i root envelope
  pub next : RootFile
  pub next_envelope : Envelope
  pub is_next : IsRoot s repository (i + 1) next next_envelope
  pub signed : IsSignedUnder k root.root next_envelope

-- So it is of all Roots, one after the other from the first, in every state that commands reach from nothing. Keys of one identifier have
-- to be shown alike: two that collide would make a Root that can't be read.
abbrev pub RootsVerify : Type 0
RootsVerify = (k : Rules) (ts : List Timed) (repository : Repository) (i : ℕ) → IsScheme k → AreGiven ts → KeysAgree k (roots_of k empty_state ts)
    → 1 ≤ i → i ≤ length (chain_of repository (run k empty_state ts)).texts
    → IsSignedRoot k (run k empty_state ts) repository i × (i < length (chain_of repository (run k empty_state ts)).texts → IsFollowed k (run k empty_state ts) repository i)

-- ---- other files

-- The bytes are read as a file of the repository, and enough of the keys that Root number i gives its role have signed it.
pub record Verifies {F : Type 0} (reading : List ℕ → Result (F × Envelope) Refusal) (repository_of : F → Repository) (role_of : RootFile → RoleKeys)
    (k : Rules) (s : State) (repository : Repository) (i : ℕ) (bytes : List ℕ) : Type 0 where
  pub content : F
  pub envelope : Envelope
  pub read : reading bytes ≡ Ok (content, envelope)
  pub of_repository : repository_of content ≡ repository
  pub root : RootFile
  pub root_envelope : Envelope
  pub under : IsRoot s repository i root root_envelope
  pub signed : IsSignedUnder k (role_of root) envelope

abbrev pub TargetsVerify : Rules → State → Repository → ℕ → List ℕ → Type 0
TargetsVerify = Verifies targets_in (λ f. f.repository) (λ root. root.targets)

abbrev pub SnapshotVerifies : Rules → State → Repository → ℕ → List ℕ → Type 0
SnapshotVerifies = Verifies snapshot_in (λ f. f.repository) (λ root. root.snapshot)

abbrev pub TimestampVerifies : Rules → State → Repository → ℕ → List ℕ → Type 0
TimestampVerifies = Verifies timestamp_in (λ f. f.repository) (λ root. root.timestamp)

-- the bytes are those of the Root of some number
pub record IsNumbered (s : State) (repository : Repository) (bytes : List ℕ) : Type 0 where
  pub number : ℕ
  pub from : 1 ≤ number
  pub to : number ≤ length (chain_of repository s).texts
  pub is : file s repository (numbered_root_name number) ≡ Some bytes

-- Whatever is published, under whatever name, is a Root, or one of the Image repository's other files, which verify under the last Root.
abbrev pub FilesVerify : Type 0
FilesVerify = (k : Rules) (ts : List Timed) (repository : Repository) (name : Name) (bytes : List ℕ) → IsScheme k → AreGiven ts
    → KeysAgree k (roots_of k empty_state ts) → file (run k empty_state ts) repository name ≡ Some bytes
    → IsNumbered (run k empty_state ts) repository bytes
    ⊎ ((repository ≡ Image) × (TargetsVerify k (run k empty_state ts) Image (image_root_number (run k empty_state ts)) bytes
    ⊎ (SnapshotVerifies k (run k empty_state ts) Image (image_root_number (run k empty_state ts)) bytes
    ⊎ TimestampVerifies k (run k empty_state ts) Image (image_root_number (run k empty_state ts)) bytes)))

-- ---- replies

-- A reply's bytes have the three files, which verify under the Director's Root that they name.
pub record ReplyVerifies (k : Rules) (s : State) (reply : Reply) : Type 0 where
  pub root : ℕ
  pub from : 1 ≤ root
  pub to : root ≤ root_number s
  pub files : RoleTexts
  pub bytes : reply.text ≡ reply_json reply.vehicle reply.version root files
  pub targets : TargetsVerify k s Director root files.targets
  pub snapshot : SnapshotVerifies k s Director root files.snapshot
  pub timestamp : TimestampVerifies k s Director root files.timestamp

-- so does each reply that is kept
abbrev pub RepliesVerify : Type 0
RepliesVerify = (k : Rules) (ts : List Timed) (vehicle : Name) (number : ℕ) (reply : Reply) → IsScheme k → AreGiven ts → KeysAgree k (roots_of k empty_state ts)
    → kept_reply (run k empty_state ts) vehicle number ≡ Some reply → ReplyVerifies k (run k empty_state ts) reply
