-- What a rotation of keys comes to.
use Rattle.std.specs.Prelude.{◌≡◌, ℕ, ◌+◌, ◌<◌, ◌++◌, ◌⊎◌, List, ◌∷◌, false, not, Some, length, filter, bytes_eq}
use Rattle.std.specs.List.{list_any}
use Rattle.serde_json.specs.Data.{Data}
use Rattle.up_canon.specs.Names.{Name}
use Rattle.up_sign.specs.Schemes.{Rules}
use Rattle.up_roles.specs.declared.repository.Repository.{Repository}
use Rattle.up_roles.specs.Payload.{sealed_text}
use Rattle.up_metadata.specs.declared.keys.KeySet.{KeySet}
use Rattle.up_metadata.specs.declared.role_files.RoleTexts.{RoleTexts}
use Rattle.up_metadata.specs.Files.{Root, keys_of}
use Rattle.up_machine.specs.declared.answer.Answer.TheVariants.{Done, Reply as Replied}
use Rattle.up_machine.specs.declared.answer.Reply.{Reply}
use Rattle.up_machine.specs.declared.command.Command.TheVariants.{Deliver, Rotate}
use Rattle.up_machine.specs.Files.{file, numbered_root_name}
use Rattle.up_machine.specs.Machine.{Timed, step, run}
use Rattle.up_machine.specs.Made.{roots_of}
use Rattle.up_machine.specs.Replies.{reply_json}
use Rattle.up_machine.specs.State.{State, empty_state, nth, chain_of, root_number, key_set}
use Rattle.up_primary.specs.Following.{all_secrets}
use Rattle.up_uptane.specs.Deliveries.{AreCommands}

-- just these secrets have signed the bytes, in this order
pub record IsSealedBy (k : Rules) (secrets : List (List ℕ)) (bytes : List ℕ) : Type 0 where
  pub payload : Data
  pub is : bytes ≡ sealed_text k secrets payload

-- the secret isn't among those that have signed them
pub record IsSealedWithout (k : Rules) (secret bytes : List ℕ) : Type 0 where
  pub secrets : List (List ℕ)
  pub sealed : IsSealedBy k secrets bytes
  pub without : list_any (bytes_eq secret) secrets ≡ false

-- no Root behind this number gives the secret any role in the repository
abbrev pub IsLeftOut : List Root → Repository → ℕ → List ℕ → Type 0
IsLeftOut roots repository n secret = (i : ℕ) (root : Root) → n < i → nth roots i ≡ Some root → list_any (bytes_eq secret) (all_secrets (keys_of repository root.keys)) ≡ false

-- these bytes are published under some name
abbrev pub IsPublished : State → Repository → List ℕ → Type 0
IsPublished s repository bytes = (name : Name) × (file s repository name ≡ Some bytes)

-- The next Root is signed by its own root keys, and by those of the Root before it that aren't among them. A key that no Root gives a role
-- since has signed nothing else that wasn't published before. The later state's root versions are these.
pub record IsRotated (k : Rules) (s later : State) (roots : List Root) (repository : Repository) (keys : KeySet) : Type 0 where
  pub next : List ℕ
  pub published : file later repository (numbered_root_name (length (chain_of repository s).texts + 1)) ≡ Some next
  pub sealed : IsSealedBy k ((keys_of repository keys).root.keys ++ filter (λ secret. not (list_any (bytes_eq secret) (keys_of repository keys).root.keys)) (keys_of repository (key_set s)).root.keys) next
  pub nothing_else : (secret bytes : List ℕ) → IsLeftOut roots repository (length (chain_of repository s).texts) secret → IsPublished later repository bytes
      → IsPublished s repository bytes ⊎ ((bytes ≡ next) ⊎ IsSealedWithout k secret bytes)

-- so behind each rotation that was done, in every state that commands reach from nothing
abbrev pub RotationsLeaveOut : Type 0
RotationsLeaveOut = (k : Rules) (ts us : List Timed) (at : ℕ) (keys : KeySet) (repository : Repository) → AreCommands ts → AreCommands us
    → (step k (run k empty_state ts) at (Rotate keys)).answer ≡ Done
    → IsRotated k (run k empty_state ts) (run k (step k (run k empty_state ts) at (Rotate keys)).next us)
    (roots_of k empty_state (ts ++ record { at = at; command = Rotate keys } ∷ us)) repository keys

-- the keys of the Director's roles in the last Root have signed a reply's files
pub record IsSealedByLast (k : Rules) (s : State) (reply : Reply) : Type 0 where
  pub files : RoleTexts
  pub bytes : reply.text ≡ reply_json reply.vehicle reply.version (root_number s) files
  pub targets : IsSealedBy k s.director.keys.targets.keys files.targets
  pub snapshot : IsSealedBy k s.director.keys.snapshot.keys files.snapshot
  pub timestamp : IsSealedBy k s.director.keys.timestamp.keys files.timestamp

-- so in each new reply
abbrev pub NewRepliesAreOfTheLastRoot : Type 0
NewRepliesAreOfTheLastRoot = (k : Rules) (ts : List Timed) (at : ℕ) (body : List ℕ) (reply : Reply) → AreCommands ts
    → (step k (run k empty_state ts) at (Deliver body)).answer ≡ Replied reply → IsSealedByLast k (run k empty_state ts) reply
