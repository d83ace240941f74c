-- Versions of what is published never fall, and each version is one text.
use Rattle.std.specs.Prelude.{◌≡◌, ℕ, ◌<◌, ◌≤◌, List, Some, IsTrue, Result, Ok, length, codes}
use Rattle.up_canon.specs.Names.{Name}
use Rattle.up_canon.specs.declared.refusal.Refusal.{Refusal}
use Rattle.up_sign.specs.Schemes.{Rules, IsScheme}
use Rattle.up_sign.specs.declared.envelope.Envelope.{Envelope}
use Rattle.up_roles.specs.declared.repository.Repository.{Repository}
use Rattle.up_roles.specs.declared.repository.Repository.TheVariants.{Image}
use Rattle.up_roles.specs.Snapshot.{snapshot_in}
use Rattle.up_roles.specs.Targets.{targets_in}
use Rattle.up_roles.specs.Timestamp.{timestamp_in}
use Rattle.up_machine.specs.declared.answer.Answer.TheVariants.{Reply as Replied}
use Rattle.up_machine.specs.declared.answer.Reply.{Reply}
use Rattle.up_machine.specs.declared.command.Command.TheVariants.{Deliver}
use Rattle.up_machine.specs.Files.{file, numbered_root_name}
use Rattle.up_machine.specs.Machine.{Timed, step, run}
use Rattle.up_machine.specs.Replies.{kept_reply}
use Rattle.up_machine.specs.State.{State, empty_state, is_founded, chain_of}
use Rattle.up_primary.specs.Laws.{AreGiven}
use Rattle.up_uptane.specs.Deliveries.{AreCommands}

-- ---- the Image repository's files

-- Both texts are read as files. The later one's version is no lower, and where it is the same, so is the text.
pub record NeverFalls {F : Type 0} (reading : List ℕ → Result (F × Envelope) Refusal) (version_of : F → ℕ) (earlier later : List ℕ) : Type 0 where
  pub first : F
  pub first_sealed : Envelope
  pub first_read : reading earlier ≡ Ok (first, first_sealed)
  pub second : F
  pub second_sealed : Envelope
  pub second_read : reading later ≡ Ok (second, second_sealed)
  pub no_lower : version_of first ≤ version_of second
  pub one_text : version_of first ≡ version_of second → earlier ≡ later

-- the file of a name, as it is published in both states
pub record FileNeverFalls {F : Type 0} (s later : State) (name : Name) (reading : List ℕ → Result (F × Envelope) Refusal) (version_of : F → ℕ) : Type 0 where
  pub first : List ℕ
  pub was : file s Image name ≡ Some first
  pub second : List ℕ
  pub is : file later Image name ≡ Some second
  pub never : NeverFalls reading version_of first second

pub record ImageNeverFalls (s later : State) : Type 0 where
  pub targets : FileNeverFalls s later (codes "targets.json") targets_in (λ f. f.version)
  pub snapshot : FileNeverFalls s later (codes "snapshot.json") snapshot_in (λ f. f.version)
  pub timestamp : FileNeverFalls s later (codes "timestamp.json") timestamp_in (λ f. f.version)

-- So from each state in which something is founded, and that commands reach from nothing, to each later one.
abbrev pub ImageVersionsNeverFall : Type 0
ImageVersionsNeverFall = (k : Rules) (ts us : List Timed) → IsScheme k → AreGiven ts → AreGiven us → IsTrue (is_founded (run k empty_state ts))
    → ImageNeverFalls (run k empty_state ts) (run k (run k empty_state ts) us)

-- ---- Root files

-- Each Root of the earlier state is published under its number in both, with the same text.
pub record RootsStay (repository : Repository) (s later : State) : Type 0 where
  pub no_fewer : length (chain_of repository s).texts ≤ length (chain_of repository later).texts
  pub each : (i : ℕ) → 1 ≤ i → i ≤ length (chain_of repository s).texts
      → (text : List ℕ) × (file s repository (numbered_root_name i) ≡ Some text) × (file later repository (numbered_root_name i) ≡ Some text)

abbrev pub RootVersionsNeverFall : Type 0
RootVersionsNeverFall = (k : Rules) (ts us : List Timed) (repository : Repository) → AreCommands ts → AreCommands us
    → RootsStay repository (run k empty_state ts) (run k (run k empty_state ts) us)

-- ---- vehicles

-- What is replied anew to a vehicle has a greater version than each reply that was kept for it.
abbrev pub RepliesRise : Type 0
RepliesRise = (k : Rules) (ts us : List Timed) (number at : ℕ) (body : List ℕ) (old new : Reply)
    → (step k (run k (run k empty_state ts) us) at (Deliver body)).answer ≡ Replied new
    → kept_reply (run k empty_state ts) new.vehicle number ≡ Some old → number < new.version

-- And what was kept is kept on, the same.
abbrev pub RepliesStayKept : Type 0
RepliesStayKept = (k : Rules) (ts us : List Timed) (vehicle : Name) (number : ℕ) (reply : Reply)
    → kept_reply (run k empty_state ts) vehicle number ≡ Some reply → kept_reply (run k (run k empty_state ts) us) vehicle number ≡ Some reply
