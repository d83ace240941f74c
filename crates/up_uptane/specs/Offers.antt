-- What the Director offers is what the Image repository has.
use Rattle.std.specs.Prelude.{◌≡◌, ℕ, List, Some, Ok, codes}
use Rattle.std.specs.List.{All, Contains}
use Rattle.up_canon.specs.Names.{Name}
use Rattle.up_sign.specs.Schemes.{Rules, IsScheme}
use Rattle.up_sign.specs.declared.envelope.Envelope.{Envelope}
use Rattle.up_roles.specs.declared.repository.Repository.TheVariants.{Image}
use Rattle.up_roles.specs.declared.targets.Target.{Target}
use Rattle.up_roles.specs.declared.targets.TargetsFile.{TargetsFile}
use Rattle.up_roles.specs.Targets.{targets_in}
use Rattle.up_metadata.specs.declared.role_files.RoleTexts.{RoleTexts}
use Rattle.up_machine.specs.declared.answer.Reply.{Reply}
use Rattle.up_machine.specs.Files.{file}
use Rattle.up_machine.specs.Machine.{Timed, run}
use Rattle.up_machine.specs.Replies.{kept_reply, reply_json}
use Rattle.up_machine.specs.State.{State, empty_state}
use Rattle.up_primary.specs.Laws.{AreGiven}

-- the same image: its filename, length, hashes, hardware and release
pub record IsSameImage (a b : Target) : Type 0 where
  pub file : a.file ≡ b.file
  pub length : a.length ≡ b.length
  pub sha256 : a.sha256 ≡ b.sha256
  pub sha512 : a.sha512 ≡ b.sha512
  pub hardware : a.hardware ≡ b.hardware
  pub release : a.release ≡ b.release

-- it is in the Image repository's Targets, as they are published and read in this state
pub record IsListed (s : State) (t : Target) : Type 0 where
  pub bytes : List ℕ
  pub published : file s Image (codes "targets.json") ≡ Some bytes
  pub listing : TargetsFile
  pub envelope : Envelope
  pub read : targets_in bytes ≡ Ok (listing, envelope)
  pub image : Target
  pub there : Contains listing.targets image
  pub same : IsSameImage t image

-- A reply's bytes have Targets of its vehicle and version, and each of its targets is such an image.
pub record IsOffered (later : State) (reply : Reply) : Type 0 where
  pub root : ℕ
  pub files : RoleTexts
  pub bytes : reply.text ≡ reply_json reply.vehicle reply.version root files
  pub targets : TargetsFile
  pub envelope : Envelope
  pub read : targets_in files.targets ≡ Ok (targets, envelope)
  pub vehicle : targets.vehicle ≡ Some reply.vehicle
  pub version : targets.version ≡ reply.version
  pub listed : All (IsListed later) targets.targets

-- so is each reply that is kept in a state that commands reach from nothing, then and in each later state
abbrev pub RepliesOfferWhatIsListed : Type 0
RepliesOfferWhatIsListed = (k : Rules) (ts us : List Timed) (vehicle : Name) (number : ℕ) (reply : Reply) → IsScheme k → AreGiven ts → AreGiven us
    → kept_reply (run k empty_state ts) vehicle number ≡ Some reply → IsOffered (run k (run k empty_state ts) us) reply
