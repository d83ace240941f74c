-- What a new reply offers fits the ECUs, and is newer than what they report.
use Rattle.std.specs.Prelude.{◌≡◌, ℕ, ◌<◌, List, Some, IsTrue, Ok, bytes_eq}
use Rattle.std.specs.List.{All, Contains, list_any}
use Rattle.std.specs.FinMap as table
use Rattle.up_sign.specs.Schemes.{Rules, IsScheme}
use Rattle.up_sign.specs.declared.envelope.Envelope.{Envelope}
use Rattle.up_manifest.specs.declared.manifest.Incoming.{Incoming}
use Rattle.up_manifest.specs.declared.report.SignedReport.{SignedReport}
use Rattle.up_manifest.specs.Manifests.{incoming_in}
use Rattle.up_roles.specs.declared.targets.Target.{Target}
use Rattle.up_roles.specs.declared.targets.TargetsFile.{TargetsFile}
use Rattle.up_roles.specs.Targets.{targets_in}
use Rattle.up_plan.specs.Images.{ImageData}
use Rattle.up_plan.specs.Planning.{is_reported}
use Rattle.up_metadata.specs.declared.role_files.RoleTexts.{RoleTexts}
use Rattle.up_machine.specs.declared.answer.Answer.TheVariants.{Reply as Replied}
use Rattle.up_machine.specs.declared.answer.Reply.{Reply}
use Rattle.up_machine.specs.declared.command.Command.TheVariants.{Deliver}
use Rattle.up_machine.specs.declared.vehicle.NewEcu.{NewEcu}
use Rattle.up_machine.specs.Machine.{Timed, step, run}
use Rattle.up_machine.specs.Replies.{reply_json}
use Rattle.up_machine.specs.State.{Vehicle, State, empty_state, report_of}
use Rattle.up_primary.specs.Laws.{AreGiven}

-- The target is for an ECU of the vehicle, may be installed on its hardware, and is of a greater release than the image that the ECU
-- reports, where that is registered as it is reported.
pub record FitsAndIsNewer (s : State) (v : Vehicle) (reports : List SignedReport) (t : Target) : Type 0 where
  pub ecu : NewEcu
  pub there : Contains v.ecus ecu
  pub named : t.ecu ≡ Some ecu.ecu
  pub hardware : IsTrue (list_any (bytes_eq ecu.hardware) t.hardware)
  pub report : SignedReport
  pub reported : report_of ecu.ecu reports ≡ Some report
  pub newer : (image : ImageData) → table.get s.images report.report.image.file ≡ Some image
      → IsTrue (is_reported ecu.hardware report.report.image image) → image.release < t.release

-- so is each target in the bytes of a reply to a manifest
pub record OffersFitting (s : State) (body : List ℕ) (reply : Reply) : Type 0 where
  pub incoming : Incoming
  pub manifest : incoming_in body ≡ Ok incoming
  pub vehicle : Vehicle
  pub known : table.get s.vehicles reply.vehicle ≡ Some vehicle
  pub root : ℕ
  pub files : RoleTexts
  pub bytes : reply.text ≡ reply_json reply.vehicle reply.version root files
  pub targets : TargetsFile
  pub envelope : Envelope
  pub read : targets_in files.targets ≡ Ok (targets, envelope)
  pub fit : All (FitsAndIsNewer s vehicle incoming.manifest.reports) targets.targets

-- so in each new reply, in every state that commands reach from nothing
abbrev pub NewRepliesFit : Type 0
NewRepliesFit = (k : Rules) (ts : List Timed) (at : ℕ) (body : List ℕ) (reply : Reply) → IsScheme k → AreGiven ts
    → (step k (run k empty_state ts) at (Deliver body)).answer ≡ Replied reply → OffersFitting (run k empty_state ts) body reply
