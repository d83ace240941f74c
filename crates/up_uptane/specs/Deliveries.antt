-- What a delivery changes, and what a new reply says of its manifest.
use Rattle.std.specs.Prelude.{◌≡◌, ◌≢◌, ℕ, ◌+◌, ◌<◌, ◌++◌, ◌⊎◌, List, [], ◌∷◌, Some, IsTrue, Ok, filter, bytes_eq}
use Rattle.std.specs.List.{AllByRecursion}
use Rattle.std.specs.FinMap as table
use Rattle.up_canon.specs.Names.{Name}
use Rattle.up_canon.specs.declared.refusal.Refusal.{Refusal}
use Rattle.up_sign.specs.Envelopes.{is_accepted}
use Rattle.up_sign.specs.Schemes.{Rules}
use Rattle.up_manifest.specs.declared.manifest.Incoming.{Incoming}
use Rattle.up_manifest.specs.declared.report.SignedReport.{SignedReport}
use Rattle.up_manifest.specs.Manifests.{incoming_in}
use Rattle.up_machine.specs.declared.answer.Answer.TheVariants.{Refused, Reply as Replied}
use Rattle.up_machine.specs.declared.answer.Reply.{Reply}
use Rattle.up_machine.specs.declared.command.Command.TheVariants.{Deliver}
use Rattle.up_machine.specs.declared.vehicle.NewEcu.{NewEcu}
use Rattle.up_machine.specs.Commands.{is_command}
use Rattle.up_machine.specs.Machine.{Timed, step, run}
use Rattle.up_machine.specs.Replies.{kept_reply}
use Rattle.up_machine.specs.State.{Entry, Vehicle, State, empty_state, version, last_counter}

-- commands within their limits
abbrev pub AreCommands : List Timed → Type 0
AreCommands ts = AllByRecursion (λ t. IsTrue (is_command t.command)) ts

-- ---- what changes

-- The body's manifest is of the vehicle of the reply. One entry is added to that vehicle's, whose counter is greater than all before, and
-- the reply's version is the number of entries. Every other vehicle, the images, the campaigns and all that is published are as they were.
pub record IsAccepted (s : State) (body : List ℕ) (reply : Reply) (next : State) : Type 0 where
  pub incoming : Incoming
  pub read : incoming_in body ≡ Ok incoming
  pub own : incoming.manifest.vehicle ≡ reply.vehicle
  pub before : Vehicle
  pub there : table.get s.vehicles reply.vehicle ≡ Some before
  pub entry : Entry
  pub counter : entry.counter ≡ incoming.manifest.counter
  pub newer : last_counter before.entries < entry.counter
  pub raised : reply.version ≡ version before.entries + 1
  pub added : table.get next.vehicles reply.vehicle ≡ Some (record before { entries = before.entries ++ entry ∷ [] })
  pub others : (name : Name) → name ≢ reply.vehicle → table.get next.vehicles name ≡ table.get s.vehicles name
  pub rest : next ≡ record s { vehicles = next.vehicles }

-- A delivery is refused and changes nothing, or it is answered a reply and changes its own vehicle alone.
abbrev pub DeliveriesChangeTheirOwn : Type 0
DeliveriesChangeTheirOwn = (k : Rules) (s : State) (at : ℕ) (body : List ℕ) →
    ((r : Refusal) × (step k s at (Deliver body) ≡ record { answer = Refused r; next = s }))
    ⊎ ((reply : Reply) × ((step k s at (Deliver body)).answer ≡ Replied reply) × IsAccepted s body reply (step k s at (Deliver body)).next)

-- What was replied is kept under its version.
abbrev pub RepliesAreKept : Type 0
RepliesAreKept = (k : Rules) (s : State) (at : ℕ) (body : List ℕ) (reply : Reply) → (step k s at (Deliver body)).answer ≡ Replied reply
    → kept_reply (step k s at (Deliver body)).next reply.vehicle reply.version ≡ Some reply

-- ---- what is reported

-- just one of the reports is of the ECU, and it is valid under the ECU's key
pub record IsReported (k : Rules) (reports : List SignedReport) (e : NewEcu) : Type 0 where
  pub report : SignedReport
  pub one : filter (λ r. bytes_eq r.report.ecu e.ecu) reports ≡ report ∷ []
  pub valid : IsTrue (is_accepted k (e.public ∷ []) 1 report.envelope)

-- each report is of an ECU of these
pub record IsOfInventory (ecus : List NewEcu) (r : SignedReport) : Type 0 where
  pub e : NewEcu
  pub there : filter (λ x. bytes_eq x.ecu r.report.ecu) ecus ≡ e ∷ []

-- The Primary's key has signed the manifest, and it has just one valid report of each ECU of the vehicle, and no other.
pub record IsWhole (k : Rules) (s : State) (body : List ℕ) (reply : Reply) : Type 0 where
  pub incoming : Incoming
  pub read : incoming_in body ≡ Ok incoming
  pub vehicle : Vehicle
  pub there : table.get s.vehicles reply.vehicle ≡ Some vehicle
  pub primary : NewEcu
  pub is_primary : filter (λ x. bytes_eq x.ecu vehicle.primary) vehicle.ecus ≡ primary ∷ []
  pub named : incoming.manifest.primary ≡ vehicle.primary
  pub signed : IsTrue (is_accepted k (primary.public ∷ []) 1 incoming.envelope)
  pub each : AllByRecursion (IsReported k incoming.manifest.reports) vehicle.ecus
  pub no_other : AllByRecursion (IsOfInventory vehicle.ecus) incoming.manifest.reports

-- so is the manifest of each new reply, in every state that commands reach from nothing
abbrev pub NewRepliesAreOfAllEcus : Type 0
NewRepliesAreOfAllEcus = (k : Rules) (ts : List Timed) (at : ℕ) (body : List ℕ) (reply : Reply) → AreCommands ts
    → (step k (run k empty_state ts) at (Deliver body)).answer ≡ Replied reply → IsWhole k (run k empty_state ts) body reply
