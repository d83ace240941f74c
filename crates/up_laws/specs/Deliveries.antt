-- A delivery in two steps: its body is read, and then decided on over the rows of its vehicle.
use Rattle.std.specs.Prelude.{◌≡◌, ℕ, ◌≤◌, List, Some, None, Result, Ok, IfOk}
use Rattle.up_canon.specs.Moments.{last_command_moment}
use Rattle.up_canon.specs.Names.{Name}
use Rattle.up_canon.specs.Steps.{◌>>=◌}
use Rattle.up_canon.specs.Refusals.{Gives}
use Rattle.up_canon.specs.declared.refusal.Refusal.{Refusal}
use Rattle.up_sign.specs.Schemes.{Rules}
use Rattle.up_manifest.specs.declared.manifest.Incoming.{Incoming}
use Rattle.up_manifest.specs.Manifests.{incoming_in}
use Rattle.up_machine.specs.declared.answer.Answer.TheVariants.{Reply as Replied}
use Rattle.up_machine.specs.declared.command.Command.TheVariants.{Deliver}
use Rattle.up_machine.specs.declared.decision.Delivered.{Delivered}
use Rattle.up_machine.specs.State.{State}
use Rattle.up_machine.specs.Decisions.{decide_incoming, GivesDelivered, IsRead}
use Rattle.up_machine.specs.Deciding.{Outcome}
use Rattle.up_machine.specs.Machine.{decide, outcome_of}
use Rattle.up_machine.specs.Repeats.{KeptEntry, repeat_of, serve}
use Rattle.up_machine.specs.Replies.{reply_to}

-- ---- what is decided of a body

-- the first fault of the body, or what is decided of the manifest that it means
abbrev pub decide_body : Rules → State → ℕ → List ℕ → Result Outcome Refusal
decide_body k s at body = incoming_in body >>= decide_incoming k s at

-- it is what a delivery at a command's moment is served
abbrev pub DeliveriesAreDecided : Type 0
DeliveriesAreDecided = (k : Rules) (s : State) (at : ℕ) (body : List ℕ) → at ≤ last_command_moment
    → serve k s at (Deliver body) ≡ outcome_of s (decide_body k s at body)

-- of what is no repeat it is the plain machine's decision
abbrev pub NewDeliveriesAreDecided : Type 0
NewDeliveriesAreDecided = (k : Rules) (s : State) (at : ℕ) (body : List ℕ) → at ≤ last_command_moment
    → repeat_of k s at (Deliver body) ≡ None → decide_body k s at body ≡ decide k s at (Deliver body)

-- of a repeat it is the reply that was kept, and nothing changes
abbrev pub RepeatsAreDecided : Type 0
RepeatsAreDecided = (k : Rules) (s : State) (at : ℕ) (body : List ℕ) (r : KeptEntry) → at ≤ last_command_moment
    → repeat_of k s at (Deliver body) ≡ Some r
    → decide_body k s at body ≡ Ok (record { answer = Replied (reply_to r.vehicle r.number r.entry); next = s })

-- ---- both steps

-- A body is read, and its manifest decided on over the rows of its vehicle. Both together answer what is decided of the body, unless
-- memory was refused: the first asks of reading what `read_manifest` ensures, the second of deciding what `decide_manifest` does.
abbrev pub DeliveredInTwoSteps : Type 0
DeliveredInTwoSteps = (k : Rules) (s : State) (at : ℕ) (body : List ℕ) (name : Name) (told : Result Incoming Refusal) (make : Incoming → Result Delivered Refusal)
    → Gives told (incoming_in body)
    → IfOk told (λ incoming. incoming.manifest.vehicle ≡ name)
    → ((incoming : Incoming) → IsRead incoming → GivesDelivered s incoming.manifest.vehicle (make incoming) (decide_incoming k s at incoming))
    → GivesDelivered s name (told >>= make) (decide_body k s at body)
