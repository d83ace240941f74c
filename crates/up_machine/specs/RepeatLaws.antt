-- The laws of repeats: what they are answered, and that the list without them leads to the same state.
use Rattle.std.specs.Prelude.{◌≡◌, ℕ, ◌≤◌, List, Some, None, IsTrue, Ok}
use Rattle.std.specs.List.{AllByRecursion}
use Rattle.std.specs.FinMap as table
use Rattle.up_canon.specs.declared.refusal.Refusal.TheVariants.{Stale}
use Rattle.up_sign.specs.Schemes.{Rules}
use Rattle.up_machine.specs.declared.command.Command.{Command}
use Rattle.up_machine.specs.declared.command.Command.TheVariants.{Deliver}
use Rattle.up_machine.specs.declared.answer.Answer.TheVariants.{Refused}
use Rattle.up_machine.specs.Commands.{is_command}
use Rattle.up_machine.specs.State.{Entry, Vehicle, State, nth, last_counter}
use Rattle.up_machine.specs.Replies.{reply_to, kept_reply}
use Rattle.up_machine.specs.Deliveries.{Received, receive}
use Rattle.up_machine.specs.Machine.{step, run}
use Rattle.up_machine.specs.Repeats.{KeptEntry, repeat_of, Sent, serve, after, thinned, not_lost}
use Rattle.up_machine.specs.Sound.{IsSound}

-- the plain machine refuses a repeat as stale, and keeps its state
abbrev pub RepeatsAreStale : Type 0
RepeatsAreStale = (k : Rules) (s : State) (at : ℕ) (c : Command) (r : KeptEntry) (v : Vehicle) → IsSound k s
    → repeat_of k s at c ≡ Some r → table.get s.vehicles r.vehicle ≡ Some v
    → step k s at c ≡ record { answer = Refused (Stale (last_counter v.entries)); next = s }

-- a repeat's reply is the one kept for its entry
abbrev pub RepeatsGetKeptReplies : Type 0
RepeatsGetKeptReplies = (k : Rules) (s : State) (at : ℕ) (c : Command) (r : KeptEntry)
    → repeat_of k s at c ≡ Some r → kept_reply s r.vehicle r.number ≡ Some (reply_to r.vehicle r.number r.entry)

-- a delivery that no check up to the Primary's signature refuses is a repeat exactly where the vehicle's entry of its counter,
-- of which there is at most one, has its signed text
abbrev pub CountersFindRepeats : Type 0
CountersFindRepeats = (k : Rules) (s : State) (at : ℕ) (body : List ℕ) (d : Received) → IsSound k s → receive k s at body ≡ Ok d
    → ((r : KeptEntry) → repeat_of k s at (Deliver body) ≡ Some r
    → (nth d.vehicle.entries r.number ≡ Some r.entry) × (r.entry.counter ≡ d.incoming.manifest.counter)
    × (r.entry.signed ≡ d.incoming.envelope.signed) × (r.vehicle ≡ d.incoming.manifest.vehicle))
    × ((number : ℕ) (e : Entry) → nth d.vehicle.entries number ≡ Some e → e.signed ≡ d.incoming.envelope.signed
    → repeat_of k s at (Deliver body) ≡ Some (record { vehicle = d.incoming.manifest.vehicle; number = number; entry = e }))

-- an older counter that was never seen is stale
abbrev pub OlderCountersAreStale : Type 0
OlderCountersAreStale = (k : Rules) (s : State) (at : ℕ) (body : List ℕ) (d : Received) → receive k s at body ≡ Ok d
    → repeat_of k s at (Deliver body) ≡ None → d.incoming.manifest.counter ≤ last_counter d.vehicle.entries
    → serve k s at (Deliver body) ≡ record { answer = Refused (Stale (last_counter d.vehicle.entries)); next = s }

-- the items are commands
abbrev pub AreCommands : List Sent → Type 0
AreCommands ms = AllByRecursion (λ m. IsTrue (is_command m.item.command)) ms

-- the state after the list without its repeats is that after the list
abbrev pub RepeatsChangeNothing : Type 0
RepeatsChangeNothing = (k : Rules) (s : State) (ms : List Sent) → AreCommands ms → IsSound k s → run k s (thinned k s ms) ≡ run k s (not_lost ms)

-- what is served leaves the state of the list without its repeats
abbrev pub ServedIsThinned : Type 0
ServedIsThinned = (k : Rules) (s : State) (ms : List Sent) → after k s ms ≡ run k s (thinned k s ms)

-- one item more
abbrev pub ServedStaysSound : Type 0
ServedStaysSound = (k : Rules) (s : State) (at : ℕ) (c : Command) → IsTrue (is_command c) → IsSound k s → IsSound k (serve k s at c).next
