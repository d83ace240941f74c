-- Repeats of accepted manifests, lists of which some items are lost, and what each item is answered.
use Rattle.std.specs.Prelude.{ℕ, List, [], ◌∷◌, Bool, false, not, if◌then◌else◌, Option, Some, None, is_some, option_map, option_and_then, unwrap_or, map, filter, filter_map, find, bytes_eq}
use Rattle.std.specs.List.{enumerate_from}
use Rattle.up_canon.specs.Names.{Name}
use Rattle.up_canon.specs.Steps.{value_of}
use Rattle.up_sign.specs.Schemes.{Rules}
use Rattle.up_manifest.specs.Manifests.{incoming_in}
use Rattle.up_machine.specs.declared.command.Command.{Command}
use Rattle.up_machine.specs.declared.command.Command.TheVariants.{Deliver}
use Rattle.up_machine.specs.declared.answer.Answer.{Answer}
use Rattle.up_machine.specs.declared.answer.Answer.TheVariants.{Reply as Replied}
use Rattle.up_machine.specs.State.{Entry, State}
use Rattle.up_machine.specs.Replies.{reply_to}
use Rattle.up_machine.specs.Deciding.{Outcome}
use Rattle.up_machine.specs.Deliveries.{Received, receive}
use Rattle.up_machine.specs.Machine.{Timed, step}

-- ---- repeats

-- an entry of the vehicle with this name, and its number among the vehicle's entries, counted from 1
pub record KeptEntry : Type 0 where
  pub vehicle : Name
  pub number : ℕ
  pub entry : Entry

-- the first entry with this signed text
abbrev pub entry_signed : List ℕ → List Entry → Option (ℕ × Entry)
entry_signed signed entries = find (λ e. bytes_eq e.1.signed signed) (enumerate_from 1 entries)

abbrev pub repeat_in : Received → Option KeptEntry
repeat_in r = option_map (λ e. record { vehicle = r.incoming.manifest.vehicle; number = e.0; entry = e.1 })
    (entry_signed r.incoming.envelope.signed r.vehicle.entries)

-- what the item repeats: no check up to the Primary's signature applies, and the vehicle has accepted the same canonical signed text
abbrev pub repeat_of : Rules → State → ℕ → Command → Option KeptEntry
repeat_of k s at (Deliver body) = option_and_then repeat_in (value_of (receive k s at body))
repeat_of k s at _ = None

-- a repeat is answered the kept reply and changes nothing; another item is the plain machine's
abbrev pub served_as : Rules → State → ℕ → Command → Option KeptEntry → Outcome
served_as k s at c None = step k s at c
served_as k s at c (Some r) = record { answer = Replied (reply_to r.vehicle r.number r.entry); next = s }

unfoldable pub serve : Rules → State → ℕ → Command → Outcome
serve k s at c = served_as k s at c (repeat_of k s at c)

-- ---- lists, of which some items are lost

pub record Sent : Type 0 where
  pub item : Timed
  pub lost : Bool

-- an item, whether it was a repeat where it was not lost, its answer where it was not lost, and the state after it
pub record Met : Type 0 where
  pub sent : Sent
  pub is_repeat : Bool
  pub answer : Option Answer
  pub next : State

abbrev pub meet : Rules → State → Sent → Met
meet k s m =
    if m.lost then record { sent = m; is_repeat = false; answer = None; next = s }
    else let o = serve k s m.item.at m.item.command in
    record { sent = m; is_repeat = is_some (repeat_of k s m.item.at m.item.command); answer = Some o.answer; next = o.next }

-- what each item of a list meets
abbrev pub trace : Rules → State → List Sent → List Met
trace k s [] = []
trace k s (m ∷ ms) = meet k s m ∷ trace k (meet k s m).next ms

-- the state after a list
abbrev pub after : Rules → State → List Sent → State
after k s [] = s
after k s (m ∷ ms) = after k (meet k s m).next ms

-- the items that stay: neither lost nor repeats
abbrev pub stays : Met → Option Timed
stays met = if met.sent.lost then None else if met.is_repeat then None else Some met.sent.item

abbrev pub thinned : Rules → State → List Sent → List Timed
thinned k s ms = filter_map stays (trace k s ms)

-- the expected answer of each item, none of a lost one
abbrev pub expected : Rules → State → List Sent → List (Option Answer)
expected k s ms = map (λ met. met.answer) (trace k s ms)

-- the items that are not lost
abbrev pub not_lost : List Sent → List Timed
not_lost ms = filter_map (λ m. if m.lost then None else Some m.item) ms

-- ---- one vehicle by itself

-- the vehicle whose manifest the command delivers
abbrev pub vehicle_of : Command → Option Name
vehicle_of (Deliver body) = option_map (λ incoming. incoming.manifest.vehicle) (value_of (incoming_in body))
vehicle_of _ = None

abbrev pub delivers_own : Name → Sent → Bool
delivers_own name m = unwrap_or (option_map (λ vehicle. bytes_eq vehicle name) (vehicle_of m.item.command)) false

abbrev pub delivers_other : Name → Sent → Bool
delivers_other name m = unwrap_or (option_map (λ vehicle. not (bytes_eq vehicle name)) (vehicle_of m.item.command)) false

-- the items without the deliveries of other vehicles' manifests
abbrev pub without_others : Name → List Sent → List Sent
without_others name ms = filter (λ m. not (delivers_other name m)) ms

-- the answers to the vehicle's own deliveries
abbrev pub own_answers : Rules → State → Name → List Sent → List (Option Answer)
own_answers k s name ms = map (λ met. met.answer) (filter (λ met. delivers_own name met.sent) (trace k s ms))
