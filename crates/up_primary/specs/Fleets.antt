-- A run of the repositories from nothing, with rounds of many vehicles' Primaries between all else that is sent, in any order. What is sent
-- may be lost or come again, and an answer may be lost too.
use Rattle.std.specs.Prelude.{◌≡◌, ℕ, List, [], ◌∷◌, Bool, Option, Some, None, option_map, option_and_then, if◌then◌else◌, unwrap_or, ◌++◌, IsTrue, Ok, filter_map, ⊤}
use Rattle.std.specs.List.{All}
use Rattle.std.specs.FinMap as table
use Rattle.up_canon.specs.Names.{Name, Table}
use Rattle.up_sign.specs.Schemes.{Rules, IsScheme}
use Rattle.up_metadata.specs.declared.role_files.RoleTexts.{RoleTexts}
use Rattle.up_metadata.specs.Files.{Root}
use Rattle.up_machine.specs.declared.answer.Answer.{Answer}
use Rattle.up_machine.specs.declared.answer.Answer.TheVariants.{Reply as Replied}
use Rattle.up_machine.specs.declared.answer.Reply.{Reply}
use Rattle.up_machine.specs.declared.command.Command.TheVariants.{Deliver}
use Rattle.up_machine.specs.Commands.{is_command}
use Rattle.up_machine.specs.Deliveries.{Received, receive, fitted}
use Rattle.up_machine.specs.Repeats.{KeptEntry, repeat_of, Sent, Met, meet}
use Rattle.up_machine.specs.Replies.{assigned_target}
use Rattle.up_machine.specs.Made.{new_roots}
use Rattle.up_machine.specs.State.{Entry, Vehicle, State, empty_state, nth, root_number, version, plan_for}
use Rattle.up_laws.specs.Typed.{command_is_typed}
use Rattle.up_verify.specs.declared.served.Served.{Served}
use Rattle.up_verify.specs.declared.trust.OwnEcu.{OwnEcu}
use Rattle.up_verify.specs.declared.trust.Primary.{Primary}
use Rattle.up_verify.specs.Verifiers.{Verifier}
use Rattle.up_verify.specs.Verify.{verify, after}
use Rattle.up_primary.specs.Machine.{reply_text_of, reply_for, served_in}
use Rattle.up_primary.specs.Forging.{IsEntryAt}
use Rattle.up_primary.specs.Following.{Follows, KnowsKeys, KeysAgree, KnowsEcu, Suits, IsFresh}
use Rattle.up_primary.specs.Laws.{IsTaken}

-- ---- what happens

-- A round of a vehicle's Primary: the ECUs of the vehicle and what they have then, the manifest that it delivers and when, whether that is
-- lost or its answer is, and the moment at which it verifies what it is served.
pub record Visit : Type 0 where
  pub vehicle : Name
  pub ecus : List OwnEcu
  pub replaced : List Name
  pub at : ℕ
  pub body : List ℕ
  pub lost : Bool
  pub answer_lost : Bool
  pub now : ℕ

-- a Primary is put into its vehicle; something is sent to the repositories, by whomever; a Primary has a round
pub data Event : Type 0 where
  Begins : Primary → Event
  Sends : Sent → Event
  Visits : Visit → Event

-- the repositories' state, the root versions so far, and by their vehicles the Primaries
pub record Fleet : Type 0 where
  pub state : State
  pub roots : List Root
  pub primaries : Table Primary

abbrev pub empty_fleet : Fleet
empty_fleet = record { state = empty_state; roots = []; primaries = table.empty }

-- ---- a round

abbrev pub delivery : Visit → Sent
delivery r = record { item = record { at = r.at; command = Deliver r.body }; lost = r.lost }

-- the answer, as far as it reaches the Primary
abbrev pub heard : Visit → Met → Option Answer
heard r met = if r.answer_lost then None else met.answer

-- all that the repositories serve in a state to a Primary that got this reply
abbrev pub served_with : Rules → State → List Root → Primary → Reply → Option Served
served_with k s roots p reply =
    option_and_then (λ files. option_and_then (λ owner. option_and_then (λ e. option_map
    (λ root. served_in s files p (reply_for k s reply.vehicle reply.version e root))
    (nth roots e.root)) (nth owner.entries reply.version)) (table.get s.vehicles reply.vehicle)) s.files

-- the Primary with the ECUs that it has then
abbrev pub having : Primary → Visit → Primary
having p r = record p { ecus = r.ecus; replaced = r.replaced }

abbrev pub after_serving : Verifier → ℕ → Primary → Option Served → Primary
after_serving v now p None = p
after_serving v now p (Some served) = after v p served (verify v now p served)

-- the Primary behind its round: it verifies what it is served, if it is answered a reply
abbrev pub after_answer : Verifier → State → List Root → ℕ → Primary → Option Answer → Primary
after_answer v s roots now p (Some (Replied reply)) = after_serving v now p (served_with v.rules s roots p reply)
after_answer v s roots now p _ = p

-- ---- all of it

abbrev pub with_primary : Table Primary → Name → Option Primary → Table Primary
with_primary primaries name None = primaries
with_primary primaries name (Some p) = table.insert primaries name p

-- the root versions that an item makes
abbrev pub roots_met : Sent → Met → List Root
roots_met m met = unwrap_or (option_map (new_roots m.item.at m.item.command) met.answer) []

-- behind one event
abbrev pub behind : Verifier → Fleet → Event → Fleet
behind v f (Begins p) = record f { primaries = table.insert f.primaries p.vehicle p }
behind v f (Sends m) = let met = meet v.rules f.state m in record f { state = met.next; roots = f.roots ++ roots_met m met }
behind v f (Visits r) =
    let met = meet v.rules f.state (delivery r) in
    record {
      state = met.next;
      roots = f.roots;
      primaries = with_primary f.primaries r.vehicle (option_map (λ p. after_answer v met.next f.roots r.now (having p r) (heard r met)) (table.get f.primaries r.vehicle));
    }

-- behind all of them
abbrev pub behind_all : Verifier → Fleet → List Event → Fleet
behind_all v f [] = f
behind_all v f (e ∷ events) = behind_all v (behind v f e) events

-- a Primary that is put in follows the state then, and what is sent is within its limits
abbrev pub IsGiven : Rules → Fleet → Event → Type 0
IsGiven k f (Begins p) = Follows k f.state f.roots p
IsGiven k f (Sends m) = IsTrue (is_command m.item.command) × IsTrue (command_is_typed m.item.command)
IsGiven k f (Visits r) = ⊤

abbrev pub AllGiven : Verifier → Fleet → List Event → Type 0
AllGiven v f [] = ⊤
AllGiven v f (e ∷ events) = IsGiven v.rules f e × AllGiven v (behind v f e) events

-- ---- the laws

-- each Primary follows the state
abbrev pub AllFollow : Rules → Fleet → Type 0
AllFollow k f = (name : Name) (p : Primary) → table.get f.primaries name ≡ Some p → (p.vehicle ≡ name) × Follows k f.state f.roots p

-- So it is behind whatever happens, accepted or not, if the Primaries know the keys.
abbrev pub FleetsFollow : Type 0
FleetsFollow = (v : Verifier) (events : List Event) → IsScheme v.rules → AllGiven v empty_fleet events
    → KeysAgree v.rules (behind_all v empty_fleet events).roots → KnowsKeys v (behind_all v empty_fleet events).roots → AllFollow v.rules (behind_all v empty_fleet events)

-- The vehicle's last accepted manifest comes again. No root came since, and what was assigned suits the ECUs still.
pub record IsLastAgain (s : State) (r : Visit) (kept : KeptEntry) : Type 0 where
  pub owner : Vehicle
  pub known : table.get s.vehicles kept.vehicle ≡ Some owner
  pub last : kept.number ≡ version owner.entries
  pub root : kept.entry.root ≡ root_number s
  pub suits : All (Suits r.ecus) (filter_map (assigned_target s) kept.entry.plan.assigned)

-- A manifest that is no repeat reports the ECUs as they are; a repeat is of the last one.
abbrev pub IsCurrent : Rules → State → Visit → Option KeptEntry → Type 0
IsCurrent k s r None = (received : Received) → receive k s r.at r.body ≡ Ok received
    → All (KnowsEcu s r.ecus) (filter_map (fitted received.incoming.manifest.reports) received.vehicle.ecus)
IsCurrent k s r (Some kept) = IsLastAgain s r kept

-- a round in which the Primary gets a reply to a current manifest of its vehicle
pub record GetsReply (k : Rules) (f : Fleet) (r : Visit) (p : Primary) (reply : Reply) : Type 0 where
  pub known : table.get f.primaries r.vehicle ≡ Some p
  pub heard_is : heard r (meet k f.state (delivery r)) ≡ Some (Replied reply)
  pub own : reply.vehicle ≡ r.vehicle
  pub current : IsCurrent k f.state r (repeat_of k f.state r.at (Deliver r.body))

-- The reply brings the plan of the vehicle. Its bytes are the text of what is verified, with all that is served in that state; and unless
-- something of it has expired, it is accepted, just what is assigned is to be installed, and the Primary follows the state.
pub record IsBrought (v : Verifier) (s : State) (roots : List Root) (now : ℕ) (p : Primary) (reply : Reply) : Type 0 where
  pub entry : Entry
  pub root : Root
  pub there : IsEntryAt s roots p.vehicle reply.version entry root
  pub plan : plan_for there.owner ≡ Some entry.plan
  pub bytes : reply.text ≡ reply_text_of (reply_for v.rules s p.vehicle reply.version entry root)
  pub files : RoleTexts
  pub served : served_with v.rules s roots p reply ≡ Some (served_in s files p (reply_for v.rules s p.vehicle reply.version entry root))
  pub taken : IsFresh s root entry now → IsTaken v s roots reply.version entry root now p

-- So it is in each round with a reply, whatever happened before.
abbrev pub RoundsBringPlans : Type 0
RoundsBringPlans = (v : Verifier) (events : List Event) (r : Visit) (p : Primary) (reply : Reply) → IsScheme v.rules → AllGiven v empty_fleet events
    → KeysAgree v.rules (behind_all v empty_fleet events).roots → KnowsKeys v (behind_all v empty_fleet events).roots
    → GetsReply v.rules (behind_all v empty_fleet events) r p reply
    → IsBrought v (behind v (behind_all v empty_fleet events) (Visits r)).state (behind_all v empty_fleet events).roots r.now (having p r) reply
