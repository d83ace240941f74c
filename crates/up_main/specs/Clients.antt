-- What serving many clients and operators comes to.
use Rattle.std.specs.Prelude.{◌⊎◌, ℕ, Bool, true, ⊤, List, [], ◌∷◌, map}
use Rattle.sqlite.specs.Tree.{Trees}
use Rattle.sqlite_trees.specs.declared.store.Store.{Ghosts}
use Rattle.up_sign.specs.Schemes.{Rules}
use Rattle.up_machine.specs.Sound.{IsSound}
use Rattle.up_machine.specs.State.{State}
use Rattle.up_machine.specs.declared.command.Command.{Command}
use Rattle.up_heads.specs.Responses.{refusal_response_of}
use Rattle.up_http.specs.declared.asked.Next.{Next}
use Rattle.up_records.specs.Standing.{HoldsState, Standing, HasCleanDisk, IfClean, ShowsState, Survives, LeavesOnly, state}
use Rattle.up_desk.specs.Desks.{DeskView}
use Rattle.up_service.specs.Answers.{answered_as}
use Rattle.up_service.specs.Responses.{Responses, answer_response}
use Rattle.up_service.specs.Runs.{Service, Told, told, AreDue, HoldsSome, IsAnsweredCommit, after, behind}
use Rattle.up_service.specs.Scripts.{line_service}
use Rattle.up_service.specs.Streams.{request_service}
use Rattle.up_service.specs.Together.{CallsEach}
use Rattle.up_service.specs.Together as together
use Rattle.up_sockets.specs.Served.{Done, Single, Group, Lines, Steps}

-- ---- what is done at once

-- how a desk is left
abbrev pub Does : {K D : Type 0} → (K → Rules) → Ghosts D → DeskView K D → Done → DeskView K D → Type 0
Does rules g old (Single at next text) new = Responses rules g at old next text new
Does rules g old (Group commands answers) new = CallsEach rules g old commands answers new
Does rules g old (Lines lines texts) new = together.Lines rules g old lines texts new

-- the commands of a group, each at its moment, are answered so, as requests are; they may share a commit. Whether the stream ends with an
-- answer, and whether HEAD asked, are given.
abbrev pub command_service : Bool → Bool → Rules → Service (ℕ × Command)
command_service last head k = record {
  rules = k;
  answer = λ s c. answered_as (λ answer. answer_response answer last head) k s c.0 c.1;
  tell = λ c r. refusal_response_of r last head;
  together = true;
}

-- items that were answered at once, each with its text, and what answers them. A request that is answered by itself shares no commit.
pub record Part : Type 1 where
  pub Item : Type 0
  pub service : Service Item
  pub met : List (Told Item)

abbrev pub part_of : Bool → Bool → Rules → Done → Part
part_of last head k (Single at next text) = record { Item = Next; service = request_service k at; met = told (next ∷ []) (text ∷ []) }
part_of last head k (Group commands answers) =
    record { Item = ℕ × Command; service = command_service last head k; met = told commands (map (λ answer. answer_response answer last head) answers) }
part_of last head k (Lines lines texts) = record { Item = List ℕ; service = line_service k; met = told lines texts }

-- ---- all of it

-- each text is due, in the state behind what was done before
abbrev pub AllDue : (Done → Part) → State → List Done → Type 0
AllDue parts s [] = ⊤
AllDue parts s (d ∷ ds) = AreDue (parts d).service s (parts d).met × AllDue parts (after (parts d).service s (parts d).met) ds

-- the state behind all of it
abbrev pub behind_all : (Done → Part) → State → List Done → State
behind_all parts s [] = s
behind_all parts s (d ∷ ds) = behind_all parts (after (parts d).service s (parts d).met) ds

-- what a crash left holds what a request, or items that share a commit, make of the state behind what was done before
abbrev pub HoldsOne : (Done → Part) → State → List Done → Trees → Type 0
HoldsOne parts s [] trees = ⊥
HoldsOne parts s (d ∷ ds) trees = HoldsSome (parts d).service s (parts d).met [] trees ⊎ HoldsOne parts (after (parts d).service s (parts d).met) ds trees

-- behind each commit that was answered a crash leaves the state behind it, or what follows makes from there on
abbrev pub PartStays : {I : Type 0} → Service I → State → List (Told I) → (Trees → Type 0) → Standing → Type 0
PartStays {I} v s ms Follow new = (before rest : List (Told I)) (m : Told I) → IsAnsweredCommit v s ms before rest m
    → LeavesOnly (λ trees. HoldsState (behind v (after v s before) m) trees ⊎ HoldsSome v (behind v (after v s before) m) rest [] trees ⊎ Follow trees) new

abbrev pub AllStay : (Done → Part) → State → List Done → Standing → Type 0
AllStay parts s [] new = ⊤
AllStay parts s (d ∷ ds) new = PartStays (parts d).service s (parts d).met (HoldsOne parts (after (parts d).service s (parts d).met) ds) new
    × AllStay parts (after (parts d).service s (parts d).met) ds new

-- What all of it comes to from a state. Over a disk that has returned what was written so far each text is due, and the tables show the state
-- behind all. Only a fault of the disk shuts the connection, and a crash loses nothing that was answered.
pub record AllLast (parts : Done → Part) (k : Rules) (s : State) (done : List Done) (old new : Standing) : Type 0 where
  pub due : HasCleanDisk new → AllDue parts s done
  pub shown : HasCleanDisk new → IsSound k (behind_all parts s done) × ShowsState (behind_all parts s done) new
  pub crash : Survives old new (HoldsOne parts s done)
  pub durable : IfClean (AllStay parts s done) new

-- so from each sound state that the tables showed before, however the answers to the commands of groups are told
abbrev pub DoneLasts : {K D : Type 0} → (K → Rules) → Ghosts D → DeskView K D → List Done → DeskView K D → Type 0
DoneLasts rules g old done new = (last head : Bool) (s : State) → IsSound (rules old.scheme) s → IfClean (ShowsState s) (state g old.store)
    → AllLast (part_of last head (rules old.scheme)) (rules old.scheme) s done (state g old.store) (state g new.store)

-- of all that is done, one after another
abbrev pub ClientsLast : {K D : Type 0} → (K → Rules) → Ghosts D → Type 0
ClientsLast {K} {D} rules g = (done : List Done) (old new : DeskView K D) → Steps (Does rules g) old done new → DoneLasts rules g old done new

-- so much was done, one after another, and nothing else; and that lasts
pub record ServesClients {K D : Type 0} (rules : K → Rules) (g : Ghosts D) (old new : DeskView K D) : Type 0 where
  pub done : List Done
  pub steps : Steps (Does rules g) old done new
  pub lasts : DoneLasts rules g old done new
