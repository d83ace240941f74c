-- What each line of a script is answered, and the state that it leaves.
use Rattle.std.specs.Prelude.{◌≡◌, ◌⊎◌, ℕ, List, ◌++◌, flat_map, Option, None, IfSome, Result, Ok, Err, IsUtf8}
use Rattle.sqlite_trees.specs.declared.store.Store.{Ghosts}
use Rattle.up_canon.specs.Names.{Name}
use Rattle.up_canon.specs.Refusals.{Gives}
use Rattle.up_canon.specs.Steps.{◌>>=◌, or_error}
use Rattle.up_canon.specs.declared.refusal.Refusal.{Refusal}
use Rattle.up_canon.specs.declared.refusal.Refusal.TheVariants.{NotJson, UnknownVehicle}
use Rattle.up_sign.specs.Schemes.{Rules}
use Rattle.up_plan.specs.declared.assigned.Plan.{Plan}
use Rattle.up_machine.specs.declared.answer.Answer.{Answer}
use Rattle.up_machine.specs.declared.answer.Answer.TheVariants.{Refused}
use Rattle.up_machine.specs.declared.command.Command.{Command}
use Rattle.up_machine.specs.declared.rows.EcuRow.{EcuRow}
use Rattle.up_machine.specs.declared.rows.VehicleRows.{VehicleRows}
use Rattle.up_machine.specs.Reads.{ecus_of, version_of, installed, assigned_to}
use Rattle.up_machine.specs.State.{State}
use Rattle.up_desk.specs.Serving.{outright}
use Rattle.up_records.specs.Standing.{Standing, state}
use Rattle.up_desk.specs.Desks.{DeskView}
use Rattle.up_script.specs.AskedLines.{asked_in}
use Rattle.up_script.specs.PrintedLines.{answer_text, refused_text, vehicle_text, ecu_text}
use Rattle.up_script.specs.declared.asked.Asked.{Asked}
use Rattle.up_script.specs.declared.asked.What.{What}
use Rattle.up_script.specs.declared.asked.What.TheVariants.{Call, Show}
use Rattle.up_service.specs.Answers.{Answered, answered_as, IsFailed, AnswersAs}

-- ---- views of a vehicle

-- ECUs, each with what is installed and what of a plan is assigned
abbrev pub ecus_text : State → Option Plan → List Name → List ℕ
ecus_text s plan ecus = flat_map (λ ecu. ecu_text plan ecu (installed s ecu)) ecus

-- the same of the rows of a vehicle, of which each has what is installed
abbrev pub row_text : Option Plan → EcuRow → List ℕ
row_text plan row = ecu_text plan row.ecu row.installed

abbrev pub rows_text : Option Plan → VehicleRows → List ℕ
rows_text plan rows = vehicle_text rows.vehicle.vehicle rows.vehicle.version ++ flat_map (row_text plan) rows.ecus

-- a vehicle's version, and its ECUs in inventory order
abbrev pub line_of : State → Name → ℕ → List Name → List ℕ
line_of s vehicle version ecus = vehicle_text vehicle version ++ ecus_text s (assigned_to s vehicle) ecus

-- that of a vehicle of this version
abbrev pub shown_with : State → Name → ℕ → Result (List ℕ) Refusal
shown_with s vehicle version = do
  ecus ← or_error UnknownVehicle (ecus_of s vehicle)
  Ok (line_of s vehicle version ecus)

unfoldable pub shown_in : State → Name → Result (List ℕ) Refusal
shown_in s vehicle = do
  version ← or_error UnknownVehicle (version_of s vehicle)
  shown_with s vehicle version

-- the text that is told of it
abbrev pub shown_text : Result (List ℕ) Refusal → List ℕ
shown_text (Ok text) = text
shown_text (Err r) = refused_text r

-- ---- lines

-- what the desk answers a command, as it is printed
abbrev pub command_answer : Rules → State → ℕ → Command → Answered
command_answer k s at command = answered_as answer_text k s at command

-- a view of a vehicle changes nothing
abbrev pub viewed : State → Name → Answered
viewed s vehicle = record { text = shown_text (shown_in s vehicle); called = None; next = s }

-- a command is called, and a view is shown
abbrev pub carried_out : Rules → State → ℕ → What → Answered
carried_out k s at (Call command) = command_answer k s at command
carried_out k s at (Show vehicle) = viewed s vehicle

-- the first fault of a line is its answer, and changes nothing
abbrev pub answer_to : Rules → State → Result Asked Refusal → Answered
answer_to k s (Ok asked) = carried_out k s asked.at asked.what
answer_to k s (Err r) = record { text = refused_text r; called = None; next = s }

unfoldable pub line_answer : Rules → State → List ℕ → Answered
line_answer k s line = answer_to k s (asked_in k line)

-- the line is such an answer, or says that memory or the database refused
abbrev pub AnswersLine : (State → Answered) → Rules → List ℕ → Standing → Standing → Type 0
AnswersLine answer k text old new = AnswersAs refused_text answer k text old new

-- ---- lines, whatever the database does and its tables show

-- the line that prints some answer of the desk, which is a refusal where the command is refused outright
abbrev pub IsAnswerText : Rules → ℕ → Command → List ℕ → Type 0
IsAnswerText k at command text = (answer : Answer) × (text ≡ answer_text answer) × IfSome (outright k at command) (λ r. answer ≡ Refused r)

-- the line of some rows of a vehicle; or it tells that there is none, or that memory or the database refused
abbrev pub IsViewText : List ℕ → Type 0
IsViewText text = ((plan : Option Plan) × (rows : VehicleRows) × (text ≡ rows_text plan rows))
    ⊎ ((text ≡ refused_text UnknownVehicle) ⊎ IsFailed refused_text text)

abbrev pub IsTextOf : Rules → ℕ → What → List ℕ → Type 0
IsTextOf k at (Call command) text = IsAnswerText k at command text
IsTextOf k at (Show vehicle) text = IsViewText text

-- a line that wasn't read as a command or a view is told why, and leaves the desk as it was
abbrev pub IsLineTo : {K D : Type 0} → Rules → DeskView K D → Result Asked Refusal → List ℕ → DeskView K D → Type 0
IsLineTo k old (Ok asked) text new = IsTextOf k asked.at asked.what text
IsLineTo k old (Err r) text new = (text ≡ refused_text r) × (new ≡ old)

-- what a line is read as: what it asks, its first fault, or that memory was refused; one that isn't UTF-8 is no JSON, whatever memory there is
abbrev pub IsReadAs : Rules → List ℕ → Result Asked Refusal → Type 0
IsReadAs k line read = Gives read (asked_in k line) × ((IsUtf8 line → ⊥) → read ≡ Err NotJson)

-- the line is read, and that is what is told of it
abbrev pub IsLine : {K D : Type 0} → Rules → DeskView K D → List ℕ → List ℕ → DeskView K D → Type 0
IsLine k old line text new = (read : Result Asked Refusal) × IsReadAs k line read × IsLineTo k old read text new

-- ---- both

-- the desk's scheme stays; the text is such a one, and such an answer over the states that the tables show
abbrev pub Prints : {K D : Type 0} → (K → Rules) → Ghosts D → (Rules → List ℕ → Type 0) → (Rules → State → Answered)
    → DeskView K D → List ℕ → DeskView K D → Type 0
Prints rules g IsText answer old text new =
    (new.scheme ≡ old.scheme) × IsText (rules old.scheme) text
    × AnswersLine (answer (rules old.scheme)) (rules old.scheme) text (state g old.store) (state g new.store)

-- what a desk may answer a line, and how it leaves it
abbrev pub Line : {K D : Type 0} → (K → Rules) → Ghosts D → DeskView K D → List ℕ → List ℕ → DeskView K D → Type 0
Line rules g old line text new = Prints rules g (λ k t. IsLine k old line t new) (λ k s. line_answer k s line) old text new
