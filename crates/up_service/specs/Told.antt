-- What is told of what a desk answered, whatever it may answer. Each command is one call, each read is made once, and that is told.
use Rattle.std.specs.Prelude.{◌≡◌, ℕ, Bool, List, Option, Some, None, Result, Ok, Err, MatchResult}
use Rattle.up_canon.specs.Names.{Name}
use Rattle.up_canon.specs.declared.refusal.Refusal.{Refusal}
use Rattle.up_canon.specs.declared.refusal.Refusal.TheVariants.{Memory, UnknownVehicle}
use Rattle.up_plan.specs.declared.assigned.Plan.{Plan}
use Rattle.up_machine.specs.declared.answer.Answer.{Answer}
use Rattle.up_machine.specs.declared.command.Command.{Command}
use Rattle.up_machine.specs.declared.rows.VehicleRows.{VehicleRows}
use Rattle.up_tables.specs.declared.values.StoreFault.{StoreFault}
use Rattle.up_records.specs.Connected.{refusal_told}
use Rattle.up_script.specs.PrintedLines.{answer_text, refused_text}
use Rattle.up_script.specs.declared.asked.Asked.{Asked}
use Rattle.up_script.specs.declared.asked.What.{What}
use Rattle.up_script.specs.declared.asked.What.TheVariants.{Call, Show}
use Rattle.up_heads.specs.Responses.{check_response_of}
use Rattle.up_http.specs.declared.asked.Next.{Next}
use Rattle.up_http.specs.declared.asked.What.{What as Requested}
use Rattle.up_http.specs.declared.asked.What.TheVariants.{Call as Request, Fixed}
use Rattle.up_service.specs.LineAnswers.{rows_text, shown_text}
use Rattle.up_service.specs.Responses.{answer_response}

-- what reads lines: in a state a line may be read as this, or have this for its first fault
abbrev pub Asks : Type 0 → Type 1
Asks S = S → List ℕ → Result Asked Refusal → Type 0

-- what answers commands: at a moment a command may have this answer, which leaves that state
abbrev pub Gives : Type 0 → Type 1
Gives S = S → ℕ → Command → Answer → S → Type 0

-- what is read of a vehicle may be this, which leaves that state
abbrev pub Finds : Type 0 → Type 0 → Type 1
Finds S A = S → Name → Result A StoreFault → S → Type 0

-- one call was made, and what it answered is told
abbrev pub TellsCall : {S : Type 0} → Gives S → (Answer → List ℕ) → S → ℕ → Command → List ℕ → S → Type 0
TellsCall gives tell old at command text new = (answer : Answer) × gives old at command answer new × (text ≡ tell answer)

-- the line of these rows and of the plan that was found, or want of memory for it; or the fault that was met
abbrev pub ShowsPlan : VehicleRows → Result (Option Plan) StoreFault → Result (List ℕ) Refusal → Type 0
ShowsPlan rows (Ok plan) shown = MatchResult shown (λ line. line ≡ rows_text plan rows) (λ r. r ≡ Memory)
ShowsPlan rows (Err fault) shown = shown ≡ Err (refusal_told fault)

-- what is assigned is read, and the line is that of these rows
abbrev pub ShowsRows : {S : Type 0} → Finds S (Option Plan) → VehicleRows → S → Result (List ℕ) Refusal → S → Type 0
ShowsRows plans rows old shown new = (found : Result (Option Plan) StoreFault) × plans old rows.vehicle.vehicle found new × ShowsPlan rows found shown

-- behind the read of a vehicle's rows: there is none, or the fault that was met
abbrev pub ShowsFound : {S : Type 0} → Finds S (Option Plan) → Result (Option VehicleRows) StoreFault → S → Result (List ℕ) Refusal → S → Type 0
ShowsFound plans (Ok (Some rows)) old shown new = ShowsRows plans rows old shown new
ShowsFound plans (Ok None) old shown new = (shown ≡ Err UnknownVehicle) × (new ≡ old)
ShowsFound plans (Err fault) old shown new = (shown ≡ Err (refusal_told fault)) × (new ≡ old)

-- a vehicle's rows are read, and then what is assigned
abbrev pub Shows : {S : Type 0} → Finds S (Option VehicleRows) → Finds S (Option Plan) → S → Name → Result (List ℕ) Refusal → S → Type 0
Shows {S} vehicles plans old vehicle shown new = (mid : S) × (found : Result (Option VehicleRows) StoreFault)
    × vehicles old vehicle found mid × ShowsFound plans found mid shown new

-- and that is told
abbrev pub TellsView : {S : Type 0} → Finds S (Option VehicleRows) → Finds S (Option Plan) → S → Name → List ℕ → S → Type 0
TellsView vehicles plans old vehicle text new = (shown : Result (List ℕ) Refusal)
    × Shows vehicles plans old vehicle shown new × (text ≡ shown_text shown)

-- ---- lines

-- what a line asks is called, or shown
abbrev pub TellsWhat : {S : Type 0} → Gives S → Finds S (Option VehicleRows) → Finds S (Option Plan) → S → ℕ → What → List ℕ → S → Type 0
TellsWhat gives vehicles plans old at (Call command) text new = TellsCall gives answer_text old at command text new
TellsWhat gives vehicles plans old at (Show vehicle) text new = TellsView vehicles plans old vehicle text new

-- a line that wasn't read is told why
abbrev pub TellsAsked : {S : Type 0} → Gives S → Finds S (Option VehicleRows) → Finds S (Option Plan) → S → Result Asked Refusal → List ℕ → S → Type 0
TellsAsked gives vehicles plans old (Ok asked) text new = TellsWhat gives vehicles plans old asked.at asked.what text new
TellsAsked gives vehicles plans old (Err r) text new = (text ≡ refused_text r) × (new ≡ old)

-- a line is read, and what that came to is told
abbrev pub TellsLine : {S : Type 0} → Asks S → Gives S → Finds S (Option VehicleRows) → Finds S (Option Plan) → S → List ℕ → List ℕ → S → Type 0
TellsLine asks gives vehicles plans old line text new = (read : Result Asked Refusal) × asks old line read
    × TellsAsked gives vehicles plans old read text new

-- ---- requests

-- a command is called, and a fixed answer is told
abbrev pub TellsRequest : {S : Type 0} → Gives S → ℕ → S → Requested → Bool → Bool → List ℕ → S → Type 0
TellsRequest gives at old (Request command) last head text new = TellsCall gives (λ answer. answer_response answer last head) old at command text new
TellsRequest gives at old (Fixed check) last head text new = (text ≡ check_response_of check last head) × (new ≡ old)

abbrev pub TellsNext : {S : Type 0} → Gives S → ℕ → S → Next → List ℕ → S → Type 0
TellsNext gives at old next text new = TellsRequest gives at old next.what next.last next.head text new
