-- Whole scripts and whole streams: from the bytes that come to the bytes that are written.
use Rattle.std.specs.Prelude.{◌≡◌, ℕ, Bool, true, List, [], ◌∷◌, ◌++◌, length, Option, Some, None, Result, Ok, Err}
use Rattle.std.specs.Io.KnownBytes.{Appends}
use Rattle.sqlite_trees.specs.declared.store.Store.{Ghosts}
use Rattle.up_canon.specs.declared.refusal.Refusal.{Refusal}
use Rattle.up_sign.specs.Schemes.{Rules}
use Rattle.up_machine.specs.declared.command.Command.{Command}
use Rattle.up_machine.specs.Sound.{IsSound}
use Rattle.up_machine.specs.State.{State}
use Rattle.up_records.specs.Standing.{HasCleanDisk, IfClean, ShowsState, state}
use Rattle.up_desk.specs.Desks.{DeskView}
use Rattle.up_lines.specs.LineRuns.{AreFirst, print}
use Rattle.up_lines.specs.Lines.{lines_of, fits, asked}
use Rattle.up_lines.specs.Lines as lines
use Rattle.up_lines.specs.Runs.{At, IsCut, Ran, written, listed}
use Rattle.up_lines.specs.declared.fault.ScriptCause.{ScriptCause}
use Rattle.up_lines.specs.declared.fault.ScriptFault.{ScriptFault}
use Rattle.up_script.specs.AskedLines.{asked_in}
use Rattle.up_script.specs.PrintedLines.{answer_text}
use Rattle.up_script.specs.declared.asked.Asked.{Asked}
use Rattle.up_script.specs.declared.asked.What.{What}
use Rattle.up_script.specs.declared.asked.What.TheVariants.{Call, Show}
use Rattle.up_http.specs.Requests.{Requests}
use Rattle.up_http.specs.Serving.{plain, cause_of}
use Rattle.up_http.specs.Serving as serving
use Rattle.up_http.specs.declared.asked.Next.{Next}
use Rattle.up_http.specs.declared.asked.What.{What as Requested}
use Rattle.up_http.specs.declared.asked.What.TheVariants.{Call as Request, Fixed}
use Rattle.up_http.specs.declared.fault.ServeFault.{ServeFault}
use Rattle.up_http.specs.declared.served.Served.{Served}
use Rattle.up_service.specs.Responses.{answer_response}
use Rattle.up_service.specs.Scripts.{line_service, RunsScript}
use Rattle.up_service.specs.Streams.{request_service, RunsStream}
use Rattle.up_shipped.specs.Items.{Asking, IsShipped}

-- ---- what the bytes ask

-- a line that is read as a command asks it, and a view asks none
abbrev pub command_at : ℕ → What → Option (ℕ × Command)
command_at at (Call command) = Some (at, command)
command_at at (Show vehicle) = None

abbrev pub command_of : Result Asked Refusal → Option (ℕ × Command)
command_of (Ok asked) = command_at asked.at asked.what
command_of (Err r) = None

-- lines, whose answers are printed
abbrev pub lines_ask : Rules → Asking (List ℕ)
lines_ask k = record { asks = λ line. command_of (asked_in k line); tell = λ line. answer_text }

-- a request that isn't answered by itself asks a command, at the moment of its stream
abbrev pub requested_at : ℕ → Requested → Option (ℕ × Command)
requested_at at (Request command) = Some (at, command)
requested_at at (Fixed check) = None

-- requests, whose answers are responses
abbrev pub requests_ask : ℕ → Asking Next
requests_ask at = record { asks = λ next. requested_at at next.what; tell = λ next answer. answer_response answer next.last next.head }

-- what was written of one more answer, less than the whole of it: nothing where no item was handed on
abbrev pub IsPart : {I : Type 0} → (List ℕ → List ℕ) → ScriptCause → Option I → List ℕ → Type 0
IsPart print cause None part = part ≡ []
IsPart print cause (Some item) part = (text : List ℕ) × IsCut cause part (print text)

-- the same of the answers to lines that were handed on
abbrev pub IsPartOfLines : ScriptCause → List (List ℕ) → List ℕ → Type 0
IsPartOfLines cause [] part = part ≡ []
IsPartOfLines cause (line ∷ lines) part = (texts : List (List ℕ)) × (length texts ≡ length (line ∷ lines)) × IsCut cause part (written print texts)

-- ---- scripts

-- of the bytes that came each line that has any byte has its answer, and nothing else is written
pub record IsWholeScript {K D : Type 0} (rules : K → Rules) (g : Ghosts D) (s : State) (came : List ℕ) (first now : At (DeskView K D)) : Type 0 where
  pub fit : fits (lines_of true came) ≡ true
  pub texts : List (List ℕ)
  pub shipped : IsShipped (line_service (rules first.state.scheme)) (lines_ask (rules first.state.scheme)) s (asked (lines_of true came)) texts []
      (state g first.state.store) (state g now.state.store)
  pub wrote : Appends first.held now.held (written print texts)

-- so have the first lines of a script that ended early, and of the next ones' answers less than all was written
pub record IsBegunScript {K D : Type 0} (rules : K → Rules) (g : Ghosts D) (s : State) (came : List ℕ) (ended : Bool) (cause : ScriptCause) (first now : At (DeskView K D)) : Type 0 where
  pub done : List (List ℕ)
  pub next : List (List ℕ)
  pub are_first : AreFirst (asked (lines_of ended came)) done next
  pub texts : List (List ℕ)
  pub shipped : IsShipped (line_service (rules first.state.scheme)) (lines_ask (rules first.state.scheme)) s done texts next
      (state g first.state.store) (state g now.state.store)
  pub part : List ℕ
  pub is_part : IsPartOfLines cause next part
  pub wrote : Appends first.held now.held (written print texts ++ part)

-- the commands that the bytes ask, with the answers that were written, are a run of the plain machine
abbrev pub ShipsScript : {K D : Type 0} → (K → Rules) → Ghosts D → State → Option (List ℕ) → Option (List ℕ) → At (DeskView K D) → At (DeskView K D) → Result ℕ ScriptFault → Type 0
ShipsScript rules g s had has first now result =
    Ran lines.most_bytes (λ came ended answered. (ended ≡ true) × IsWholeScript rules g s came first now)
    (λ came ended fault. IsBegunScript rules g s came ended fault.cause first now) had has result

-- so of every script, from each sound state that the tables showed, over a disk that has returned what was written
abbrev pub ScriptsAreRuns : {K D : Type 0} → (K → Rules) → Ghosts D → Type 0
ScriptsAreRuns {K} {D} rules g = (had has : Option (List ℕ)) (first now : At (DeskView K D)) (result : Result ℕ ScriptFault)
    → RunsScript rules g had has first now result → HasCleanDisk (state g now.state.store)
    → (s : State) → IsSound (rules first.state.scheme) s → IfClean (ShowsState s) (state g first.state.store)
    → ShipsScript rules g s had has first now result

-- ---- streams

pub record IsWholeStream {K D : Type 0} (rules : K → Rules) (g : Ghosts D) (at : ℕ) (s : State) (input : List ℕ) (first now : At (DeskView K D)) : Type 0 where
  pub requests : List Next
  pub all : Requests input requests
  pub texts : List (List ℕ)
  pub shipped : IsShipped (request_service (rules first.state.scheme) at) (requests_ask at) s requests texts []
      (state g first.state.store) (state g now.state.store)
  pub wrote : Appends first.held now.held (written plain texts)

pub record IsBegunStream {K D : Type 0} (rules : K → Rules) (g : Ghosts D) (at : ℕ) (s : State) (came : List ℕ) (ended : Bool) (cause : ScriptCause) (first now : At (DeskView K D)) : Type 0 where
  pub done : List Next
  pub next : Option Next
  pub are_first : serving.AreFirst came ended done next
  pub texts : List (List ℕ)
  pub shipped : IsShipped (request_service (rules first.state.scheme) at) (requests_ask at) s done texts (listed next)
      (state g first.state.store) (state g now.state.store)
  pub part : List ℕ
  pub is_part : IsPart plain cause next part
  pub wrote : Appends first.held now.held (written plain texts ++ part)

-- the same of the requests of a stream
abbrev pub ShipsStream : {K D : Type 0} → (K → Rules) → Ghosts D → ℕ → State → Option (List ℕ) → Option (List ℕ) → At (DeskView K D) → At (DeskView K D) → Result Served ServeFault → Type 0
ShipsStream rules g at s had has first now result =
    Ran serving.most_bytes (λ came ended served. (more : List ℕ) → (ended ≡ true → more ≡ []) → IsWholeStream rules g at s (came ++ more) first now)
    (λ came ended fault. IsBegunStream rules g at s came ended (cause_of fault.cause) first now) had has result

abbrev pub StreamsAreRuns : {K D : Type 0} → (K → Rules) → Ghosts D → Type 0
StreamsAreRuns {K} {D} rules g = (at : ℕ) (had has : Option (List ℕ)) (first now : At (DeskView K D)) (result : Result Served ServeFault)
    → RunsStream rules g at had has first now result → HasCleanDisk (state g now.state.store)
    → (s : State) → IsSound (rules first.state.scheme) s → IfClean (ShowsState s) (state g first.state.store)
    → ShipsStream rules g at s had has first now result
