-- What a list of commands, a script and a stream are answered from nothing.
use Rattle.std.specs.Prelude.{◌≡◌, ℕ, Bool, true, List, [], ◌++◌, Option, Result}
use Rattle.std.specs.Io.KnownBytes.{Appends}
use Rattle.up_sign.specs.Schemes.{Rules}
use Rattle.up_machine.specs.declared.answer.Answer.{Answer}
use Rattle.up_machine.specs.declared.command.Command.{Command}
use Rattle.up_machine.specs.State.{State, empty_state}
use Rattle.up_desk.specs.Runs.{IsRun}
use Rattle.up_lines.specs.LineRuns.{AreFirst, print}
use Rattle.up_lines.specs.Lines.{lines_of, fits, asked}
use Rattle.up_lines.specs.Lines as lines
use Rattle.up_lines.specs.Runs.{Ran, written}
use Rattle.up_lines.specs.declared.fault.ScriptCause.{ScriptCause}
use Rattle.up_lines.specs.declared.fault.ScriptFault.{ScriptFault}
use Rattle.up_http.specs.Requests.{Requests}
use Rattle.up_http.specs.Serving.{plain, cause_of}
use Rattle.up_http.specs.Serving as serving
use Rattle.up_http.specs.declared.asked.Next.{Next}
use Rattle.up_http.specs.declared.fault.ServeFault.{ServeFault}
use Rattle.up_http.specs.declared.served.Served.{Served}
use Rattle.up_shipped.specs.Items.{IsRunOf}
use Rattle.up_shipped.specs.Shipped.{lines_ask, requests_ask, IsPart, IsPartOfLines}

-- ---- lists

-- The commands with these answers are a run of the plain machine, from the state in which nothing is founded.
abbrev pub IsRunFromNothing : Rules → List (ℕ × Command) → List Answer → Type 0
IsRunFromNothing k cs answers = (next : State) × IsRun k empty_state cs answers next

-- ---- scripts

-- Of the bytes that came each line that has any byte has its answer, and nothing else is written. The commands that they ask, with these
-- answers, are a run from nothing.
pub record AnswersScript (k : Rules) (came : List ℕ) (old new : Option (List ℕ)) : Type 0 where
  pub fit : fits (lines_of true came) ≡ true
  pub texts : List (List ℕ)
  pub behind : State
  pub run : IsRunOf k (lines_ask k) empty_state (asked (lines_of true came)) texts behind
  pub wrote : Appends old new (written print texts)

-- so are the first lines of a script that ended early, and of the next ones' answers less than all was written
pub record BeginsScript (k : Rules) (came : List ℕ) (ended : Bool) (cause : ScriptCause) (old new : Option (List ℕ)) : Type 0 where
  pub done : List (List ℕ)
  pub next : List (List ℕ)
  pub are_first : AreFirst (asked (lines_of ended came)) done next
  pub texts : List (List ℕ)
  pub behind : State
  pub run : IsRunOf k (lines_ask k) empty_state done texts behind
  pub part : List ℕ
  pub is_part : IsPartOfLines cause next part
  pub wrote : Appends old new (written print texts ++ part)

-- what a reader had and has then, what a writer held and holds then, and how the script ended
abbrev pub IsScriptFromNothing : Rules → Option (List ℕ) → Option (List ℕ) → Option (List ℕ) → Option (List ℕ) → Result ℕ ScriptFault → Type 0
IsScriptFromNothing k had has old new result =
    Ran lines.most_bytes (λ came ended answered. (ended ≡ true) × AnswersScript k came old new)
    (λ came ended fault. BeginsScript k came ended fault.cause old new) had has result

-- ---- streams

-- Each request of the bytes has its answer, and nothing else is written. The commands that they ask, at this moment, with these answers, are
-- a run from nothing.
pub record AnswersStream (k : Rules) (at : ℕ) (input : List ℕ) (old new : Option (List ℕ)) : Type 0 where
  pub requests : List Next
  pub all : Requests input requests
  pub texts : List (List ℕ)
  pub behind : State
  pub run : IsRunOf k (requests_ask at) empty_state requests texts behind
  pub wrote : Appends old new (written plain texts)

-- so have the first requests of a stream that ended early, and of the next one's answer less than all was written
pub record BeginsStream (k : Rules) (at : ℕ) (came : List ℕ) (ended : Bool) (cause : ScriptCause) (old new : Option (List ℕ)) : Type 0 where
  pub done : List Next
  pub next : Option Next
  pub are_first : serving.AreFirst came ended done next
  pub texts : List (List ℕ)
  pub behind : State
  pub run : IsRunOf k (requests_ask at) empty_state done texts behind
  pub part : List ℕ
  pub is_part : IsPart plain cause next part
  pub wrote : Appends old new (written plain texts ++ part)

-- the same of a stream, whose requests are those of what came and of whatever follows, unless the input ended
abbrev pub IsStreamFromNothing : Rules → ℕ → Option (List ℕ) → Option (List ℕ) → Option (List ℕ) → Option (List ℕ) → Result Served ServeFault → Type 0
IsStreamFromNothing k at had has old new result =
    Ran serving.most_bytes (λ came ended served. (more : List ℕ) → (ended ≡ true → more ≡ []) → AnswersStream k at (came ++ more) old new)
    (λ came ended fault. BeginsStream k at came ended (cause_of fault.cause) old new) had has result
