-- What a whole script comes to.
use Rattle.std.specs.Prelude.{◌≡◌, ℕ, Bool, true, List, [], Option, Result}
use Rattle.sqlite_trees.specs.declared.store.Store.{Ghosts}
use Rattle.up_sign.specs.Schemes.{Rules}
use Rattle.up_script.specs.PrintedLines.{refused_text}
use Rattle.up_lines.specs.Lines.{most_bytes}
use Rattle.up_lines.specs.LineRuns.{FinishedLines, RunsLines, Stopped}
use Rattle.up_lines.specs.Runs.{At, Ran}
use Rattle.up_lines.specs.declared.fault.ScriptFault.{ScriptFault}
use Rattle.up_desk.specs.Desks.{DeskView}
use Rattle.up_service.specs.LineAnswers.{line_answer}
use Rattle.up_service.specs.Runs.{Service, LastsFrom, ListsLast}
use Rattle.up_service.specs.Together.{Lines}

-- lines are answered so
abbrev pub line_service : Rules → Service (List ℕ)
line_service k = record { rules = k; answer = line_answer k; tell = λ line. refused_text; together = true }

-- the law of runs, of lines
abbrev pub LinesLast : {K D : Type 0} → (K → Rules) → Ghosts D → Type 0
LinesLast rules g = ListsLast (λ q. line_service (rules q)) g (Lines rules g)

-- a script that was read to its end: a run over all its lines, and what lasts of it
abbrev pub FinishedLast : {K D : Type 0} → (K → Rules) → Ghosts D → List ℕ → ℕ → At (DeskView K D) → At (DeskView K D) → Type 0
FinishedLast rules g came answered first now =
    (run : FinishedLines (Lines rules g) came answered first now)
    × LastsFrom (λ q. line_service (rules q)) g first.state run.items run.answers [] now.state

-- a script that ended early: a run over its first lines, and what lasts of it
abbrev pub StoppedLast : {K D : Type 0} → (K → Rules) → Ghosts D → List ℕ → Bool → ScriptFault → At (DeskView K D) → At (DeskView K D) → Type 0
StoppedLast rules g came ended fault first now =
    (run : Stopped (Lines rules g) came ended fault first now)
    × LastsFrom (λ q. line_service (rules q)) g first.state run.done run.answers run.next now.state

-- what lasts of a run over a reader and a writer
abbrev pub ScriptLasts : {K D : Type 0} → (K → Rules) → Ghosts D → Option (List ℕ) → Option (List ℕ)
    → At (DeskView K D) → At (DeskView K D) → Result ℕ ScriptFault → Type 0
ScriptLasts rules g had has first now result =
    Ran most_bytes (λ came ended answered. (ended ≡ true) × FinishedLast rules g came answered first now)
    (λ came ended fault. StoppedLast rules g came ended fault first now) had has result

-- a script over a reader and a writer
pub record RunsScript {K D : Type 0} (rules : K → Rules) (g : Ghosts D) (had has : Option (List ℕ)) (first now : At (DeskView K D)) (result : Result ℕ ScriptFault) : Type 0 where
  -- its lines are answered and written, each as the desk may answer it
  pub lines : RunsLines (Lines rules g) had has first now result
  -- from each state that the tables showed: each answer is due, the tables show the state behind the lines, and a crash loses nothing that
  -- was answered
  pub lasts : ScriptLasts rules g had has first now result
