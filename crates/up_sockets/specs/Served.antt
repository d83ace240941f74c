-- What serving clients and operators leaves.
use Rattle.std.specs.Prelude.{◌≡◌, ◌≤◌, ℕ, Bool, true, List, [], ◌∷◌, ◌++◌, length, filter, Result, OnOk}
use Rattle.std.specs.List.{list_all}
use Rattle.up_lines.specs.Lines.{most_lines, most_line_bytes, lines_of, has_bytes}
use Rattle.up_lines.specs.LineRuns.{print}
use Rattle.up_lines.specs.Progress.{is_inside}
use Rattle.up_lines.specs.Runs.{written}
use Rattle.up_lines.specs.declared.fault.ScriptCause.{ScriptCause}
use Rattle.up_lines.specs.declared.progress.Progress.{Progress}
use Rattle.up_machine.specs.declared.answer.Answer.{Answer}
use Rattle.up_machine.specs.declared.command.Command.{Command}
use Rattle.up_http.specs.Serving.{Gives}
use Rattle.up_http.specs.declared.asked.Next.{Next}

-- what is done at once: a request is answered by itself at its moment; commands are carried out together, each at its moment; or lines of a
-- script are answered
pub data Done : Type 0 where
  Single : ℕ → Next → List ℕ → Done
  Group : List (ℕ × Command) → List Answer → Done
  Lines : List (List ℕ) → List (List ℕ) → Done

-- a request that is answered by itself
abbrev pub by_itself : {S : Type 0} → (S → Done → S → Type 0) → ℕ → Gives S
by_itself does at old next text new = does old (Single at next text) new

-- one after another
abbrev pub Steps : {S : Type 0} → (S → Done → S → Type 0) → S → List Done → S → Type 0
Steps does old [] new = new ≡ old
Steps {S} does old (d ∷ ds) new = (mid : S) × does old d mid × Steps does mid ds new

-- so much was done, and nothing else changed the state
abbrev pub IsServed : {S : Type 0} → (S → Done → S → Type 0) → S → S → Type 0
IsServed does old new = (done : List Done) × Steps does old done new

-- of a script all lines that are whole were answered: what is left is the beginning of a line, within the limits
pub record IsBegun (at : Progress) : Type 0 where
  pub own : list_all is_inside at.line.items ≡ true
  pub short : length at.line.items ≤ most_line_bytes
  pub few : at.counted ≤ most_lines
  pub none_past : at.counted ≡ most_lines → at.line.items ≡ []

-- the lines of bytes that are answered: those that have any byte
abbrev pub lines_asked : Bool → List ℕ → List (List ℕ)
lines_asked ended bytes = filter has_bytes (lines_of ended bytes)

-- of a script a piece was taken, and these lines were answered
pub record TakesPiece {S : Type 0} (does : S → Done → S → Type 0) (old : S) (piece : List ℕ) (before after : Progress) (held answers : List ℕ) (new : S) (result : Result (Unit {0}) ScriptCause) : Type 0 where
  pub lines : List (List ℕ)
  pub texts : List (List ℕ)
  pub done : does old (Lines lines texts) new
  -- where it went well they are the lines that are whole then, whatever follows
  pub whole : OnOk result ((ended : Bool) (more : List ℕ) → lines_asked ended (before.line.items ++ piece ++ more) ≡ lines ++ lines_asked ended (after.line.items ++ more))
  -- their answers were appended, in order
  pub told : OnOk result (answers ≡ held ++ written print texts)
  -- and the next line is begun
  pub begun : OnOk result (IsBegun after)
