-- Lines that are handed on together.
use Rattle.std.specs.Prelude.{◌≡◌, ◌≢◌, ◌⊎◌, ◌<◌, ◌≤◌, ◌+◌, ◌*◌, ℕ, Bool, true, List, [], ◌++◌, length, take, filter, map, Result, IfOk, IfErr, OnOk}
use Rattle.std.specs.Borrow.{Bor}
use Rattle.std.specs.List.{list_all}
use Rattle.std.specs.Io.KnownBytes.{Appends}
use Rattle.up_lines.specs.declared.fault.ScriptCause.{ScriptCause}
use Rattle.up_lines.specs.declared.fault.ScriptCause.TheVariants.{Memory, Write}
use Rattle.up_lines.specs.Lines.{lines_of, most_line_bytes, most_together, is_short, has_bytes}
use Rattle.up_lines.specs.LineRuns.{Breaks, Gives, print}
use Rattle.up_lines.specs.Runs.{At, BlamesWriter, written}

-- the bytes of slices
abbrev pub bytes_of : List (Bor (List ℕ)) → List (List ℕ)
bytes_of slices = map (λ slice. slice.now) slices

-- ---- what an interpreter tells

-- so many of the first lines are answered, one at least, and their answers are appended
pub record AnswersSome {S : Type 0} (gives : Gives S) (old : S) (lines : List (List ℕ)) (n : ℕ) (held answers : List ℕ) (new : S) : Type 0 where
  pub some : 0 < n
  pub within : n ≤ length lines
  pub texts : List (List ℕ)
  pub given : gives old (take n lines) texts new
  pub appended : answers ≡ held ++ written print texts

-- some of the first lines, one at least
pub record AreSome (lines : List (List ℕ)) : Type 0 where
  pub next : List (List ℕ)
  pub others : List (List ℕ)
  pub lines_are : lines ≡ next ++ others
  pub some : next ≢ []

-- some of the first lines are answered, and it can't be told how
abbrev pub AnswersUntold : {S : Type 0} → Gives S → S → List (List ℕ) → S → Type 0
AnswersUntold gives old lines new = (them : AreSome lines) × (texts : List (List ℕ)) × gives old them.next texts new

-- ---- what is written of it

-- these lines aren't answered whole: without memory nothing of their answers is written, and where the writer failed a part is
abbrev pub Unanswered : {S : Type 0} → Gives S → ScriptCause → List (List ℕ) → At S → At S → Type 0
Unanswered gives cause lines old new = ((cause ≡ Memory) ⊎ (cause ≡ Write)) × ((prefix : List ℕ) × Breaks gives cause lines old.state new.state prefix × Appends old.held new.held prefix)

-- so many of the first lines are answered, and their answers written at once; or some of them aren't answered whole
pub record WritesSome {S : Type 0} (gives : Gives S) (lines : List (List ℕ)) (old new : At S) (failed can_write : Type 0) (result : Result ℕ ScriptCause) : Type 0 where
  pub ok : IfOk result (λ n. (0 < n) × (n ≤ length lines)
      × ((texts : List (List ℕ)) × gives old.state (take n lines) texts new.state × Appends old.held new.held (written print texts)))
  pub err : IfErr result (λ cause. (them : AreSome lines) × Unanswered gives cause them.next old new)
  pub goes_on : OnOk result can_write
  pub blames : IfErr result (λ cause. BlamesWriter cause failed can_write)

-- all lines are answered, and their answers written
pub record WritesAll {S : Type 0} (gives : Gives S) (lines : List (List ℕ)) (answered : ℕ) (old new : At S) : Type 0 where
  pub texts : List (List ℕ)
  pub run : gives old.state lines texts new.state
  pub wrote : Appends old.held new.held (written print texts)
  pub answered_is : answered ≡ length texts

-- the first of them are, and then some aren't answered whole
pub record Halts {S : Type 0} (gives : Gives S) (cause : ScriptCause) (lines : List (List ℕ)) (answered : ℕ) (old new : At S) : Type 0 where
  pub done : List (List ℕ)
  pub rest : List (List ℕ)
  pub lines_are : lines ≡ done ++ rest
  pub them : AreSome rest
  pub texts : List (List ℕ)
  pub mid : At S
  pub run : gives old.state done texts mid.state
  pub wrote : Appends old.held mid.held (written print texts)
  pub answered_is : answered ≡ length texts
  pub unanswered : Unanswered gives cause them.next mid new

-- one or the other
pub record WritesEach {S : Type 0} (gives : Gives S) (lines : List (List ℕ)) (answered : ℕ) (old new : At S) (failed can_write : Type 0) (result : Result (Unit {0}) ScriptCause) : Type 0 where
  pub ok : OnOk result (WritesAll gives lines answered old new)
  pub err : IfErr result (λ cause. Halts gives cause lines answered old new)
  pub few : answered ≤ length lines
  pub goes_on : OnOk result can_write
  pub blames : IfErr result (λ cause. BlamesWriter cause failed can_write)

-- ---- how they are cut

-- these bytes are these lines, each with its newline
pub record AreLines (bytes : List ℕ) (lines : List (List ℕ)) : Type 0 where
  pub cut : (ended : Bool) (more : List ℕ) → lines_of ended (bytes ++ more) ≡ lines ++ lines_of ended more
  pub sized : list_all is_short lines ≡ true → length bytes ≤ length lines * (most_line_bytes + 1)

-- so many bytes, and so many lines, are cut from the front; so many of these have any byte, and they are listed
pub record AreCut (bytes : List ℕ) (most taken counted some : ℕ) (slices : List (Bor (List ℕ))) : Type 0 where
  pub front : List ℕ
  pub rest : List ℕ
  pub bytes_are : bytes ≡ front ++ rest
  pub taken_is : taken ≡ length front
  pub lines : List (List ℕ)
  pub are_lines : AreLines front lines
  pub counted_is : counted ≡ length lines
  pub few : counted ≤ most
  pub fit : some ≤ most_together
  pub listed_are : bytes_of (take some slices) ≡ filter has_bytes lines
