-- What stands while lines are read: the steps of a run.
use Rattle.std.specs.Prelude.{◌≡◌, ◌⊎◌, ℕ, ◌+◌, ◌*◌, ◌<◌, ◌≤◌, ◌==◌, Bool, true, false, not, Result, Ok, Err, List, [], ◌∷◌, ◌++◌, length, filter, OnOk, IfErr}
use Rattle.std.specs.List.{list_all}
use Rattle.std.specs.Io.KnownBytes.{Appends}
use Rattle.up_lines.specs.declared.fault.ScriptCause.{ScriptCause}
use Rattle.up_lines.specs.declared.fault.ScriptCause.TheVariants.{Memory, Read, Write, TooLong}
use Rattle.up_lines.specs.declared.fault.ScriptFault.{ScriptFault}
use Rattle.up_lines.specs.declared.progress.Progress.{Progress}
use Rattle.up_lines.specs.Lines.{newline, most_lines, most_line_bytes, most_together, piece_bytes, lines_of, is_short, has_bytes}
use Rattle.up_lines.specs.Together.{AreLines, Halts, Unanswered}
use Rattle.up_lines.specs.Runs.{At, written, BlamesWriter}
use Rattle.up_lines.specs.LineRuns.{Gives, print, Stopped, FinishedLines}

-- whether a byte is one of a line's own
abbrev pub is_inside : ℕ → Bool
is_inside byte = not (byte == newline)

-- of the bytes that came these lines were answered; those that are begun or whole behind them aren't yet
pub record Within {S : Type 0} (gives : Gives S) (first : At S) (came : List ℕ) (at : Progress) (now : At S) : Type 0 where
  pub whole : List (List ℕ)
  pub answers : List (List ℕ)
  pub cut : (ended : Bool) (more : List ℕ) → lines_of ended (came ++ more) ≡ whole ++ lines_of ended (at.line.items ++ more)
  pub each_short : list_all is_short whole ≡ true
  pub counted_is : at.counted ≡ length whole
  pub few : at.counted ≤ most_lines
  pub short : list_all is_short (lines_of true at.line.items) ≡ true
  pub bytes : length came ≤ at.counted * (most_line_bytes + 1) + length at.line.items
  pub run : gives first.state (filter has_bytes whole) answers now.state
  pub answered_is : at.answered ≡ length answers
  pub wrote : Appends first.held now.held (written print answers)

-- of the bytes that came the whole lines were answered, and the next line is begun
pub record Sofar {S : Type 0} (gives : Gives S) (first : At S) (came : List ℕ) (at : Progress) (now : At S) : Type 0 where
  pub whole : List (List ℕ)
  pub answers : List (List ℕ)
  pub cut : (ended : Bool) (more : List ℕ) → lines_of ended (came ++ more) ≡ whole ++ lines_of ended (at.line.items ++ more)
  pub own_bytes : list_all is_inside at.line.items ≡ true
  pub each_short : list_all is_short whole ≡ true
  pub counted_is : at.counted ≡ length whole
  pub few : at.counted ≤ most_lines
  pub short : length at.line.items ≤ most_line_bytes
  pub none_past : at.counted ≡ most_lines → at.line.items ≡ []
  pub bytes : length came ≤ at.counted * (most_line_bytes + 1) + length at.line.items
  pub run : gives first.state (filter has_bytes whole) answers now.state
  pub answered_is : at.answered ≡ length answers
  pub wrote : Appends first.held now.held (written print answers)

-- bytes are taken: what stood after the bytes before them stands after them too
abbrev pub Takes : {S : Type 0} → Gives S → List ℕ → Progress → At S → Progress → At S → Type 0
Takes {S} gives bytes old before new after = (first : At S) (came : List ℕ) → Sofar gives first came old before → Sofar gives first (came ++ bytes) new after

-- bytes of a piece are not all taken: the run stops among them
abbrev pub Stops : {S : Type 0} → Gives S → ScriptCause → Bool → List ℕ → Progress → At S → Progress → At S → Type 0
Stops {S} gives cause ended bytes old before new after = (first : At S) (came : List ℕ) → Sofar gives first came old before
    → length bytes ≤ piece_bytes → Stopped gives (came ++ bytes) ended (record { cause = cause; lines = new.answered }) first after

-- the bytes of a piece before its first newline, and those from it on
pub record IsPart (piece : List ℕ) : Type 0 where
  pub part : List ℕ
  pub rest : List ℕ
  pub piece_is : piece ≡ part ++ rest
  pub own : list_all is_inside part ≡ true
  pub ends : (rest ≡ []) ⊎ ((more : List ℕ) × (rest ≡ newline ∷ more))

-- a piece is put behind the line that is begun, which stays within the limits
pub record Grows (piece : List ℕ) (old new : Progress) : Type 0 where
  pub grown : new.line.items ≡ old.line.items ++ piece
  pub counted_is : new.counted ≡ old.counted
  pub answered_is : new.answered ≡ old.answered
  pub begun : IsPart piece
  pub short : 0 < length piece → length (old.line.items ++ begun.part) ≤ most_line_bytes

-- why a piece isn't taken: the room for lines was refused at the first byte of the first one, the piece stands behind the last line, or the
-- line that is begun has too many bytes with it
abbrev pub Refuses : ScriptCause → List ℕ → Progress → Type 0
Refuses Memory piece at = (p : IsPart piece) × (0 < length p.part) × (length p.part ≤ most_line_bytes) × (at.counted < most_lines) × (at.line.items ≡ []) × (at.answered ≡ 0)
Refuses TooLong piece at = ((0 < length piece) × (at.counted ≡ most_lines)) ⊎ ((p : IsPart piece) × (most_line_bytes < length (at.line.items ++ p.part)))
Refuses Read piece at = ⊥
Refuses Write piece at = ⊥

-- a line is ended: it has its answer if it has any byte, and the next one is empty
pub record Closes {S : Type 0} (gives : Gives S) (old : Progress) (before : At S) (new : Progress) (after : At S) : Type 0 where
  pub answers : List (List ℕ)
  pub emptied : new.line.items ≡ []
  pub counted_is : new.counted ≡ old.counted + 1
  pub answered_is : new.answered ≡ old.answered + length answers
  pub run : gives before.state (filter has_bytes (old.line.items ∷ [])) answers after.state
  pub wrote : Appends before.held after.held (written print answers)

-- a line that has some byte isn't answered whole
pub record Fails {S : Type 0} (gives : Gives S) (cause : ScriptCause) (old : Progress) (before : At S) (new : Progress) (after : At S) : Type 0 where
  pub some : has_bytes old.line.items ≡ true
  pub answered_is : new.answered ≡ old.answered
  pub unanswered : Unanswered gives cause (old.line.items ∷ []) before after

-- whole lines are ended: those that have any byte have their answers, and what stands behind them is left
pub record ClosesLines {S : Type 0} (gives : Gives S) (old : Progress) (before : At S) (new : Progress) (after : At S) : Type 0 where
  pub front : List ℕ
  pub lines : List (List ℕ)
  pub bytes_are : old.line.items ≡ front ++ new.line.items
  pub are_lines : AreLines front lines
  pub few : new.counted ≤ most_lines
  pub answers : List (List ℕ)
  pub counted_is : new.counted ≡ old.counted + length lines
  pub answered_is : new.answered ≡ old.answered + length answers
  pub run : gives before.state (filter has_bytes lines) answers after.state
  pub wrote : Appends before.held after.held (written print answers)

-- some of them aren't answered whole
pub record FailsLines {S : Type 0} (gives : Gives S) (cause : ScriptCause) (old : Progress) (before : At S) (new : Progress) (after : At S) : Type 0 where
  pub front : List ℕ
  pub rest : List ℕ
  pub lines : List (List ℕ)
  pub bytes_are : old.line.items ≡ front ++ rest
  pub are_lines : AreLines front lines
  pub few : old.counted + length lines ≤ most_lines
  pub fit : length (filter has_bytes lines) ≤ most_together
  pub answered : ℕ
  pub answered_is : new.answered ≡ old.answered + answered
  pub halts : Halts gives cause (filter has_bytes lines) answered before after

-- all lines that are whole are answered: what came before is within the limits, and the next line is begun
abbrev pub Settles : {S : Type 0} → Gives S → Progress → At S → Progress → At S → Type 0
Settles {S} gives old before new after = (first : At S) (came : List ℕ) → Within gives first came old before → Sofar gives first came new after

-- or the run stops at one of them
abbrev pub BreaksOff : {S : Type 0} → Gives S → ScriptCause → Progress → At S → Progress → At S → Type 0
BreaksOff {S} gives cause old before new after = (first : At S) (came : List ℕ) → Within gives first came old before
    → Stopped gives came false (record { cause = cause; lines = new.answered }) first after

-- the input's end ends the line that is begun
abbrev pub Completes : {S : Type 0} → Gives S → Progress → At S → Progress → At S → Type 0
Completes {S} gives old before new after = (first : At S) (came : List ℕ) → Sofar gives first came old before
    → FinishedLines gives came new.answered first after

-- nothing is counted yet
pub record IsFresh (at : Progress) : Type 0 where
  pub empty : at.line.items ≡ []
  pub none_counted : at.counted ≡ 0
  pub none_answered : at.answered ≡ 0

-- the result of a run, told with how many lines were answered
abbrev pub run_result : Result (Unit {0}) ScriptCause → ℕ → Result ℕ ScriptFault
run_result (Ok _) answered = Ok answered
run_result (Err cause) answered = Err (record { cause = cause; lines = answered })

-- A step that writes is done, or the run stops at it. Of the writer it is given what says that it failed, and that it may be written.
pub record Step {S : Type 0} (Done : Progress → At S → Progress → At S → Type 0) (StopsFor : ScriptCause → Progress → At S → Progress → At S → Type 0)
    (old : Progress) (before : At S) (new : Progress) (after : At S) (failed can_write : Type 0) (result : Result (Unit {0}) ScriptCause) : Type 0 where
  pub ok : OnOk result (Done old before new after)
  pub err : IfErr result (λ cause. StopsFor cause old before new after)
  -- no answer is forgotten
  pub grows : old.answered ≤ new.answered
  -- only where it is done the writer may be written again
  pub goes_on : OnOk result can_write
  -- and what stops the run is told of the writer as it is
  pub blames : IfErr result (λ cause. BlamesWriter cause failed can_write)
