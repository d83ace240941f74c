-- How the program ends: its exit status, and what it tells on standard error.
use Rattle.std.specs.Prelude.{ℕ, List, ◌++◌, codes, decimal, Result, Ok, Err}
use Rattle.up_lines.specs.declared.fault.ScriptCause.{ScriptCause}
use Rattle.up_lines.specs.declared.fault.ScriptCause.TheVariants.{Memory, Read, Write, TooLong}
use Rattle.up_lines.specs.declared.fault.ScriptFault.{ScriptFault}
use Rattle.up_program.specs.Unopened.{unopened_words}
use Rattle.up_program.specs.declared.failure.Failure.{Failure}
use Rattle.up_program.specs.declared.failure.Failure.TheVariants.{Usage, Unopened, Stopped, Unread, Unheard}

-- the word for what ended a run
abbrev pub cause_word : ScriptCause → List ℕ
cause_word Memory = codes "memory"
cause_word Read = codes "read"
cause_word Write = codes "write"
cause_word TooLong = codes "line limit"

-- the line that tells a failure
abbrev pub failure_line : Failure → List ℕ
failure_line Usage = codes "usage: uptane_desk run FILE | serve FILE PORT COUNT [SOCKET] | digest FILE\n"
failure_line (Unopened cause) = codes "uptane_desk: cannot open the database: " ++ unopened_words cause ++ codes "\n"
failure_line (Stopped fault) = codes "uptane_desk: stopped after " ++ decimal fault.lines ++ codes " lines: " ++ cause_word fault.cause ++ codes "\n"
failure_line Unread = codes "uptane_desk: cannot read the file\n"
failure_line Unheard = codes "uptane_desk: cannot listen\n"

-- the exit status of a failure
abbrev pub status_of : Failure → ℕ
status_of Usage = 2
status_of (Unopened cause) = 3
status_of (Stopped fault) = 4
status_of Unread = 4
status_of Unheard = 4

-- that of a program, 0 where it did its job
abbrev pub exit_of : Result (Unit {0}) Failure → ℕ
exit_of (Ok done) = 0
exit_of (Err failure) = status_of failure

-- a script that was read to its end did its job
abbrev pub ended_of : Result ℕ ScriptFault → Result (Unit {0}) Failure
ended_of (Ok answered) = Ok tt
ended_of (Err fault) = Err (Stopped fault)
