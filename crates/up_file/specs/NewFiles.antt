-- What is told of an error of the operating system where a file is made or opened.
use Rattle.std.specs.Prelude.{Result, Ok, Err}
use Rattle.std.specs.declared.io.ErrorKind.{ErrorKind}
use Rattle.std.specs.declared.io.ErrorKind.TheVariants.{AlreadyExists, OutOfMemory}
use Rattle.up_program.specs.declared.unopened.Unopened.{Unopened}
use Rattle.up_program.specs.declared.unopened.Unopened.TheVariants.{Memory, Path}

-- of any such error: want of memory by itself, everything else alike
abbrev pub kind_cause : ErrorKind → Unopened
kind_cause OutOfMemory = Memory
kind_cause _ = Path

-- of the answer to the making of a file; a file that is there already is no fault
abbrev pub made_cause : Result (Unit {0}) ErrorKind → Result (Unit {0}) Unopened
made_cause (Ok _) = Ok tt
made_cause (Err AlreadyExists) = Ok tt
made_cause (Err kind) = Err (kind_cause kind)
