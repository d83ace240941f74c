-- How a script ends that is stopped.
use Rattle.up_lines.specs.declared.fault.ScriptCause.{ScriptCause}
use Rattle.up_program.specs.declared.failure.Failure.{Failure}
use Rattle.up_program.specs.declared.failure.Failure.TheVariants.{Usage, Unopened, Stopped, Unread, Unheard}

-- a script was stopped, by a cause of which this holds
abbrev pub IsStopped : Failure → (ScriptCause → Type 0) → Type 0
IsStopped Usage P = ⊥
IsStopped (Unopened cause) P = ⊥
IsStopped (Stopped fault) P = P fault.cause
IsStopped Unread P = ⊥
IsStopped Unheard P = ⊥
