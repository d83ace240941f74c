-- What is told of an answer, the state that it leaves, and what a crash leaves then; or that memory or the database refused, and when
-- that of the database may be told.
use Rattle.std.specs.Prelude.{◌≡◌, ◌⊎◌, ℕ, List, Option, Some, None}
use Rattle.sqlite.specs.Tree.{Trees}
use Rattle.up_canon.specs.declared.refusal.Refusal.{Refusal}
use Rattle.up_canon.specs.declared.refusal.Refusal.TheVariants.{Memory, Store}
use Rattle.up_sign.specs.Schemes.{Rules}
use Rattle.up_machine.specs.declared.answer.Answer.{Answer}
use Rattle.up_machine.specs.declared.command.Command.{Command}
use Rattle.up_machine.specs.Repeats.{serve}
use Rattle.up_machine.specs.Sound.{IsSound}
use Rattle.up_machine.specs.State.{State}
use Rattle.up_desk.specs.Serving.{IsBlamed, IsCommit}
use Rattle.up_records.specs.Reads.{DiskFailed}
use Rattle.up_records.specs.Standing.{HoldsState}
use Rattle.up_records.specs.Standing.{Standing, HasCleanDisk, IfClean, ShowsState, Survives, LeavesOnly}

-- the text, the desk's answer if a command was called, and the state after it
pub record Answered : Type 0 where
  pub text : List ℕ
  pub called : Option Answer
  pub next : State

-- what the desk answers a command, as it is told
abbrev pub answered_as : (Answer → List ℕ) → Rules → State → ℕ → Command → Answered
answered_as tell k s at command = let o = serve k s at command in record { text = tell o.answer; called = Some o.answer; next = o.next }

-- what a crash may leave then beside what it could leave before: the next state, if a command was called
abbrev pub HoldsNext : Option Answer → State → Trees → Type 0
HoldsNext (Some answer) next = HoldsState next
HoldsNext None next = λ trees. ⊥

-- a command was called, and its answer is a commit
abbrev pub IsCommitted : State → Option Answer → State → Type 0
IsCommitted s (Some answer) next = IsCommit s answer next
IsCommitted s None next = ⊥

-- the disk counted a fault; or a command was called, and the database refuses to write what it comes to
abbrev pub IsBlamedFor : Rules → State → Standing → Standing → Option Answer → State → Type 0
IsBlamedFor k s old new (Some answer) next = IsBlamed k s old.connection new.connection (record { answer = answer; next = next })
IsBlamedFor k s old new None next = DiskFailed old new

-- the text tells, as refusals are told, that memory or the database refused
abbrev pub IsFailed : (Refusal → List ℕ) → List ℕ → Type 0
IsFailed tell text = (text ≡ tell Memory) ⊎ (text ≡ tell Store)

-- it is answered so, or it failed: the text says so, and the state is as before
abbrev pub IsAnswerOrFailed : (Refusal → List ℕ) → Answered → State → List ℕ → State → Type 0
IsAnswerOrFailed tell a old text new = ((text ≡ a.text) × (new ≡ a.next)) ⊎ (IsFailed tell text × (new ≡ old))

-- Of each state that the tables show, over a disk that has returned what was written so far: the text is its answer or tells that it
-- failed, and the tables show the next state. Whatever is told, a crash leaves what it could leave before, or that which a command
-- makes of the state; where the answer is told and is a commit, that alone. A text other than the answer tells `Store` only where the
-- disk or the database is to blame.
pub record AnswersAs (tell : Refusal → List ℕ) (answer : State → Answered) (k : Rules) (text : List ℕ) (old new : Standing) : Type 0 where
  pub clean : HasCleanDisk new → HasCleanDisk old
  pub answered : HasCleanDisk new → (s : State) → IsSound k s → IfClean (ShowsState s) old
      → (next : State) × IsAnswerOrFailed tell (answer s) s text next × IsSound k next × ShowsState next new
  pub crash : (s : State) → IsSound k s → IfClean (ShowsState s) old → Survives old new (HoldsNext (answer s).called (answer s).next)
  pub durable : (s : State) → IsSound k s → IfClean (ShowsState s) old → text ≡ (answer s).text → IsCommitted s (answer s).called (answer s).next
      → IfClean (LeavesOnly (HoldsState (answer s).next)) new
  pub blame : HasCleanDisk new → (s : State) → IsSound k s → IfClean (ShowsState s) old → (text ≡ (answer s).text → ⊥) → text ≡ tell Store
      → IsBlamedFor k s old new (answer s).called (answer s).next
