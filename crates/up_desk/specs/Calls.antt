-- What a call of a desk comes to: the answer, the state that is shown then, which fault is told, and what a crash leaves.
use Rattle.std.specs.Prelude.{◌≡◌, ℕ, IfSome}
use Rattle.up_sign.specs.Schemes.{Rules}
use Rattle.up_machine.specs.declared.command.Command.{Command}
use Rattle.up_machine.specs.declared.answer.Answer.{Answer}
use Rattle.up_machine.specs.declared.answer.Answer.TheVariants.{Refused}
use Rattle.up_canon.specs.declared.refusal.Refusal.TheVariants.{Store}
use Rattle.up_machine.specs.State.{State}
use Rattle.up_machine.specs.Repeats.{serve}
use Rattle.up_machine.specs.Sound.{IsSound}
use Rattle.up_records.specs.Standing.{Standing, HasCleanDisk, IfClean, ShowsState, Survives, LeavesOnly}
use Rattle.up_desk.specs.Serving.{IsAnswered, IsBlamed, IsCommit, RepliesStay, outright}
use Rattle.up_records.specs.Standing.{HoldsState}

-- The answer and the next state are those of what is served, and where the command failed the state is as it was. Kept replies are
-- kept on, the state stays sound, and the tables show it.
abbrev pub IsServed : Rules → State → ℕ → Command → Answer → Standing → Type 0
IsServed k s at c a new = (next : State) × IsAnswered a s next (serve k s at c) × RepliesStay s next × IsSound k next × ShowsState next new

-- so from each sound state that the tables showed
abbrev pub ServesCall : Rules → ℕ → Command → Answer → Standing → Standing → Type 0
ServesCall k at c a old new = HasCleanDisk new → (s : State) → IsSound k s → IfClean (ShowsState s) old → IsServed k s at c a new

-- whatever is answered, a crash leaves what it could leave before, or the next state
abbrev pub SparesCall : Rules → ℕ → Command → Standing → Standing → Type 0
SparesCall k at c old new = (s : State) → IsSound k s → IfClean (ShowsState s) old → Survives old new (HoldsState (serve k s at c).next)

-- after a commit it leaves the next state alone
abbrev pub CommitsCall : Rules → ℕ → Command → Answer → Standing → Standing → Type 0
CommitsCall k at c a old new = (s : State) → IsSound k s → IfClean (ShowsState s) old → IsCommit s a (serve k s at c).next
    → IfClean (LeavesOnly (HoldsState (serve k s at c).next)) new

-- `Store` is told only where the disk counted a fault, or the database refuses to write the rows of the next state
abbrev pub BlamesCall : Rules → ℕ → Command → Answer → Standing → Standing → Type 0
BlamesCall k at c a old new = HasCleanDisk new → a ≡ Refused Store → (s : State) → IsSound k s → IfClean (ShowsState s) old
    → IsBlamed k s old.connection new.connection (serve k s at c)

-- what a call comes to, whatever it answers
pub record IsCalled (k : Rules) (at : ℕ) (c : Command) (a : Answer) (old new : Standing) : Type 0 where
  -- the answer and the state that is shown then are the plain machine's, but that a repeat is answered the reply that was kept for it
  pub served : ServesCall k at c a old new
  -- what is refused whether or not there is memory is refused
  pub outright : IfSome (outright k at c) (λ r. a ≡ Refused r)
  -- a crash leaves what it could leave before, or the next state
  pub crash : SparesCall k at c old new
  -- behind a commit it leaves the next state alone
  pub durable : CommitsCall k at c a old new
  -- `Store` is told only where the disk counted a fault, or the database refuses what the command comes to
  pub blame : BlamesCall k at c a old new
  -- a disk that has returned what was written had done so before
  pub clean : HasCleanDisk new → HasCleanDisk old
