-- The plain machine, as whoever asks a desk sees it, and which of its states a desk stands for.
use Rattle.std.specs.Prelude.{◌≡◌, ℕ}
use Rattle.sqlite_trees.specs.declared.store.Store.{Ghosts}
use Rattle.up_sign.specs.Schemes.{Rules}
use Rattle.up_machine.specs.declared.answer.Answer.{Answer}
use Rattle.up_machine.specs.declared.command.Command.{Command}
use Rattle.up_machine.specs.Repeats.{serve}
use Rattle.up_machine.specs.Sound.{IsSound}
use Rattle.up_machine.specs.State.{State}
use Rattle.up_records.specs.Standing.{IfClean, ShowsState, state}
use Rattle.up_desk.specs.Desks.{DeskView}
use Rattle.up_desk.specs.Serving.{IsAnswered}

-- For whichever state it stood, the answer is the plain machine's, and it stands for the next one; where memory or the database refused, for
-- the same.
abbrev pub AnswersAsMachine : {X : Type 0} → Rules → (State → X → Type 0) → ℕ → Command → Answer → X → X → Type 0
AnswersAsMachine k stands_for at c a old new =
    (s : State) → stands_for s old → (next : State) × IsAnswered a s next (serve k s at c) × stands_for next new

-- a desk stands for the sound states that its tables show, where the disk has returned what was written
pub record StandsFor {K D : Type 0} (rules : K → Rules) (g : Ghosts D) (k : Rules) (s : State) (desk : DeskView K D) : Type 0 where
  pub same : rules desk.scheme ≡ k
  pub sound : IsSound k s
  pub shown : IfClean (ShowsState s) (state g desk.store)
