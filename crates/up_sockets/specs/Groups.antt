-- What clients are told of a group of commands.
use Rattle.std.specs.Prelude.{◌≡◌, ◌⊎◌, ◌<◌, ℕ, Bool, true, false, List, length, slice_index_or}
use Rattle.up_machine.specs.declared.answer.Answer.{Answer}
use Rattle.up_machine.specs.declared.command.Command.{Command}
use Rattle.up_connections.specs.Lines.{IsTold}
use Rattle.up_connections.specs.declared.hub.Client.{Client}
use Rattle.up_sockets.specs.Apart.{Tells}
use Rattle.up_sockets.specs.Served.{Done, Group}

-- it is the element at this place
abbrev pub IsAt : {X : Type 0} → List X → ℕ → X → Type 0
IsAt xs place x = (place < length xs) × (x ≡ slice_index_or xs place x)

-- a client waited for the answer to a command of a group, which was carried out at its moment, and was told it
pub record IsToldItsOwn {T : Type 0} (tells : Tells) (commands : List (ℕ × Command)) (answers : List Answer) (old new : Client T) : Type 0 where
  pub place : ℕ
  pub command : Command
  pub answer : Answer
  pub head : Bool
  pub last : Bool
  pub asked : IsAt commands place (old.at, command)
  pub answered : IsAt answers place answer
  pub told : IsTold command head last (tells answer last head) old.connection new.connection true

-- so was it, or nothing happened on its connection
abbrev pub MayBeTold : {T : Type 0} → Tells → List (ℕ × Command) → List Answer → Client T → Client T → Type 0
MayBeTold tells commands answers old new = (new.connection ≡ old.connection) ⊎ IsToldItsOwn tells commands answers old new

-- so of each
abbrev pub AreTold : {T : Type 0} → Tells → List (ℕ × Command) → List Answer → List (Client T) → List (Client T) → Type 0
AreTold {T} tells commands answers old new = (length new ≡ length old) × ((k : ℕ) (d : Client T) → k < length old
    → MayBeTold tells commands answers (slice_index_or old k d) (slice_index_or new k d))

-- a group of commands was carried out, and its clients are told what came of it; or nothing was done
abbrev pub AnswersGroup : {S T : Type 0} → (S → Done → S → Type 0) → Tells → S → List (Client T) → S → List (Client T) → Bool → Type 0
AnswersGroup does tells old before new after true = (commands : List (ℕ × Command)) × (answers : List Answer)
    × does old (Group commands answers) new × AreTold tells commands answers before after
AnswersGroup does tells old before new after false = (new ≡ old) × (after ≡ before)
