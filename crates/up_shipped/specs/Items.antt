-- Items of which some ask commands: what they ask, what is told of it, and that it is a run of the plain machine.
use Rattle.std.specs.Prelude.{◌≡◌, ℕ, List, [], ◌∷◌, Option, Some, None, filter_map}
use Rattle.up_sign.specs.Schemes.{Rules}
use Rattle.up_machine.specs.declared.answer.Answer.{Answer}
use Rattle.up_machine.specs.declared.command.Command.{Command}
use Rattle.up_machine.specs.Sound.{IsSound}
use Rattle.up_machine.specs.State.{State}
use Rattle.up_records.specs.Standing.{Standing, ShowsState}
use Rattle.up_desk.specs.Runs.{IsRun}
use Rattle.up_service.specs.Runs.{Service, told, IsBehind, Lasts}

-- the command that an item asks, with its moment, and how an answer to it is told
pub record Asking (I : Type 0) : Type 0 where
  pub asks : I → Option (ℕ × Command)
  pub tell : I → Answer → List ℕ

-- the commands that items ask, in their order
abbrev pub commands_in : {I : Type 0} → Asking I → List I → List (ℕ × Command)
commands_in q items = filter_map q.asks items

-- where an item asks a command, its text tells the next answer
abbrev pub TellsNext : (List Answer → Type 0) → (Answer → List ℕ) → List ℕ → Option (ℕ × Command) → List Answer → Type 0
TellsNext rest tell text None answers = rest answers
TellsNext rest tell text (Some c) [] = ⊥
TellsNext rest tell text (Some c) (a ∷ answers) = (text ≡ tell a) × rest answers

-- there is a text for each item, and those of the items that ask commands tell these answers
abbrev pub AreTold : {I : Type 0} → Asking I → List I → List (List ℕ) → List Answer → Type 0
AreTold q [] [] answers = answers ≡ []
AreTold q [] (text ∷ texts) answers = ⊥
AreTold q (item ∷ items) [] answers = ⊥
AreTold q (item ∷ items) (text ∷ texts) answers = TellsNext (AreTold q items texts) (q.tell item) text (q.asks item) answers

-- the texts tell the answers to the commands that the items ask, and both are a run of the plain machine
pub record IsRunOf {I : Type 0} (k : Rules) (q : Asking I) (old : State) (items : List I) (texts : List (List ℕ)) (new : State) : Type 0 where
  pub answers : List Answer
  pub told : AreTold q items texts answers
  pub run : IsRun k old (commands_in q items) answers new

-- What items come to, from a state that the tables showed: a run of the plain machine. More items may have been handed on behind them,
-- for which not all texts were written. The tables show the state behind all of them, and what was answered outlasts a crash.
pub record IsShipped {I : Type 0} (v : Service I) (q : Asking I) (s : State) (items : List I) (texts : List (List ℕ)) (next : List I) (old new : Standing) : Type 0 where
  pub behind : State
  pub run : IsRunOf v.rules q s items texts behind
  pub at : State
  pub is_at : IsBehind v behind next at
  pub sound : IsSound v.rules at
  pub shown : ShowsState at new
  pub lasts : Lasts v s (told items texts) next old new
