-- What a run over items leaves, whatever the items are: answers, states, and what was written. Lines are such items, and requests.
use Rattle.std.specs.Prelude.{◌≡◌, ◌≢◌, ℕ, ◌≤◌, ⊤, Bool, true, Option, Some, None, List, [], ◌∷◌, ◌++◌, length, flat_map, Result, MatchResult, OnOk, IfErr}
use Rattle.std.specs.Io.KnownBytes.{Appends, Consumes, IsAtEnd}
use Rattle.up_pieces.specs.Prefixes.{IsProperPrefix}
use Rattle.up_lines.specs.declared.fault.ScriptCause.{ScriptCause}
use Rattle.up_lines.specs.declared.fault.ScriptCause.TheVariants.{Memory, Read, Write, TooLong}

-- where a run stands: the state, and what the writer holds, where that is known
pub record At (S : Type 0) : Type 0 where
  pub state : S
  pub held : Option (List ℕ)

-- items, answered one after another, may have these answers, which leave the new state
abbrev pub Run : {S : Type 0} {I : Type 0} → (S → I → List ℕ → S → Type 0) → S → List I → List (List ℕ) → S → Type 0
Run gives old [] [] new = new ≡ old
Run {S} gives old (item ∷ items) (answer ∷ answers) new = (mid : S) × gives old item answer mid × Run gives mid items answers new
Run gives old [] (answer ∷ answers) new = ⊥
Run gives old (item ∷ items) [] new = ⊥

-- what answers lists of items: in a state these items may have these answers, which leave the new state
abbrev pub GivesAll : Type 0 → Type 0 → Type 1
GivesAll S I = S → List I → List (List ℕ) → S → Type 0

-- each item has an answer, no items leave the state as it is, and two lists one after another are one list
pub record Composes {S I : Type 0} (gives : GivesAll S I) : Type 0 where
  pub each : (old new : S) (items : List I) (texts : List (List ℕ)) → gives old items texts new → length texts ≡ length items
  pub none : (s : S) → gives s [] [] s
  pub both : (old mid new : S) (some more : List I) (texts others : List (List ℕ)) → gives old some texts mid → gives mid more others new
      → gives old (some ++ more) (texts ++ others) new

-- answers, each written so, one after another
abbrev pub written : (List ℕ → List ℕ) → List (List ℕ) → List ℕ
written print answers = flat_map print answers

-- an item, if there is one
abbrev pub listed : {I : Type 0} → Option I → List I
listed None = []
listed (Some item) = item ∷ []

-- what is written of an answer that isn't written whole: nothing where memory was refused, a part where the writer failed
abbrev pub IsCut : ScriptCause → List ℕ → List ℕ → Type 0
IsCut Memory prefix text = prefix ≡ []
IsCut Write prefix text = IsProperPrefix prefix text
IsCut Read prefix text = ⊥
IsCut TooLong prefix text = ⊥

-- what became of the item behind those that were answered whole: none was handed on, and nothing changed; or it has an answer, which
-- isn't written whole
abbrev pub Breaks : {S I : Type 0} → (S → I → List ℕ → S → Type 0) → (List ℕ → List ℕ) → ScriptCause → Option I → S → S → List ℕ → Type 0
Breaks gives print cause None old new prefix = (cause ≢ Write) × (new ≡ old) × (prefix ≡ [])
Breaks gives print cause (Some item) old new prefix = (answer : List ℕ) × gives old item answer new × IsCut cause prefix (print answer)

-- what ended a run early isn't told of the wrong part: the reader failed where `Read` is told, the writer where `Write` is, and neither
-- else; of each part it is given what says that it failed, and what says that it didn't
abbrev pub Blames : ScriptCause → Type 0 → Type 0 → Type 0 → Type 0 → Type 0
Blames Memory read_failed reader_stands write_failed writer_stands = reader_stands × writer_stands
Blames Read read_failed reader_stands write_failed writer_stands = read_failed × writer_stands
Blames Write read_failed reader_stands write_failed writer_stands = reader_stands × write_failed
Blames TooLong read_failed reader_stands write_failed writer_stands = reader_stands × writer_stands

-- the same where nothing is read
abbrev pub BlamesWriter : ScriptCause → Type 0 → Type 0 → Type 0
BlamesWriter cause failed stands = Blames cause ⊥ ⊤ failed stands

-- a run breaks off at an item, or before it
abbrev pub BreaksOff : {S I : Type 0} → (S → I → List ℕ → S → Type 0) → (List ℕ → List ℕ) → ScriptCause → Option I → At S → At S → Type 0
BreaksOff gives print cause next old new = (prefix : List ℕ) × Breaks gives print cause next old.state new.state prefix × Appends old.held new.held prefix

-- What a run that ended early leaves: these items are the first, each has its answer, written whole, and this became of what was handed on
-- behind them.
pub record AnswersUpTo {S I N : Type 0} (gives : GivesAll S I) (print : List ℕ → List ℕ) (Breaks : N → S → S → List ℕ → Type 0) (AreFirst : List I → N → Type 0) (first : At S) (answered : ℕ) (now : At S) : Type 0 where
  pub done : List I
  pub next : N
  pub answers : List (List ℕ)
  pub last : S
  pub prefix : List ℕ
  pub first_ones : AreFirst done next
  pub run : gives first.state done answers last
  pub breaks : Breaks next last now.state prefix
  pub answered_is : answered ≡ length answers
  pub wrote : Appends first.held now.held (written print answers ++ prefix)

-- what a run that ended well leaves: each item has its answer, in order, and nothing else is written
pub record Finished {S I : Type 0} (gives : GivesAll S I) (print : List ℕ → List ℕ) (AreAll : List I → Type 0) (first : At S) (answered : ℕ) (now : At S) : Type 0 where
  pub items : List I
  pub answers : List (List ℕ)
  pub all : AreAll items
  pub run : gives first.state items answers now.state
  pub answered_is : answered ≡ length answers
  pub wrote : Appends first.held now.held (written print answers)

-- at most so many bytes came from a reader, whose input ended behind them or not; of a reader of which nothing is known they may be any
pub record HasRead (most : ℕ) (had has : Option (List ℕ)) (Left : List ℕ → Bool → Type 0) : Type 0 where
  pub came : List ℕ
  pub ended : Bool
  pub read : Consumes had has came
  pub bounded : length came ≤ most
  pub at_end : ended ≡ true → IsAtEnd has
  pub leaves : Left came ended

-- the last read of a run, of which so many bytes are the most: it gave this piece, or found the input's end, and what stood before it
-- wanted more
pub record LastRead (most : ℕ) (Wants : List ℕ → Type 0) (came : List ℕ) (ended : Bool) : Type 0 where
  pub before : List ℕ
  pub piece : List ℕ
  pub came_is : came ≡ before ++ piece
  pub small : length piece ≤ most
  pub none_at_end : ended ≡ true → piece ≡ []
  pub wanted : Wants before

-- a run over a reader: what it leaves of the bytes that came where it ended well, and where it ended early
abbrev pub Ran : {A F : Type 0} → ℕ → (List ℕ → Bool → A → Type 0) → (List ℕ → Bool → F → Type 0) → Option (List ℕ) → Option (List ℕ) → Result A F → Type 0
Ran most Ends Stops had has result = HasRead most had has (λ came ended. MatchResult result (Ends came ended) (Stops came ended))

-- How a run over a reader and a writer ended. It is given what holds of the reader where the run ended well; and of both parts what says that
-- it failed, and what says that it didn't.
pub record EndsRun {A F : Type 0} (cause_of : F → ScriptCause) (reader_done read_failed reader_stands write_failed writer_stands : Type 0) (result : Result A F) : Type 0 where
  -- nothing was tried twice: where it ended well the writer may be written again
  pub goes_on : OnOk result writer_stands
  -- and the reader is as it has to be, so that one that failed isn't taken for one that ended
  pub ended : OnOk result reader_done
  -- what ended it early is told of the part that failed
  pub blames : IfErr result (λ fault. Blames (cause_of fault) read_failed reader_stands write_failed writer_stands)
