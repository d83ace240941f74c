-- What a run over lines leaves.
use Rattle.std.specs.Prelude.{◌≡◌, ◌≢◌, ℕ, ◌≤◌, Bool, true, false, ⊤, Option, List, [], ◌∷◌, ◌++◌, length, filter, Result, IfOk, IfErr, IfSome}
use Rattle.up_lines.specs.declared.fault.ScriptCause.{ScriptCause}
use Rattle.up_lines.specs.declared.fault.ScriptCause.TheVariants.{Memory, Read, Write, TooLong}
use Rattle.up_lines.specs.declared.fault.ScriptFault.{ScriptFault}
use Rattle.up_lines.specs.Lines.{newline, most_bytes, most_together, piece_bytes, lines_of, fits, has_bytes, asked}
use Rattle.up_lines.specs.Runs.{At, AnswersUpTo, Finished, GivesAll, IsCut, LastRead, Ran, written}

-- what answers lines: in a state these lines may have these answers, which leave that state
abbrev pub Gives : Type 0 → Type 1
Gives S = GivesAll S (List ℕ)

-- an answer as it is written
abbrev pub print : List ℕ → List ℕ
print answer = answer ++ newline ∷ []

-- of the lines that are to be answered these are the first, and then come those that were handed on together
abbrev pub AreFirst : List (List ℕ) → List (List ℕ) → List (List ℕ) → Type 0
AreFirst lines done next = (others : List (List ℕ)) × (lines ≡ (done ++ next) ++ others) × (length next ≤ most_together)

-- what became of the lines behind those that were answered whole: none were handed on, and nothing changed; or they have answers, which
-- aren't written whole
abbrev pub Breaks : {S : Type 0} → Gives S → ScriptCause → List (List ℕ) → S → S → List ℕ → Type 0
Breaks gives cause [] old new prefix = (cause ≢ Write) × (new ≡ old) × (prefix ≡ [])
Breaks gives cause (line ∷ lines) old new prefix = (texts : List (List ℕ)) × gives old (line ∷ lines) texts new × IsCut cause prefix (written print texts)

-- all lines of bytes that are an input, which are within the limits
abbrev pub AreAll : List ℕ → List (List ℕ) → Type 0
AreAll input lines = (fits (lines_of true input) ≡ true) × (lines ≡ asked (lines_of true input))

-- a limit is passed, whatever else follows, and nothing that follows is answered
abbrev pub IsPast : List ℕ → Type 0
IsPast came = (more : List ℕ) → (fits (lines_of true (came ++ more)) ≡ false) × (asked (lines_of true (came ++ more)) ≡ asked (lines_of false came))

-- a limit is passed, and all lines before it were answered
abbrev pub IsAtLimit : List ℕ → Bool → List (List ℕ) → Type 0
IsAtLimit came ended done = IsPast came × (done ≡ asked (lines_of ended came))

-- no line of these bytes has any byte, not even one that is begun
abbrev pub HasNoLine : List ℕ → Type 0
HasNoLine bytes = filter has_bytes (lines_of true bytes) ≡ []

-- no line was handed on, and before the piece that came last no line had any byte
abbrev pub IsBeforeLines : List ℕ → Bool → List (List ℕ) → Type 0
IsBeforeLines came ended done = (done ≡ []) × LastRead piece_bytes HasNoLine came ended

-- what a cause says of the bytes that came, of whether the input ended behind them, of the lines that were answered, and of the next ones,
-- which were handed on: a failed read and a passed limit come behind all that were whole; want of memory isn't told where nothing that
-- came is left to be answered, not even a line that is begun, and it is told of a line that was handed on, or before all lines
abbrev pub Tells : ScriptCause → List ℕ → Bool → List (List ℕ) → List (List ℕ) → Type 0
Tells TooLong came ended done next = IsAtLimit came ended done
Tells Read came ended done next = (ended ≡ false) × (fits (lines_of true came) ≡ true) × (done ≡ asked (lines_of ended came))
Tells Memory came ended done next = (done ≢ asked (lines_of true came)) × (next ≡ [] → IsBeforeLines came ended done)
Tells Write came ended done next = ⊤

-- what a run that ended early leaves of the bytes that came
abbrev pub Stopped : {S : Type 0} → Gives S → List ℕ → Bool → ScriptFault → At S → At S → Type 0
Stopped gives came ended fault first now =
    AnswersUpTo gives print (Breaks gives fault.cause) (λ done next. AreFirst (asked (lines_of ended came)) done next × Tells fault.cause came ended done next)
    first fault.lines now

-- what a run that read to the end leaves: each line has its answer, in order
abbrev pub FinishedLines : {S : Type 0} → Gives S → List ℕ → ℕ → At S → At S → Type 0
FinishedLines gives input answered first now = Finished gives print (AreAll input) first answered now

-- more is read behind bytes that pass no limit, once their whole lines are answered
abbrev pub WantsMore : ℕ → List ℕ → Type 0
WantsMore answered before = (fits (lines_of true before) ≡ true) × (length (asked (lines_of false before)) ≤ answered)

-- a run over a reader and a writer; where it ended early, nothing was read behind what ended it but the piece in which that lay
abbrev pub RanLines : {S : Type 0} → Gives S → Option (List ℕ) → Option (List ℕ) → At S → At S → Result ℕ ScriptFault → Type 0
RanLines gives had has first now result =
    Ran most_bytes (λ came ended answered. (ended ≡ true) × FinishedLines gives came answered first now)
    (λ came ended fault. Stopped gives came ended fault first now × LastRead piece_bytes (WantsMore fault.lines) came ended) had has result

-- of the lines of an input the first so many have their answers, written whole; the next ones may be answered, and less than all of
-- their answers written
abbrev pub AnswersFirst : {S : Type 0} → Gives S → List ℕ → ScriptFault → At S → At S → Type 0
AnswersFirst gives input fault first now = AnswersUpTo gives print (Breaks gives fault.cause) (AreFirst (asked (lines_of true input))) first fault.lines now

-- a run over lines
pub record RunsLines {S : Type 0} (gives : Gives S) (had has : Option (List ℕ)) (first now : At S) (result : Result ℕ ScriptFault) : Type 0 where
  -- for any reader and writer: the bytes that came, what was answered of them, and what was written
  pub ran : RanLines gives had has first now result
  -- where it is known what the reader had, and the run ended well, each of its lines is answered
  pub whole : IfOk result (λ answered. IfSome had (λ input. FinishedLines gives input answered first now))
  -- and where it ended early the first of them are
  pub prefix : IfErr result (λ fault. IfSome had (λ input. AnswersFirst gives input fault first now))
  -- `TooLong` is told only where they pass a limit
  pub too_long : IfErr result (λ fault. fault.cause ≡ TooLong → IfSome had (λ input. fits (lines_of true input) ≡ false))
