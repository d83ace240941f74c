-- What a run over a stream leaves: answers, states, and what was written.
use Rattle.std.specs.Prelude.{◌≡◌, ℕ, ◌*◌, ◌<◌, ◌≤◌, Bool, true, false, ⊤, Option, Some, None, IfNone, List, [], ◌++◌, length, filter, Result, IfOk, IfErr, IfSome}
use Rattle.up_lines.specs.Runs.{At, AnswersUpTo, Breaks, Finished, LastRead, Ran, Run, listed}
use Rattle.up_lines.specs.declared.fault.ScriptCause.{ScriptCause}
use Rattle.up_lines.specs.declared.fault.ScriptCause.TheVariants as why
use Rattle.up_http.specs.Requests.{First, Firsts, Requests, most_requests, most_request}
use Rattle.up_http.specs.Feeding.{Waits}
use Rattle.up_http.specs.declared.asked.What.{What}
use Rattle.up_http.specs.declared.asked.What.TheVariants.{Call, Fixed}
use Rattle.up_http.specs.declared.asked.Next.{Next}
use Rattle.up_http.specs.declared.fault.Fault.{Fault}
use Rattle.up_http.specs.declared.fault.Fault.TheVariants.{Memory, Read, Write}
use Rattle.up_http.specs.declared.fault.ServeFault.{ServeFault}
use Rattle.up_http.specs.declared.served.Served.{Served}

-- the most bytes that are read
abbrev pub most_bytes : ℕ
most_bytes = most_requests * most_request

-- the most bytes that are read at once
abbrev pub piece_bytes : ℕ
piece_bytes = 8192

-- what answers requests: in a state a request may have this answer, which leaves that state
abbrev pub Gives : Type 0 → Type 1
Gives S = S → Next → List ℕ → S → Type 0

-- an answer is written as it is
abbrev pub plain : List ℕ → List ℕ
plain text = text

-- whether a request is a command
abbrev pub is_call : What → Bool
is_call (Call command) = true
is_call (Fixed check) = false

-- how many of the requests are commands
abbrev pub calls : List Next → ℕ
calls nexts = length (filter (λ next. is_call next.what) nexts)

-- what ended a run, as runs over any items have it
abbrev pub cause_of : Fault → ScriptCause
cause_of Memory = why.Memory
cause_of Read = why.Read
cause_of Write = why.Write

-- the request that was begun: whatever follows, it is the next of these bytes
pub record IsBegun (given : ℕ) (bytes : List ℕ) (ended : Bool) (next : Next) : Type 0 where
  pub some : 0 < length bytes
  pub after : List ℕ
  pub first : (more : List ℕ) → (ended ≡ true → more ≡ []) → First given (bytes ++ more) next (after ++ more)

-- of bytes, with which the input ends or not, these requests are the first, and then comes this one, if it was handed on
abbrev pub AreFirst : List ℕ → Bool → List Next → Option Next → Type 0
AreFirst bytes ended done None = (rest : List ℕ) × Firsts 0 bytes done false rest
AreFirst bytes ended done (Some next) = (rest : List ℕ) × Firsts 0 bytes done false rest × IsBegun (length done) rest ended next

-- behind bytes the stream goes on: these are their whole requests, of which none ends it, and nothing can be answered yet of what is left
abbrev pub GoesOn : List ℕ → List Next → Type 0
GoesOn bytes done = (rest : List ℕ) × Firsts 0 bytes done false rest × Waits rest

-- more is read behind bytes while the stream goes on, once their whole requests are answered
abbrev pub WantsMore : ℕ → List ℕ → Type 0
WantsMore answered before = (done : List Next) × GoesOn before done × (length done ≤ answered)

-- what a cause says of the bytes that came, of whether the input ended behind them, of the requests that were answered, and of the next
-- one, if it was handed on: a read fails before the input's end, and behind all requests that were whole; and want of memory isn't told
-- where no byte that came is left behind the requests that were answered, nor at the input's end but of a request that was handed on
abbrev pub Tells : Fault → List ℕ → Bool → List Next → Option Next → Type 0
Tells Read came ended done next = (ended ≡ false) × GoesOn came done
Tells Memory came ended done next = (Firsts 0 came done false [] → ⊥) × IfNone next (ended ≡ false)
Tells Write came ended done next = ⊤

-- what a run that ended early leaves of the bytes that came; it counts the commands that were handed on
abbrev pub Stopped : {S : Type 0} → Gives S → List ℕ → Bool → ServeFault → At S → At S → Type 0
Stopped gives came ended fault first now =
    AnswersUpTo (Run gives) plain (Breaks gives plain (cause_of fault.cause))
    (λ done next. AreFirst came ended done next × Tells fault.cause came ended done next × (fault.called ≡ calls (done ++ listed next)))
    first fault.answered now

-- what a run that ended leaves: each request of the input has its answer, in order
abbrev pub FinishedRequests : {S : Type 0} → Gives S → List ℕ → ℕ → At S → At S → Type 0
FinishedRequests gives input answered first now = Finished (Run gives) plain (Requests input) first answered now

-- a run over a reader and a writer: it ends well at the input's end, or with a request, whatever follows; and nothing is read behind what
-- ended it but the piece in which that lay
abbrev pub RanRequests : {S : Type 0} → Gives S → Option (List ℕ) → Option (List ℕ) → At S → At S → Result Served ServeFault → Type 0
RanRequests gives had has first now result =
    Ran most_bytes (λ came ended served. ((more : List ℕ) → (ended ≡ true → more ≡ []) → FinishedRequests gives (came ++ more) served.requests first now)
    × LastRead piece_bytes (WantsMore served.requests) came ended)
    (λ came ended fault. Stopped gives came ended fault first now × LastRead piece_bytes (WantsMore fault.answered) came ended) had has result

-- of the requests of an input the first so many have their answers, written whole; the next one may be answered, and less than its
-- whole answer written
abbrev pub AnswersFirst : {S : Type 0} → Gives S → List ℕ → ServeFault → At S → At S → Type 0
AnswersFirst gives input fault first now =
    AnswersUpTo (Run gives) plain (Breaks gives plain (cause_of fault.cause)) (λ done next. AreFirst input true done next × (fault.called ≡ calls (done ++ listed next))) first fault.answered now

-- a run over a stream
pub record RunsRequests {S : Type 0} (gives : Gives S) (had has : Option (List ℕ)) (first now : At S) (result : Result Served ServeFault) : Type 0 where
  -- for any reader and writer: the bytes that came, what was answered of them, and what was written
  pub ran : RanRequests gives had has first now result
  -- where it is known what the reader had, and the run ended well, each of its requests is answered
  pub whole : IfOk result (λ served. IfSome had (λ input. FinishedRequests gives input served.requests first now))
  -- and where it ended early the first of them are
  pub prefix : IfErr result (λ fault. IfSome had (λ input. AnswersFirst gives input fault first now))
