-- The steps of a run over a stream.
use Rattle.std.specs.Prelude.{◌≡◌, ◌⊎◌, ℕ, ◌+◌, ◌*◌, ◌<◌, ◌≤◌, Bool, false, Some, List, [], ◌∷◌, ◌++◌, length, Result, Ok, Err, OnOk, IfOk, IfErr, if◌then◌else◌, is_ok}
use Rattle.std.specs.Io.KnownBytes.{Appends}
use Rattle.up_lines.specs.Runs.{At, Run, BlamesWriter, BreaksOff, written}
use Rattle.up_http.specs.Requests.{Firsts, most_requests, most_request}
use Rattle.up_http.specs.Feeding.{Waits}
use Rattle.up_http.specs.Talks.{Talk, silent}
use Rattle.up_http.specs.Serving.{Gives, plain, calls, cause_of, Stopped, FinishedRequests}
use Rattle.up_http.specs.declared.asked.Next.{Next}
use Rattle.up_http.specs.declared.progress.Progress.{Progress}
use Rattle.up_http.specs.declared.fault.Fault.{Fault}
use Rattle.up_http.specs.declared.fault.Fault.TheVariants.{Memory, Read, Write}
use Rattle.up_lines.specs.declared.fault.ScriptCause.TheVariants as why
use Rattle.up_http.specs.declared.fault.ServeFault.{ServeFault}
use Rattle.up_http.specs.declared.served.Served.{Served}

-- no request waits for its answer, and each answer is written
abbrev pub IsQuiet : Talk → Type 0
IsQuiet talk = (talk.asking ≡ false) × (talk.unsent ≡ [])

-- the stream goes on, and no request waits
pub record IsReady (at : Progress) : Type 0 where
  pub goes_on : at.over ≡ false
  pub quiet : IsQuiet at.talk

-- of the bytes that were taken the whole requests were answered
pub record Sofar {S : Type 0} (gives : Gives S) (first : At S) (came : List ℕ) (at : Progress) (now : At S) : Type 0 where
  pub done : List Next
  pub texts : List (List ℕ)
  pub firsts : (more : List ℕ) → Firsts 0 (came ++ more) done at.talk.fed.ended (at.talk.fed.rest ++ more)
  pub given_is : at.talk.fed.given ≡ length done
  pub few : length done ≤ most_requests
  pub below : at.talk.fed.ended ≡ false → at.talk.fed.given < most_requests
  pub waits : at.talk.fed.ended ≡ false → Waits at.talk.fed.rest
  pub bytes : length came ≤ at.talk.fed.given * most_request + length at.talk.fed.rest
  pub run : Run gives first.state done texts now.state
  pub answered_is : at.answered ≡ length texts
  pub called_is : at.called ≡ calls done
  pub wrote : Appends first.held now.held (written plain texts)
  pub quiet : IsQuiet at.talk

-- the result of a run, told with what was called and answered
abbrev pub fault_at : Fault → Progress → ServeFault
fault_at cause at = record { cause = cause; called = at.called; answered = at.answered }

abbrev pub told : Result (Unit {0}) Fault → Progress → Result Served ServeFault
told (Ok _) at = Ok (record { requests = at.answered })
told (Err cause) at = Err (fault_at cause at)

-- bytes are taken
abbrev pub Takes : {S : Type 0} → Gives S → List ℕ → Progress → At S → Progress → At S → Type 0
Takes {S} gives bytes old before new after = (first : At S) (came : List ℕ) → Sofar gives first came old before → Sofar gives first (came ++ bytes) new after

-- the run stops among bytes
abbrev pub Stops : {S : Type 0} → Gives S → Fault → Bool → List ℕ → Progress → At S → Progress → At S → Type 0
Stops {S} gives cause ended bytes old before new after = (first : At S) (came : List ℕ) → Sofar gives first came old before
    → Stopped gives (came ++ bytes) ended (fault_at cause new) first after

-- a request isn't answered whole: without memory nothing of its answer is written, and where the writer failed a part is
abbrev pub Unanswered : {S : Type 0} → Gives S → Fault → Next → At S → At S → Type 0
Unanswered gives Memory next old new = BreaksOff gives plain why.Memory (Some next) old new
Unanswered gives Write next old new = BreaksOff gives plain why.Write (Some next) old new
Unanswered gives Read next old new = ⊥

-- a step takes bytes, all of the piece or those up to the end of a request
abbrev pub Moves : ℕ → List ℕ → Progress → Progress → Type 0
Moves n piece old new = (n ≤ length piece) × (((n ≡ length piece) × (new.talk.fed.given ≡ old.talk.fed.given)) ⊎ ((new.talk.fed.given ≡ old.talk.fed.given + 1) × (old.talk.fed.given < most_requests)))

-- what is left at the input's end is answered
abbrev pub Completes : {S : Type 0} → Gives S → Progress → At S → Progress → At S → Type 0
Completes {S} gives old before new after = (first : At S) (came : List ℕ) → Sofar gives first came old before
    → FinishedRequests gives came new.answered first after

-- nothing is counted yet
pub record IsFresh (at : Progress) : Type 0 where
  pub talk : at.talk ≡ silent
  pub over : at.over ≡ false
  pub none_called : at.called ≡ 0
  pub none_answered : at.answered ≡ 0

-- A step that writes is done, or the run stops at it. Of the writer it is given what says that it failed, and that it may be written.
pub record TakesStep {S A : Type 0} (Done : A → Progress → At S → Progress → At S → Type 0) (StopsFor : Fault → Progress → At S → Progress → At S → Type 0)
    (old : Progress) (before : At S) (new : Progress) (after : At S) (failed can_write : Type 0) (result : Result A Fault) : Type 0 where
  pub ok : IfOk result (λ a. Done a old before new after)
  pub err : IfErr result (λ cause. StopsFor cause old before new after)
  -- no answer is forgotten
  pub grows : old.answered ≤ new.answered
  -- only where it is done the writer may be written again
  pub goes_on : OnOk result can_write
  -- and what stops the run is told of the writer as it is
  pub blames : IfErr result (λ cause. BlamesWriter (cause_of cause) failed can_write)

-- A request is answered and counted, or not whole. Of the writer it is given what says that it failed, and that it may be written.
pub record AnswersNext {S : Type 0} (gives : Gives S) (next : Next) (old : Progress) (before : At S) (new : Progress) (after : At S) (failed can_write : Type 0) (result : Result (Unit {0}) Fault) : Type 0 where
  -- it counts as handed on if it is a command, and as answered if its answer is written whole
  pub fed : new.talk.fed ≡ old.talk.fed
  pub quiet : OnOk result (IsQuiet new.talk)
  pub called : new.called ≡ old.called + calls (next ∷ [])
  pub answered : new.answered ≡ (if is_ok result then old.answered + 1 else old.answered)
  pub ok : OnOk result ((text : List ℕ) × gives before.state next text after.state × Appends before.held after.held text)
  pub err : IfErr result (λ cause. Unanswered gives cause next before after)
  -- only where it is answered the writer may be written again
  pub goes_on : OnOk result can_write
  -- and what stops the run is told of the writer as it is
  pub blames : IfErr result (λ cause. BlamesWriter (cause_of cause) failed can_write)
