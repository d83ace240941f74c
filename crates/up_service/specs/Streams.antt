-- What a whole stream of requests comes to.
use Rattle.std.specs.Prelude.{◌≡◌, ℕ, Bool, true, false, List, [], ◌++◌, Option, None, Result}
use Rattle.sqlite_trees.specs.declared.store.Store.{Ghosts}
use Rattle.up_sign.specs.Schemes.{Rules}
use Rattle.up_machine.specs.State.{State}
use Rattle.up_heads.specs.Responses.{check_response_of, refusal_response_of}
use Rattle.up_http.specs.Serving.{most_bytes, FinishedRequests, RunsRequests, Stopped}
use Rattle.up_http.specs.declared.asked.Next.{Next}
use Rattle.up_http.specs.declared.asked.What.{What}
use Rattle.up_http.specs.declared.asked.What.TheVariants.{Call, Fixed}
use Rattle.up_http.specs.declared.fault.ServeFault.{ServeFault}
use Rattle.up_http.specs.declared.served.Served.{Served}
use Rattle.up_lines.specs.Runs.{At, Ran, listed}
use Rattle.up_desk.specs.Desks.{DeskView}
use Rattle.up_service.specs.Answers.{Answered, answered_as}
use Rattle.up_service.specs.Responses.{Responses, answer_response}
use Rattle.up_service.specs.Runs.{Service, LastsFrom, RunsLast}

-- what a request is answered in a state; a fixed answer changes nothing
abbrev pub request_answer : Rules → ℕ → State → What → Bool → Bool → Answered
request_answer k at s (Call command) last head = answered_as (λ answer. answer_response answer last head) k s at command
request_answer k at s (Fixed check) last head = record { text = check_response_of check last head; called = None; next = s }

-- requests are answered so, all at one moment
abbrev pub request_service : Rules → ℕ → Service Next
request_service k at = record {
  rules = k;
  answer = λ s next. request_answer k at s next.what next.last next.head;
  tell = λ next r. refusal_response_of r next.last next.head;
  together = false;
}

-- the law of runs, of requests
abbrev pub RequestsLast : {K D : Type 0} → (K → Rules) → Ghosts D → Type 0
RequestsLast rules g = (at : ℕ) → RunsLast (λ q. request_service (rules q) at) g (Responses rules g at)

-- a stream that ended well: a run over all its requests, and what lasts of it
abbrev pub FinishedLast : {K D : Type 0} → (K → Rules) → Ghosts D → ℕ → List ℕ → ℕ → At (DeskView K D) → At (DeskView K D) → Type 0
FinishedLast rules g at input answered first now =
    (run : FinishedRequests (Responses rules g at) input answered first now)
    × LastsFrom (λ q. request_service (rules q) at) g first.state run.items run.answers [] now.state

-- a stream that ended early: a run over its first requests, and what lasts of it
abbrev pub StoppedLast : {K D : Type 0} → (K → Rules) → Ghosts D → ℕ → List ℕ → Bool → ServeFault → At (DeskView K D) → At (DeskView K D) → Type 0
StoppedLast rules g at came ended fault first now =
    (run : Stopped (Responses rules g at) came ended fault first now)
    × LastsFrom (λ q. request_service (rules q) at) g first.state run.done run.answers (listed run.next) now.state

-- what lasts of a run over a reader and a writer
abbrev pub StreamLasts : {K D : Type 0} → (K → Rules) → Ghosts D → ℕ → Option (List ℕ) → Option (List ℕ)
    → At (DeskView K D) → At (DeskView K D) → Result Served ServeFault → Type 0
StreamLasts rules g at had has first now result =
    Ran most_bytes (λ came ended served. (more : List ℕ) → (ended ≡ true → more ≡ [])
    → FinishedLast rules g at (came ++ more) served.requests first now)
    (λ came ended fault. StoppedLast rules g at came ended fault first now) had has result

-- a stream over a reader and a writer
pub record RunsStream {K D : Type 0} (rules : K → Rules) (g : Ghosts D) (at : ℕ) (had has : Option (List ℕ)) (first now : At (DeskView K D)) (result : Result Served ServeFault) : Type 0 where
  -- its requests are answered and written, each as the desk may answer it
  pub requests : RunsRequests (Responses rules g at) had has first now result
  -- from each state that the tables showed: each answer is due, the tables show the state behind the requests, and a crash loses nothing
  -- that was answered
  pub lasts : StreamLasts rules g at had has first now result
