-- Whole scripts and whole streams are runs of the plain machine.
use Rattle.std.proofs.Common.{◌≡◌, ℕ, List, Bool, true, false, Option, Some, None, Result, Ok, Err, refl, ap, subst}
use Rattle.std.specs.Prelude.{[], ◌∷◌, ◌++◌, length, MatchResult}
use Rattle.std.specs.List.{AllByRecursion}
use Rattle.sqlite_trees.specs.declared.store.Store.{Ghosts}
use Rattle.up_canon.specs.declared.refusal.Refusal.{Refusal}
use Rattle.up_sign.specs.Schemes.{Rules}
use Rattle.up_machine.specs.declared.command.Command.{Command}
use Rattle.up_machine.specs.State.{State}
use Rattle.up_records.specs.Standing.{state}
use Rattle.up_desk.proofs.Runs.{ListLaws}
use Rattle.up_lines.specs.LineRuns as line_runs
use Rattle.up_lines.specs.Runs.{Breaks, listed}
use Rattle.up_lines.specs.declared.fault.ScriptCause.{ScriptCause}
use Rattle.up_lines.specs.declared.fault.ScriptFault.{ScriptFault}
use Rattle.up_script.specs.AskedLines.{asked_in}
use Rattle.up_script.specs.PrintedLines.{answer_text}
use Rattle.up_script.specs.declared.asked.Asked.{Asked}
use Rattle.up_script.specs.declared.asked.What.{What}
use Rattle.up_script.specs.declared.asked.What.TheVariants.{Call, Show}
use Rattle.up_http.specs.Serving.{plain, cause_of, AreFirst}
use Rattle.up_http.specs.declared.asked.Next.{Next}
use Rattle.up_http.specs.declared.asked.What.{What as Requested}
use Rattle.up_http.specs.declared.asked.What.TheVariants.{Call as Request, Fixed}
use Rattle.up_http.specs.declared.fault.ServeFault.{ServeFault}
use Rattle.up_http.specs.declared.served.Served.{Served}
use Rattle.up_service.specs.Answers.{answered_as}
use Rattle.up_desk.specs.Desks.{DeskView}
use Rattle.up_service.specs.LineAnswers.{Line, line_answer, answer_to, carried_out}
use Rattle.up_service.specs.Together.{Lines, LinesAsOne, parts_compose}
use Rattle.up_service.specs.Responses.{Responses, answer_response}
use Rattle.up_service.specs.Scripts.{line_service}
use Rattle.up_service.specs.Scripts as script
use Rattle.up_service.specs.Streams.{request_answer, request_service}
use Rattle.up_service.specs.Streams as stream
use Rattle.up_shipped.specs.Items.{IsShipped}
use Rattle.up_shipped.specs.Shipped.{command_at, command_of, lines_ask, requested_at, requests_ask, IsPart, IsPartOfLines, IsWholeScript, IsBegunScript, ScriptsAreRuns, IsWholeStream, IsBegunStream, StreamsAreRuns}
use Rattle.up_shipped.proofs.Fitting.{lines_fit, firsts_fit}
use Rattle.up_shipped.proofs.Items.{Agrees, Fits, run_count, shipped}

same_pair : (a b : ℕ × Command) → ◌≡◌ {A = Option (ℕ × Command)} (Some a) (Some b) → a ≡ b
same_pair a b h = cc

-- ---- lines

pub lines_agree : (k : Rules) → Agrees (line_service k) (lines_ask k)
unfolding line_answer answer_text
lines_agree k = record {
  tells = λ line r. refl;
  quiet = λ s line none. by_read s (asked_in k line) none;
  asked = λ s line c asks. by_asked s c (asked_in k line) asks;
}
  where
    none_what : (s : State) (at : ℕ) (w : What) → command_at at w ≡ None → (carried_out k s at w).next ≡ s
    none_what s at (Call c) h = cc
    none_what s at (Show vehicle) h = refl

    by_read : (s : State) (r : Result Asked Refusal) → command_of r ≡ None → (answer_to k s r).next ≡ s
    by_read s (Ok asked) h = none_what s asked.at asked.what h
    by_read s (Err e) h = refl

    call_what : (s : State) (c : ℕ × Command) (at : ℕ) (w : What) → command_at at w ≡ Some c → carried_out k s at w ≡ answered_as answer_text k s c.0 c.1
    call_what s c at (Call x) h = ap (λ (p : ℕ × Command). answered_as answer_text k s p.0 p.1) (same_pair (at, x) c h)
    call_what s c at (Show vehicle) h = cc

    by_asked : (s : State) (c : ℕ × Command) (r : Result Asked Refusal) → command_of r ≡ Some c → answer_to k s r ≡ answered_as answer_text k s c.0 c.1
    by_asked s c (Ok asked) h = call_what s c asked.at asked.what h
    by_asked s c (Err e) h = cc

-- as many answers as lines
pub lines_count : {K D : Type 0} (rules : K → Rules) (g : Ghosts D) (old new : DeskView K D) (lines texts : List (List ℕ)) → Lines rules g old lines texts new → length texts ≡ length lines
lines_count rules g old new lines texts h = (parts_compose (Line rules g) (LinesAsOne rules g)).each old new lines texts h

-- less than a whole answer
part_of : {S I : Type 0} (gives : S → I → List ℕ → S → Type 0) (print : List ℕ → List ℕ) (cause : ScriptCause) (next : Option I) (old new : S) (prefix : List ℕ) → Breaks gives print cause next old new prefix → IsPart print cause next prefix
part_of gives print cause None old new prefix h = h.2
part_of gives print cause (Some item) old new prefix h = (h.0, h.2)

-- less than all answers of lines
part_of_lines : {K D : Type 0} (rules : K → Rules) (g : Ghosts D) (cause : ScriptCause) (next : List (List ℕ)) (old new : DeskView K D) (prefix : List ℕ) → line_runs.Breaks (Lines rules g) cause next old new prefix → IsPartOfLines cause next prefix
part_of_lines rules g cause [] old new prefix h = h.2
part_of_lines rules g cause (line ∷ next) old new prefix h = (h.0, lines_count rules g old new (line ∷ next) h.0 h.1, h.2)

pub scripts : {K D : Type 0} → ListLaws → (rules : K → Rules) (g : Ghosts D) → ScriptsAreRuns rules g
scripts {K} {D} laws rules g had has first now result runs clean s sound was = record {
  came = runs.lasts.came;
  ended = runs.lasts.ended;
  read = runs.lasts.read;
  bounded = runs.lasts.bounded;
  at_end = runs.lasts.at_end;
  leaves = by_result result runs.lasts.leaves;
}
  where
    whole : (came : List ℕ) (answered : ℕ) → script.FinishedLast rules g came answered first now → IsWholeScript rules g s came first now
    whole came answered it =
        let ran = it.0 in
        let from = shipped laws (line_service (rules first.state.scheme)) (lines_ask (rules first.state.scheme)) (lines_agree (rules first.state.scheme)) s ran.items ran.answers []
        (state g first.state.store) (state g now.state.store) (lines_fit (rules first.state.scheme) ran.items) (lines_count rules g first.state now.state ran.items ran.answers ran.run) sound clean (it.1 s sound was) in
        record {
          fit = ran.all.0;
          texts = ran.answers;
          shipped = subst (λ (items : List (List ℕ)). IsShipped (line_service (rules first.state.scheme)) (lines_ask (rules first.state.scheme)) s items ran.answers [] (state g first.state.store) (state g now.state.store)) ran.all.1 from;
          wrote = ran.wrote;
        }

    begun : (came : List ℕ) (ended : Bool) (fault : ScriptFault) → script.StoppedLast rules g came ended fault first now → IsBegunScript rules g s came ended fault.cause first now
    begun came ended fault it =
        let ran = it.0 in
        record {
          done = ran.done;
          next = ran.next;
          are_first = ran.first_ones.0;
          texts = ran.answers;
          shipped = shipped laws (line_service (rules first.state.scheme)) (lines_ask (rules first.state.scheme)) (lines_agree (rules first.state.scheme)) s ran.done ran.answers ran.next
              (state g first.state.store) (state g now.state.store) (lines_fit (rules first.state.scheme) ran.done) (lines_count rules g first.state ran.last ran.done ran.answers ran.run) sound clean (it.1 s sound was);
          part = ran.prefix;
          is_part = part_of_lines rules g fault.cause ran.next ran.last now.state ran.prefix ran.breaks;
          wrote = ran.wrote;
        }

    by_result : (r : Result ℕ ScriptFault)
        → MatchResult r (λ answered. (runs.lasts.ended ≡ true) × script.FinishedLast rules g runs.lasts.came answered first now) (λ fault. script.StoppedLast rules g runs.lasts.came runs.lasts.ended fault first now)
        → MatchResult r (λ answered. (runs.lasts.ended ≡ true) × IsWholeScript rules g s runs.lasts.came first now) (λ fault. IsBegunScript rules g s runs.lasts.came runs.lasts.ended fault.cause first now)
    by_result (Ok answered) h = (h.0, whole runs.lasts.came answered h.1)
    by_result (Err fault) h = begun runs.lasts.came runs.lasts.ended fault h

-- ---- streams

pub requests_agree : (k : Rules) (at : ℕ) → Agrees (request_service k at) (requests_ask at)
unfolding answer_response
requests_agree k at = record {
  tells = λ next r. refl;
  quiet = λ s next none. none_what s next.last next.head next.what none;
  asked = λ s next c asks. call_what s next.last next.head c next.what asks;
}
  where
    none_what : (s : State) (last head : Bool) (w : Requested) → requested_at at w ≡ None → (request_answer k at s w last head).next ≡ s
    none_what s last head (Request c) h = cc
    none_what s last head (Fixed check) h = refl

    call_what : (s : State) (last head : Bool) (c : ℕ × Command) (w : Requested) → requested_at at w ≡ Some c → request_answer k at s w last head ≡ answered_as (λ answer. answer_response answer last head) k s c.0 c.1
    call_what s last head c (Request x) h = ap (λ (p : ℕ × Command). answered_as (λ answer. answer_response answer last head) k s p.0 p.1) (same_pair (at, x) c h)
    call_what s last head c (Fixed check) h = cc

-- the requests that were answered are those of bytes
firsts_of : (at : ℕ) (came : List ℕ) (ended : Bool) (done : List Next) (next : Option Next) → AreFirst came ended done next → AllByRecursion (Fits (requests_ask at)) done
firsts_of at came ended done None h = firsts_fit at 0 came h.0 false done h.1
firsts_of at came ended done (Some next) h = firsts_fit at 0 came h.0 false done h.1

pub streams : {K D : Type 0} → ListLaws → (rules : K → Rules) (g : Ghosts D) → StreamsAreRuns rules g
streams {K} {D} laws rules g at had has first now result runs clean s sound was = record {
  came = runs.lasts.came;
  ended = runs.lasts.ended;
  read = runs.lasts.read;
  bounded = runs.lasts.bounded;
  at_end = runs.lasts.at_end;
  leaves = by_result result runs.lasts.leaves;
}
  where
    whole : (input : List ℕ) (answered : ℕ) → stream.FinishedLast rules g at input answered first now → IsWholeStream rules g at s input first now
    whole input answered it =
        let ran = it.0 in
        record {
          requests = ran.items;
          all = ran.all;
          texts = ran.answers;
          shipped = shipped laws (request_service (rules first.state.scheme) at) (requests_ask at) (requests_agree (rules first.state.scheme) at) s ran.items ran.answers []
              (state g first.state.store) (state g now.state.store) (firsts_fit at 0 input ran.all.rest ran.all.ended ran.items ran.all.firsts) (run_count (Responses rules g at) ran.items ran.answers first.state now.state ran.run) sound clean (it.1 s sound was);
          wrote = ran.wrote;
        }

    begun : (came : List ℕ) (ended : Bool) (fault : ServeFault) → stream.StoppedLast rules g at came ended fault first now → IsBegunStream rules g at s came ended (cause_of fault.cause) first now
    begun came ended fault it =
        let ran = it.0 in
        record {
          done = ran.done;
          next = ran.next;
          are_first = ran.first_ones.0;
          texts = ran.answers;
          shipped = shipped laws (request_service (rules first.state.scheme) at) (requests_ask at) (requests_agree (rules first.state.scheme) at) s ran.done ran.answers (listed ran.next)
              (state g first.state.store) (state g now.state.store) (firsts_of at came ended ran.done ran.next ran.first_ones.0) (run_count (Responses rules g at) ran.done ran.answers first.state ran.last ran.run) sound clean (it.1 s sound was);
          part = ran.prefix;
          is_part = part_of (Responses rules g at) plain (cause_of fault.cause) ran.next ran.last now.state ran.prefix ran.breaks;
          wrote = ran.wrote;
        }

    by_result : (r : Result Served ServeFault)
        → MatchResult r (λ served. (more : List ℕ) → (runs.lasts.ended ≡ true → more ≡ []) → stream.FinishedLast rules g at (runs.lasts.came ++ more) served.requests first now) (λ fault. stream.StoppedLast rules g at runs.lasts.came runs.lasts.ended fault first now)
        → MatchResult r (λ served. (more : List ℕ) → (runs.lasts.ended ≡ true → more ≡ []) → IsWholeStream rules g at s (runs.lasts.came ++ more) first now) (λ fault. IsBegunStream rules g at s runs.lasts.came runs.lasts.ended (cause_of fault.cause) first now)
    by_result (Ok served) h = λ more ended. whole (runs.lasts.came ++ more) served.requests (h more ended)
    by_result (Err fault) h = begun runs.lasts.came runs.lasts.ended fault h
