-- A list of commands over fresh tables is a run from nothing, and so are a script and a stream.
use Rattle.std.proofs.Common.{◌≡◌, ℕ, List, [], ◌++◌, Bool, true, Option, None, Result, Ok, Err, sym, ap, ◌∙◌, subst}
use Rattle.std.specs.Prelude.{MatchResult, OnOk, is_ok}
use Rattle.sqlite_trees.specs.declared.store.Store.{Ghosts}
use Rattle.sqlite.specs.State.{State as Connected}
use Rattle.up_sign.specs.Schemes.{Rules}
use Rattle.up_machine.specs.declared.answer.Answer.{Answer}
use Rattle.up_machine.specs.declared.command.Command.{Command}
use Rattle.up_machine.specs.Sound.{IsSound}
use Rattle.up_machine.specs.State.{empty_state}
use Rattle.up_rows.specs.StateRows.{StateRows, no_rows, rows_of_state}
use Rattle.up_store.specs.Connections.{KeepsRows}
use Rattle.up_store.specs.Opening.{Creates}
use Rattle.up_records.specs.Standing.{Standing, HasCleanDisk, ShowsState, state}
use Rattle.up_desk.specs.Desks.{DeskView}
use Rattle.up_desk.specs.Runs.{AreCalled, IsRun}
use Rattle.up_lines.specs.Lines as lines
use Rattle.up_lines.specs.Runs.{At, Ran}
use Rattle.up_lines.specs.declared.fault.ScriptCause.{ScriptCause}
use Rattle.up_lines.specs.declared.fault.ScriptFault.{ScriptFault}
use Rattle.up_http.specs.Serving.{cause_of}
use Rattle.up_http.specs.Serving as serving
use Rattle.up_http.specs.declared.fault.ServeFault.{ServeFault}
use Rattle.up_http.specs.declared.served.Served.{Served}
use Rattle.up_service.specs.Scripts.{RunsScript}
use Rattle.up_service.specs.Streams.{RunsStream}
use Rattle.up_shipped.specs.FromNothing.{IsRunFromNothing, AnswersScript, BeginsScript, IsScriptFromNothing, AnswersStream, BeginsStream, IsStreamFromNothing}
use Rattle.up_shipped.specs.Shipped.{IsWholeScript, IsBegunScript, ScriptsAreRuns, IsWholeStream, IsBegunStream, StreamsAreRuns}

pub went_through : {A E : Type 0} (P : Type 0) (r : Result A E) → OnOk r P → is_ok r ≡ true → P
went_through P (Ok x) h ok = h
went_through P (Err e) h ok = cc

-- fresh tables show that nothing is founded
pub shows_nothing : rows_of_state empty_state ≡ no_rows → (empty made : Connected) (old : Standing) → Creates empty made → old ≡ record { connection = made; catalog = None }
    → HasCleanDisk old → ShowsState empty_state old
shows_nothing none empty made old creates fresh = subst (λ (d : Standing). HasCleanDisk d → ShowsState empty_state d) (sym fresh)
    (λ was. record { tables = subst (λ (rows : StateRows). KeepsRows rows made) (sym none) (creates.made was); memory = tt })

pub from_nothing : (k : Rules) → IsSound k empty_state → rows_of_state empty_state ≡ no_rows → (cs : List (ℕ × Command)) (before answers : List Answer) (empty made : Connected) (old new : Standing)
    → Creates empty made → old ≡ record { connection = made; catalog = None } → before ≡ [] → AreCalled k cs before answers old new → HasCleanDisk new → IsRunFromNothing k cs answers
from_nothing k sound none cs before answers empty made old new creates fresh first called clean =
    let ran = called.ran clean empty_state sound (shows_nothing none empty made old creates fresh) in
    let same : answers ≡ called.told = called.appended ∙ ap (λ (l : List Answer). l ++ called.told) first in
    (ran.0, subst (λ (l : List Answer). IsRun k empty_state cs l ran.0) (sym same) ran.1)

-- ---- scripts

whole : {K D : Type 0} (rules : K → Rules) (g : Ghosts D) (came : List ℕ) (first now : At (DeskView K D)) → IsWholeScript rules g empty_state came first now
    → AnswersScript (rules first.state.scheme) came first.held now.held
whole rules g came first now is = record { fit = is.fit; texts = is.texts; behind = is.shipped.behind; run = is.shipped.run; wrote = is.wrote }

begun : {K D : Type 0} (rules : K → Rules) (g : Ghosts D) (came : List ℕ) (ended : Bool) (cause : ScriptCause) (first now : At (DeskView K D)) → IsBegunScript rules g empty_state came ended cause first now
    → BeginsScript (rules first.state.scheme) came ended cause first.held now.held
begun rules g came ended cause first now is = record {
  done = is.done;
  next = is.next;
  are_first = is.are_first;
  texts = is.texts;
  behind = is.shipped.behind;
  run = is.shipped.run;
  part = is.part;
  is_part = is.is_part;
  wrote = is.wrote;
}

told : {K D : Type 0} (rules : K → Rules) (g : Ghosts D) (came : List ℕ) (ended : Bool) (first now : At (DeskView K D)) (r : Result ℕ ScriptFault)
    → MatchResult r (λ answered. (ended ≡ true) × IsWholeScript rules g empty_state came first now) (λ fault. IsBegunScript rules g empty_state came ended fault.cause first now)
    → MatchResult r (λ answered. (ended ≡ true) × AnswersScript (rules first.state.scheme) came first.held now.held) (λ fault. BeginsScript (rules first.state.scheme) came ended fault.cause first.held now.held)
told rules g came ended first now (Ok answered) h = (h.0, whole rules g came first now h.1)
told rules g came ended first now (Err fault) h = begun rules g came ended fault.cause first now h

ran : {K D : Type 0} (rules : K → Rules) (g : Ghosts D) (had has : Option (List ℕ)) (first now : At (DeskView K D)) (result : Result ℕ ScriptFault)
    → Ran lines.most_bytes (λ came ended answered. (ended ≡ true) × IsWholeScript rules g empty_state came first now) (λ came ended fault. IsBegunScript rules g empty_state came ended fault.cause first now) had has result
    → IsScriptFromNothing (rules first.state.scheme) had has first.held now.held result
ran rules g had has first now result is = record {
  came = is.came;
  ended = is.ended;
  read = is.read;
  bounded = is.bounded;
  at_end = is.at_end;
  leaves = told rules g is.came is.ended first now result is.leaves;
}

pub script_from_nothing : {K D : Type 0} (rules : K → Rules) (g : Ghosts D) → ScriptsAreRuns rules g → (k : Rules) (had has : Option (List ℕ)) (first now : At (DeskView K D)) (result : Result ℕ ScriptFault) (empty made : Connected)
    → rules first.state.scheme ≡ k → RunsScript rules g had has first now result → HasCleanDisk (state g now.state.store) → IsSound k empty_state → rows_of_state empty_state ≡ no_rows
    → Creates empty made → state g first.state.store ≡ record { connection = made; catalog = None } → IsScriptFromNothing k had has first.held now.held result
script_from_nothing rules g law k had has first now result empty made same runs clean sound none creates fresh =
    subst (λ (k : Rules). IsScriptFromNothing k had has first.held now.held result) same (ran rules g had has first now result
    (law had has first now result runs clean empty_state (subst (λ (k : Rules). IsSound k empty_state) (sym same) sound)
    (shows_nothing none empty made (state g first.state.store) creates fresh)))

-- ---- streams

whole_stream : {K D : Type 0} (rules : K → Rules) (g : Ghosts D) (at : ℕ) (input : List ℕ) (first now : At (DeskView K D)) → IsWholeStream rules g at empty_state input first now
    → AnswersStream (rules first.state.scheme) at input first.held now.held
whole_stream rules g at input first now is = record { requests = is.requests; all = is.all; texts = is.texts; behind = is.shipped.behind; run = is.shipped.run; wrote = is.wrote }

begun_stream : {K D : Type 0} (rules : K → Rules) (g : Ghosts D) (at : ℕ) (came : List ℕ) (ended : Bool) (cause : ScriptCause) (first now : At (DeskView K D))
    → IsBegunStream rules g at empty_state came ended cause first now → BeginsStream (rules first.state.scheme) at came ended cause first.held now.held
begun_stream rules g at came ended cause first now is = record {
  done = is.done;
  next = is.next;
  are_first = is.are_first;
  texts = is.texts;
  behind = is.shipped.behind;
  run = is.shipped.run;
  part = is.part;
  is_part = is.is_part;
  wrote = is.wrote;
}

told_stream : {K D : Type 0} (rules : K → Rules) (g : Ghosts D) (at : ℕ) (came : List ℕ) (ended : Bool) (first now : At (DeskView K D)) (r : Result Served ServeFault)
    → MatchResult r (λ served. (more : List ℕ) → (ended ≡ true → more ≡ []) → IsWholeStream rules g at empty_state (came ++ more) first now) (λ fault. IsBegunStream rules g at empty_state came ended (cause_of fault.cause) first now)
    → MatchResult r (λ served. (more : List ℕ) → (ended ≡ true → more ≡ []) → AnswersStream (rules first.state.scheme) at (came ++ more) first.held now.held) (λ fault. BeginsStream (rules first.state.scheme) at came ended (cause_of fault.cause) first.held now.held)
told_stream rules g at came ended first now (Ok served) h = λ more none. whole_stream rules g at (came ++ more) first now (h more none)
told_stream rules g at came ended first now (Err fault) h = begun_stream rules g at came ended (cause_of fault.cause) first now h

ran_stream : {K D : Type 0} (rules : K → Rules) (g : Ghosts D) (at : ℕ) (had has : Option (List ℕ)) (first now : At (DeskView K D)) (result : Result Served ServeFault)
    → Ran serving.most_bytes (λ came ended served. (more : List ℕ) → (ended ≡ true → more ≡ []) → IsWholeStream rules g at empty_state (came ++ more) first now) (λ came ended fault. IsBegunStream rules g at empty_state came ended (cause_of fault.cause) first now) had has result
    → IsStreamFromNothing (rules first.state.scheme) at had has first.held now.held result
ran_stream rules g at had has first now result is = record {
  came = is.came;
  ended = is.ended;
  read = is.read;
  bounded = is.bounded;
  at_end = is.at_end;
  leaves = told_stream rules g at is.came is.ended first now result is.leaves;
}

pub stream_from_nothing : {K D : Type 0} (rules : K → Rules) (g : Ghosts D) → StreamsAreRuns rules g → (k : Rules) (at : ℕ) (had has : Option (List ℕ)) (first now : At (DeskView K D)) (result : Result Served ServeFault) (empty made : Connected)
    → rules first.state.scheme ≡ k → RunsStream rules g at had has first now result → HasCleanDisk (state g now.state.store) → IsSound k empty_state → rows_of_state empty_state ≡ no_rows
    → Creates empty made → state g first.state.store ≡ record { connection = made; catalog = None } → IsStreamFromNothing k at had has first.held now.held result
stream_from_nothing rules g law k at had has first now result empty made same runs clean sound none creates fresh =
    subst (λ (k : Rules). IsStreamFromNothing k at had has first.held now.held result) same (ran_stream rules g at had has first now result
    (law at had has first now result runs clean empty_state (subst (λ (k : Rules). IsSound k empty_state) (sym same) sound)
    (shows_nothing none empty made (state g first.state.store) creates fresh)))
