-- What whole scripts and whole streams come to.
use Rattle.std.proofs.Common.{◌≡◌, inl, ℕ, List, Bool, true, false, Option, Some, None, Result, Ok, Err, refl, sym, subst, ap, ◌∙◌}
use Rattle.std.specs.Prelude.{◌||◌, [], ◌∷◌, ◌++◌, bytes_eq, MatchResult}
use Rattle.std.specs.Cmp.Lexicographic.{bytes_decides}
use Rattle.sqlite_trees.specs.declared.store.Store.{Ghosts}
use Rattle.up_canon.specs.declared.refusal.Refusal.{Refusal}
use Rattle.up_canon.specs.declared.refusal.Refusal.TheVariants.{Memory, Store}
use Rattle.up_sign.specs.Schemes.{Rules}
use Rattle.up_machine.specs.declared.answer.Answer.{Answer}
use Rattle.up_machine.specs.declared.answer.Answer.TheVariants.{Refused}
use Rattle.up_machine.specs.declared.command.Command.{Command}
use Rattle.up_machine.specs.Laws.{RefusalsChangeNothing}
use Rattle.up_machine.specs.RepeatLaws.{ServedIsThinned}
use Rattle.up_machine.specs.Repeats.{KeptEntry, repeat_of, serve, served_as}
use Rattle.up_machine.specs.State.{State}
use Rattle.up_script.specs.AskedLines.{asked_in}
use Rattle.up_script.specs.PrintedLines.{answer_text, refused_text}
use Rattle.up_script.specs.declared.asked.Asked.{Asked}
use Rattle.up_script.specs.declared.asked.What.{What}
use Rattle.up_script.specs.declared.asked.What.TheVariants.{Call, Show}
use Rattle.up_heads.specs.Responses.{check_response_of, refusal_response_of}
use Rattle.up_http.specs.Serving.{RanRequests, RunsRequests, FinishedRequests, Stopped, cause_of, plain}
use Rattle.up_http.specs.Serving as serving
use Rattle.up_http.specs.declared.asked.What.{What as Requested}
use Rattle.up_http.specs.declared.asked.What.TheVariants.{Call as Request, Fixed}
use Rattle.up_http.specs.declared.fault.ServeFault.{ServeFault}
use Rattle.up_http.specs.declared.served.Served.{Served}
use Rattle.up_lines.specs.LineRuns.{RanLines, RunsLines, FinishedLines, Stopped as StoppedLines}
use Rattle.up_lines.specs.Lines as lines
use Rattle.up_lines.specs.LineRuns as line_runs
use Rattle.up_lines.specs.Runs.{At, LastRead}
use Rattle.up_lines.specs.declared.fault.ScriptCause.{ScriptCause}
use Rattle.up_lines.specs.declared.fault.ScriptFault.{ScriptFault}
use Rattle.up_records.specs.Connected.{is_fault}
use Rattle.up_records.specs.Standing.{Standing, state}
use Rattle.up_desk.specs.Desks.{DeskView}
use Rattle.up_service.specs.Answers.{answered_as, AnswersAs, HoldsNext}
use Rattle.up_service.specs.LineAnswers.{line_answer, answer_to, carried_out}
use Rattle.up_service.specs.Responses.{Responses, IsResponseTo, answer_response}
use Rattle.up_service.specs.Runs.{HandsOnSome, Service, Told, tells_fault}
use Rattle.up_service.specs.Scripts.{line_service, LinesLast, ScriptLasts}
use Rattle.up_service.specs.Scripts as script
use Rattle.up_service.specs.Together.{Lines}
use Rattle.up_service.specs.Streams.{request_answer, request_service, RequestsLast, StreamLasts}
use Rattle.up_service.specs.Streams as stream
use Rattle.up_service.proofs.Answering.{survives_same}
use Rattle.up_service.proofs.Failing.{AreApart, not_committed, lines_apart, responses_apart}
use Rattle.up_service.proofs.Stretches.{lines_last}
use Rattle.up_service.proofs.Lasting.{ChangesNothing, FaultsChangeNothing, Serves, runs_last, hands_on}

-- ---- what tells a fault changes nothing

-- the fault that a text tells
pub fault_told : {I : Type 0} (v : Service I) (m : Told I) → tells_fault v m ≡ true → (r : Refusal) × (is_fault r ≡ true) × (m.text ≡ v.tell m.item r)
fault_told v m tells = by_first (bytes_eq m.text (v.tell m.item Memory)) refl
  where
    by_first : (b : Bool) → bytes_eq m.text (v.tell m.item Memory) ≡ b → (r : Refusal) × (is_fault r ≡ true) × (m.text ≡ v.tell m.item r)
    by_first true same = (Memory, refl, (bytes_decides m.text (v.tell m.item Memory)).0 same)
    by_first false same = (Store, refl, (bytes_decides m.text (v.tell m.item Store)).0 (sym (ap (λ b. b || bytes_eq m.text (v.tell m.item Store)) same) ∙ tells))

-- a command that is refused changes nothing
pub refused_serve : RefusalsChangeNothing → (k : Rules) (s : State) (at : ℕ) (c : Command) (q : Refusal) → (serve k s at c).answer ≡ Refused q → (serve k s at c).next ≡ s
unfolding serve
refused_serve law k s at c q is = by_repeat (repeat_of k s at c) is
  where
    by_repeat : (o : Option KeptEntry) → (served_as k s at c o).answer ≡ Refused q → (served_as k s at c o).next ≡ s
    by_repeat None h = law k s at c q h
    by_repeat (Some kept) h = refl

pub told_serve : RefusalsChangeNothing → (tell : Refusal → List ℕ) (tell_answer : Answer → List ℕ) → AreApart tell tell_answer → (k : Rules) (s : State) (at : ℕ) (c : Command) (r : Refusal) → is_fault r ≡ true
    → tell_answer (serve k s at c).answer ≡ tell r → ChangesNothing s (answered_as tell_answer k s at c)
told_serve law tell tell_answer apart k s at c r fault same =
    let refused = apart r (serve k s at c).answer fault (sym same) in
    (refused_serve law k s at c refused.0 refused.1, λ commit. not_committed tell tell_answer apart r (serve k s at c).answer s (serve k s at c).next fault commit (sym same))

pub lines_calm : RefusalsChangeNothing → (k : Rules) → FaultsChangeNothing (line_service k)
unfolding line_answer
lines_calm law k s line tells = let told = fault_told (line_service k) (record { item = line; text = (line_answer k s line).text }) tells in by_asked (asked_in k line) told.0 told.1 told.2
  where
    by_what : (at : ℕ) (w : What) (r : Refusal) → is_fault r ≡ true → (carried_out k s at w).text ≡ refused_text r → ChangesNothing s (carried_out k s at w)
    by_what at (Call c) r fault same = told_serve law refused_text answer_text lines_apart k s at c r fault same
    by_what at (Show vehicle) r fault same = (refl, λ commit. commit)

    by_asked : (a : Result Asked Refusal) (r : Refusal) → is_fault r ≡ true → (answer_to k s a).text ≡ refused_text r → ChangesNothing s (answer_to k s a)
    by_asked (Ok asked) r fault same = by_what asked.at asked.what r fault same
    by_asked (Err q) r fault same = (refl, λ commit. commit)

pub requests_calm : RefusalsChangeNothing → (k : Rules) (at : ℕ) → FaultsChangeNothing (request_service k at)
requests_calm law k at s next tells =
    let told = fault_told (request_service k at) (record { item = next; text = (request_answer k at s next.what next.last next.head).text }) tells in by_what next.what told.0 told.1 told.2
  where
    by_what : (w : Requested) (r : Refusal) → is_fault r ≡ true → (request_answer k at s w next.last next.head).text ≡ refusal_response_of r next.last next.head → ChangesNothing s (request_answer k at s w next.last next.head)
    by_what (Request c) r fault same =
        told_serve law (λ q. refusal_response_of q next.last next.head) (λ a. answer_response a next.last next.head) (responses_apart next.last next.head) k s at c r fault same
    by_what (Fixed check) r fault same = (refl, λ commit. commit)

-- ---- each step

-- a fixed answer
pub fixed_answers : (tell : Refusal → List ℕ) (k : Rules) (fixed text : List ℕ) (now : Standing) → text ≡ fixed → AnswersAs tell (λ s. record { text = fixed; called = None; next = s }) k text now now
fixed_answers tell k fixed text now is = record {
  clean = λ clean. clean;
  answered = λ clean s sound was. (s, inl (is, refl), sound, was clean);
  crash = λ s sound was. survives_same (HoldsNext None s) now;
  durable = λ s sound was same commit. absurd commit;
  blame = λ clean s sound was other same. absurd (other is);
}

pub requests_serve : {K D : Type 0} (rules : K → Rules) (g : Ghosts D) (at : ℕ) → Serves (λ q. request_service (rules q) at) g (Responses rules g at)
requests_serve {K} {D} rules g at old new next text h = by_what next.what h
  where
    by_what : (w : Requested) → IsResponseTo rules g at old w next.last next.head text new
        → (new.scheme ≡ old.scheme)
        × AnswersAs (λ r. refusal_response_of r next.last next.head) (λ s. request_answer (rules old.scheme) at s w next.last next.head) (rules old.scheme) text (state g old.store) (state g new.store)
    by_what (Request c) is = (is.0, is.2)
    by_what (Fixed check) is = (
      ap (λ (d : DeskView K D). d.scheme) is.1,
      subst (λ (d : DeskView K D). AnswersAs (λ r. refusal_response_of r next.last next.head) (λ s. record { text = check_response_of check next.last next.head; called = None; next = s }) (rules old.scheme) text
          (state g old.store) (state g d.store)) (sym is.1)
          (fixed_answers (λ r. refusal_response_of r next.last next.head) (rules old.scheme) (check_response_of check next.last next.head) text (state g old.store) is.0),
    )

-- ---- scripts

-- a run that broke off at lines handed these on
hands_on_lines : {S : Type 0} (gives : line_runs.Gives S) (cause : ScriptCause) (next : List (List ℕ)) (old new : S) (prefix : List ℕ) → line_runs.Breaks gives cause next old new prefix → HandsOnSome gives next old new
hands_on_lines gives cause [] old new prefix breaks = breaks.1
hands_on_lines gives cause (line ∷ lines) old new prefix breaks = (breaks.0, breaks.1)

pub scripts_last : {K D : Type 0} → RefusalsChangeNothing → ServedIsThinned → (rules : K → Rules) (g : Ghosts D) → LinesLast rules g
scripts_last law thin rules g = lines_last rules g (λ q. lines_calm law (rules q)) thin

script_lasts : {K D : Type 0} (rules : K → Rules) (g : Ghosts D) → LinesLast rules g → (had has : Option (List ℕ)) (first now : At (DeskView K D)) (result : Result ℕ ScriptFault)
    → RanLines (Lines rules g) had has first now result → ScriptLasts rules g had has first now result
script_lasts rules g law had has first now result ran = record {
  came = ran.came;
  ended = ran.ended;
  read = ran.read;
  bounded = ran.bounded;
  at_end = ran.at_end;
  leaves = by_result result ran.leaves;
}
  where
    finished : (answered : ℕ) → FinishedLines (Lines rules g) ran.came answered first now → script.FinishedLast rules g ran.came answered first now
    finished answered run = (run, law run.items run.answers [] first.state now.state now.state run.run refl)

    stopped : (fault : ScriptFault) → StoppedLines (Lines rules g) ran.came ran.ended fault first now → script.StoppedLast rules g ran.came ran.ended fault first now
    stopped fault run = (run, law run.done run.answers run.next first.state run.last now.state run.run (hands_on_lines (Lines rules g) fault.cause run.next run.last now.state run.prefix run.breaks))

    by_result : (r : Result ℕ ScriptFault)
        → MatchResult r (λ answered. (ran.ended ≡ true) × FinishedLines (Lines rules g) ran.came answered first now)
        (λ fault. StoppedLines (Lines rules g) ran.came ran.ended fault first now × LastRead lines.piece_bytes (line_runs.WantsMore fault.lines) ran.came ran.ended)
        → MatchResult r (λ answered. (ran.ended ≡ true) × script.FinishedLast rules g ran.came answered first now) (λ fault. script.StoppedLast rules g ran.came ran.ended fault first now)
    by_result (Ok answered) h = (h.0, finished answered h.1)
    by_result (Err fault) h = stopped fault h.0

pub runs_script : {K D : Type 0} (rules : K → Rules) (g : Ghosts D) → LinesLast rules g → (had has : Option (List ℕ)) (first now : At (DeskView K D)) (result : Result ℕ ScriptFault)
    → RunsLines (Lines rules g) had has first now result → script.RunsScript rules g had has first now result
runs_script rules g law had has first now result runs = record { lines = runs; lasts = script_lasts rules g law had has first now result runs.ran }

-- ---- streams

pub requests_last : {K D : Type 0} → RefusalsChangeNothing → (rules : K → Rules) (g : Ghosts D) → RequestsLast rules g
requests_last law rules g at = runs_last (λ q. request_service (rules q) at) g (Responses rules g at) (λ q. requests_calm law (rules q) at) (requests_serve rules g at)

stream_lasts : {K D : Type 0} (rules : K → Rules) (g : Ghosts D) (at : ℕ) → RequestsLast rules g → (had has : Option (List ℕ)) (first now : At (DeskView K D)) (result : Result Served ServeFault)
    → RanRequests (Responses rules g at) had has first now result → StreamLasts rules g at had has first now result
stream_lasts rules g at law had has first now result ran = record {
  came = ran.came;
  ended = ran.ended;
  read = ran.read;
  bounded = ran.bounded;
  at_end = ran.at_end;
  leaves = by_result result ran.leaves;
}
  where
    finished : (input : List ℕ) (answered : ℕ) → FinishedRequests (Responses rules g at) input answered first now → stream.FinishedLast rules g at input answered first now
    finished input answered run = (run, law at run.items run.answers None first.state now.state now.state run.run refl)

    stopped : (fault : ServeFault) → Stopped (Responses rules g at) ran.came ran.ended fault first now → stream.StoppedLast rules g at ran.came ran.ended fault first now
    stopped fault run = (
      run,
      law at run.done run.answers run.next first.state run.last now.state run.run (hands_on (Responses rules g at) plain (cause_of fault.cause) run.next run.last now.state run.prefix run.breaks),
    )

    by_result : (r : Result Served ServeFault)
        → MatchResult r (λ served. ((more : List ℕ) → (ran.ended ≡ true → more ≡ []) → FinishedRequests (Responses rules g at) (ran.came ++ more) served.requests first now)
        × LastRead serving.piece_bytes (serving.WantsMore served.requests) ran.came ran.ended)
        (λ fault. Stopped (Responses rules g at) ran.came ran.ended fault first now × LastRead serving.piece_bytes (serving.WantsMore fault.answered) ran.came ran.ended)
        → MatchResult r (λ served. (more : List ℕ) → (ran.ended ≡ true → more ≡ []) → stream.FinishedLast rules g at (ran.came ++ more) served.requests first now)
        (λ fault. stream.StoppedLast rules g at ran.came ran.ended fault first now)
    by_result (Ok served) h = λ more ended. finished (ran.came ++ more) served.requests (h.0 more ended)
    by_result (Err fault) h = stopped fault h.0

pub runs_stream : {K D : Type 0} (rules : K → Rules) (g : Ghosts D) (at : ℕ) → RequestsLast rules g → (had has : Option (List ℕ)) (first now : At (DeskView K D)) (result : Result Served ServeFault)
    → RunsRequests (Responses rules g at) had has first now result → stream.RunsStream rules g at had has first now result
runs_stream rules g at law had has first now result runs = record { requests = runs; lasts = stream_lasts rules g at law had has first now result runs.ran }
