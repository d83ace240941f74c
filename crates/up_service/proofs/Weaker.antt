-- What a run leaves where each item has such an answer, it leaves where each has one of which less is said.
use Rattle.std.proofs.Common.{◌≡◌, ℕ, List, [], ◌∷◌, Option, Some, None, Result, Ok, Err, true}
use Rattle.std.specs.Prelude.{◌++◌, MatchResult}
use Rattle.std.proofs.lemmas.Option.{IfSome_then}
use Rattle.std.proofs.lemmas.Result.{IfOk-weaker, IfErr-weaker}
use Rattle.up_http.specs.Serving as serving
use Rattle.up_http.specs.declared.fault.ServeFault.{ServeFault}
use Rattle.up_http.specs.declared.served.Served.{Served}
use Rattle.up_lines.specs.LineRuns as lines
use Rattle.up_lines.specs.Lines.{piece_bytes}
use Rattle.up_lines.specs.Runs.{At, GivesAll, Run, Breaks, AnswersUpTo, Finished, LastRead}
use Rattle.up_lines.specs.declared.fault.ScriptCause.{ScriptCause}
use Rattle.up_lines.specs.declared.fault.ScriptFault.{ScriptFault}

-- each answer of the one is one of the other
abbrev pub IsWeaker : {S I : Type 0} → (S → I → List ℕ → S → Type 0) → (S → I → List ℕ → S → Type 0) → Type 0
IsWeaker {S} {I} P Q = (old new : S) (item : I) (text : List ℕ) → P old item text new → Q old item text new

run_weaker : {S I : Type 0} (P Q : S → I → List ℕ → S → Type 0) → IsWeaker P Q → (items : List I) (texts : List (List ℕ)) (old new : S) → Run P old items texts new → Run Q old items texts new
run_weaker P Q weaker [] [] old new run = run
run_weaker P Q weaker [] (text ∷ texts) old new run = absurd run
run_weaker P Q weaker (item ∷ items) [] old new run = absurd run
run_weaker P Q weaker (item ∷ items) (text ∷ texts) old new run = (run.0, weaker old run.0 item text run.1, run_weaker P Q weaker items texts run.0 new run.2)

breaks_weaker : {S I : Type 0} (P Q : S → I → List ℕ → S → Type 0) → IsWeaker P Q → (print : List ℕ → List ℕ) (cause : ScriptCause) (next : Option I) (old new : S) (prefix : List ℕ)
    → Breaks P print cause next old new prefix → Breaks Q print cause next old new prefix
breaks_weaker P Q weaker print cause None old new prefix breaks = breaks
breaks_weaker P Q weaker print cause (Some item) old new prefix breaks = (breaks.0, weaker old new item breaks.0 breaks.1, breaks.2)

-- the same of lists
abbrev pub AreWeaker : {S I : Type 0} → GivesAll S I → GivesAll S I → Type 0
AreWeaker {S} {I} P Q = (items : List I) (texts : List (List ℕ)) (old new : S) → P old items texts new → Q old items texts new

lines_break : {S : Type 0} (P Q : lines.Gives S) → AreWeaker P Q → (cause : ScriptCause) (next : List (List ℕ)) (old new : S) (prefix : List ℕ) → lines.Breaks P cause next old new prefix → lines.Breaks Q cause next old new prefix
lines_break P Q weaker cause [] old new prefix breaks = breaks
lines_break P Q weaker cause (line ∷ next) old new prefix breaks = (breaks.0, weaker (line ∷ next) breaks.0 old new breaks.1, breaks.2)

finished_weaker : {S I : Type 0} (P Q : GivesAll S I) → AreWeaker P Q → (print : List ℕ → List ℕ) (AreAll : List I → Type 0) (first now : At S) (answered : ℕ)
    → Finished P print AreAll first answered now → Finished Q print AreAll first answered now
finished_weaker P Q weaker print AreAll first now answered h = record {
  items = h.items;
  answers = h.answers;
  all = h.all;
  run = weaker h.items h.answers first.state now.state h.run;
  answered_is = h.answered_is;
  wrote = h.wrote;
}

up_to_weaker : {S I N : Type 0} (P Q : GivesAll S I) → AreWeaker P Q → (print : List ℕ → List ℕ) (B C : N → S → S → List ℕ → Type 0) → ((next : N) (old new : S) (prefix : List ℕ) → B next old new prefix → C next old new prefix)
    → (AreFirst : List I → N → Type 0) (first now : At S) (answered : ℕ) → AnswersUpTo P print B AreFirst first answered now → AnswersUpTo Q print C AreFirst first answered now
up_to_weaker P Q weaker print B C broke AreFirst first now answered h = record {
  done = h.done;
  next = h.next;
  answers = h.answers;
  last = h.last;
  prefix = h.prefix;
  first_ones = h.first_ones;
  run = weaker h.done h.answers first.state h.last h.run;
  breaks = broke h.next h.last now.state h.prefix h.breaks;
  answered_is = h.answered_is;
  wrote = h.wrote;
}

-- ---- over a reader and a writer

lines_weaker : {S : Type 0} (P Q : lines.Gives S) → AreWeaker P Q → (had has : Option (List ℕ)) (first now : At S) (result : Result ℕ ScriptFault)
    → lines.RanLines P had has first now result → lines.RanLines Q had has first now result
lines_weaker P Q weaker had has first now result ran = record {
  came = ran.came;
  ended = ran.ended;
  read = ran.read;
  bounded = ran.bounded;
  at_end = ran.at_end;
  leaves = by_result result ran.leaves;
}
  where
    by_result : (r : Result ℕ ScriptFault)
        → MatchResult r (λ answered. (ran.ended ≡ true) × lines.FinishedLines P ran.came answered first now)
        (λ fault. lines.Stopped P ran.came ran.ended fault first now × LastRead piece_bytes (lines.WantsMore fault.lines) ran.came ran.ended)
        → MatchResult r (λ answered. (ran.ended ≡ true) × lines.FinishedLines Q ran.came answered first now)
        (λ fault. lines.Stopped Q ran.came ran.ended fault first now × LastRead piece_bytes (lines.WantsMore fault.lines) ran.came ran.ended)
    by_result (Ok answered) h = (h.0, finished_weaker P Q weaker lines.print (lines.AreAll ran.came) first now answered h.1)
    by_result (Err fault) h = (up_to_weaker P Q weaker lines.print _ _ (lines_break P Q weaker fault.cause) _ first now fault.lines h.0, h.1)

pub runs_lines : {S : Type 0} (P Q : lines.Gives S) → AreWeaker P Q → (had has : Option (List ℕ)) (first now : At S) (result : Result ℕ ScriptFault)
    → lines.RunsLines P had has first now result → lines.RunsLines Q had has first now result
runs_lines P Q weaker had has first now result h = record {
  ran = lines_weaker P Q weaker had has first now result h.ran;
  whole = IfOk-weaker result _ _ (λ answered known. IfSome_then had known (λ input run. finished_weaker P Q weaker lines.print _ first now answered run)) h.whole;
  prefix = IfErr-weaker result _ _ (λ fault known. IfSome_then had known (λ input run. up_to_weaker P Q weaker lines.print _ _ (lines_break P Q weaker fault.cause) _ first now fault.lines run)) h.prefix;
  too_long = h.too_long;
}

requests_weaker : {S : Type 0} (P Q : serving.Gives S) → IsWeaker P Q → (had has : Option (List ℕ)) (first now : At S) (result : Result Served ServeFault)
    → serving.RanRequests P had has first now result → serving.RanRequests Q had has first now result
requests_weaker P Q weaker had has first now result ran = record {
  came = ran.came;
  ended = ran.ended;
  read = ran.read;
  bounded = ran.bounded;
  at_end = ran.at_end;
  leaves = by_result result ran.leaves;
}
  where
    by_result : (r : Result Served ServeFault)
        → MatchResult r (λ served. ((more : List ℕ) → (ran.ended ≡ true → more ≡ []) → serving.FinishedRequests P (ran.came ++ more) served.requests first now)
        × LastRead serving.piece_bytes (serving.WantsMore served.requests) ran.came ran.ended)
        (λ fault. serving.Stopped P ran.came ran.ended fault first now × LastRead serving.piece_bytes (serving.WantsMore fault.answered) ran.came ran.ended)
        → MatchResult r (λ served. ((more : List ℕ) → (ran.ended ≡ true → more ≡ []) → serving.FinishedRequests Q (ran.came ++ more) served.requests first now)
        × LastRead serving.piece_bytes (serving.WantsMore served.requests) ran.came ran.ended)
        (λ fault. serving.Stopped Q ran.came ran.ended fault first now × LastRead serving.piece_bytes (serving.WantsMore fault.answered) ran.came ran.ended)
    by_result (Ok served) h = (λ more ended. finished_weaker (Run P) (Run Q) (run_weaker P Q weaker) serving.plain _ first now served.requests (h.0 more ended), h.1)
    by_result (Err fault) h = (up_to_weaker (Run P) (Run Q) (run_weaker P Q weaker) serving.plain _ _ (breaks_weaker P Q weaker serving.plain (serving.cause_of fault.cause)) _ first now fault.answered h.0, h.1)

pub runs_requests : {S : Type 0} (P Q : serving.Gives S) → IsWeaker P Q → (had has : Option (List ℕ)) (first now : At S) (result : Result Served ServeFault)
    → serving.RunsRequests P had has first now result → serving.RunsRequests Q had has first now result
runs_requests P Q weaker had has first now result h = record {
  ran = requests_weaker P Q weaker had has first now result h.ran;
  whole = IfOk-weaker result _ _ (λ served known. IfSome_then had known (λ input run. finished_weaker (Run P) (Run Q) (run_weaker P Q weaker) serving.plain _ first now served.requests run)) h.whole;
  prefix = IfErr-weaker result _ _ (λ fault known. IfSome_then had known (λ input run. up_to_weaker (Run P) (Run Q) (run_weaker P Q weaker) serving.plain _ _ (breaks_weaker P Q weaker serving.plain (serving.cause_of fault.cause)) _ first now fault.answered run)) h.prefix;
}
