-- How a run ends.
use Rattle.std.proofs.Common.{◌≡◌, Result, Ok, Err, OnOk, IfErr, IsErrAnd, ℕ, ◌-◌, ◌<◌, ◌≤◌, Bool, true, false, List, [], ◌∷◌, ◌++◌, length, filter, refl, ap, sym, ◌∙◌, subst, arith, append-nil}
use Rattle.std.specs.Prelude.{Option}
use Rattle.std.specs.List.{list_all}
use Rattle.std.specs.Io.KnownBytes.{Consumes, IsAtEnd}
use Rattle.std.proofs.KnownBytes.{Appends-nil}
use Rattle.std.proofs.lemmas.Result.{err_from_is_err_and}
use Rattle.up_lines.specs.declared.progress.Progress.{Progress}
use Rattle.up_lines.specs.declared.fault.ScriptCause.{ScriptCause}
use Rattle.up_lines.specs.declared.fault.ScriptCause.TheVariants.{Read, TooLong}
use Rattle.up_lines.specs.Lines.{newline, most_lines, most_bytes, piece_bytes, lines_of, is_short, fits, has_bytes, asked}
use Rattle.up_lines.specs.Runs.{At, Composes, LastRead}
use Rattle.up_lines.specs.LineRuns.{Gives, FinishedLines, Stopped, WantsMore, RanLines}
use Rattle.up_lines.specs.Progress.{Sofar, Closes, Fails, Stops, Completes, IsFresh, run_result, is_inside}
use Rattle.up_lines.proofs.Cuts.{lines-line, lines-last_one, lines-begun}
use Rattle.up_lines.proofs.RunLaws.{fits_begun, asked-append, asked_among-none, as_many}
use Rattle.up_lines.proofs.Steps.{takes_end}
use Rattle.up_lines.proofs.Stopping.{stopped, breaks_none, stops_at, ended_next}

pub none_of : (line : List ℕ) → length line ≡ 0 → line ≡ []
none_of [] h = refl
none_of (b ∷ bs) h = absurd (omega arith)

-- lines within the limits are all answered, but for the empty ones
asked-all : (lines : List (List ℕ)) → list_all is_short lines ≡ true → length lines ≤ most_lines → asked lines ≡ filter has_bytes lines
asked-all lines each few =
    ap asked (sym (append-nil lines)) ∙ asked-append lines [] each few
    ∙ ap (λ l. filter has_bytes lines ++ l) (asked_among-none (most_lines - length lines)) ∙ append-nil (filter has_bytes lines)

module _ {S : Type 0} (gives : Gives S) (laws : Composes gives) (first : At S) where
  -- the lines of what came
  lines_now : (came : List ℕ) (at : Progress) (now : At S) (so : Sofar gives first came at now) (ended : Bool) → lines_of ended came ≡ so.whole ++ lines_of ended at.line.items
  lines_now came at now so ended =
      ap (lines_of ended) (sym (append-nil came)) ∙ so.cut ended [] ∙ ap (λ l. so.whole ++ lines_of ended l) (append-nil at.line.items)

  few_whole : (came : List ℕ) (at : Progress) (now : At S) (so : Sofar gives first came at now) → length so.whole ≤ most_lines
  few_whole came at now so = omega (arith, so.counted_is, so.few)

  -- what came is within the limits
  pub within_limits : (came : List ℕ) (at : Progress) (now : At S) → Sofar gives first came at now → fits (lines_of true came) ≡ true
  within_limits came at now so = ap fits (lines_now came at now so true) ∙ fits_begun so.whole at.line.items so.each_short so.own_bytes so.short (few_whole came at now so)
      (λ full. so.none_past (so.counted_is ∙ full))

  -- the end, with no line begun
  completes_none : (came : List ℕ) (at : Progress) (now : At S) → at.line.items ≡ [] → Sofar gives first came at now → FinishedLines gives came at.answered first now
  completes_none came at now none so =
      let all : lines_of true came ≡ so.whole = lines_now came at now so true ∙ ap (λ l. so.whole ++ lines_of true l) none ∙ append-nil so.whole in
      record {
        items = filter has_bytes so.whole;
        answers = so.answers;
        all = (within_limits came at now so, sym (ap asked all ∙ asked-all so.whole so.each_short (few_whole came at now so)));
        run = so.run;
        answered_is = so.answered_is;
        wrote = so.wrote;
      }

  -- a line that is begun is the last
  same_lines : (came : List ℕ) (at : Progress) (now : At S) (so : Sofar gives first came at now) (ended : Bool) → 0 < length at.line.items
      → lines_of ended (came ++ newline ∷ []) ≡ lines_of true came
  same_lines came at now so ended some =
      so.cut ended (newline ∷ []) ∙ ap (λ l. so.whole ++ l) (lines-line ended at.line.items [] so.own_bytes ∙ sym (lines-last_one at.line.items so.own_bytes some))
      ∙ sym (lines_now came at now so true)

  -- the end, with a line begun
  completes_some : (came : List ℕ) (old new : Progress) (before after : At S) → old.counted < most_lines → 0 < length old.line.items → Closes gives old before new after
      → Sofar gives first came old before → FinishedLines gives came new.answered first after
  completes_some came old new before after room some closes so =
      let then = completes_none (came ++ newline ∷ []) new after closes.emptied (takes_end gives laws old new before after room closes first came so) in
      let same = same_lines came old before so true some in
      record {
        items = then.items;
        answers = then.answers;
        all = (ap fits (sym same) ∙ then.all.0, then.all.1 ∙ ap asked same);
        run = then.run;
        answered_is = then.answered_is;
        wrote = then.wrote;
      }

  -- what is to be answered of the lines that are whole
  asked_whole : (came : List ℕ) (at : Progress) (now : At S) (so : Sofar gives first came at now) → asked (lines_of false came) ≡ filter has_bytes so.whole
  asked_whole came at now so =
      let all : lines_of false came ≡ so.whole = lines_now came at now so false ∙ ap (λ l. so.whole ++ l) (lines-begun at.line.items so.own_bytes) ∙ append-nil so.whole in
      ap asked all ∙ asked-all so.whole so.each_short (few_whole came at now so)

  -- a read while no limit is passed and each whole line has its answer
  pub last_read : (came piece all : List ℕ) (ended : Bool) (at : Progress) (now : At S) (answered : ℕ) → Sofar gives first came at now → at.answered ≤ answered
      → all ≡ came ++ piece → length piece ≤ piece_bytes → (ended ≡ true → piece ≡ []) → LastRead piece_bytes (WantsMore answered) all ended
  last_read came piece all ended at now answered so few is small none = record {
    before = came;
    piece = piece;
    came_is = is;
    small = small;
    none_at_end = none;
    wanted = (
      within_limits came at now so,
      omega (arith, few, so.answered_is, ap length (asked_whole came at now so), as_many gives laws first.state now.state (filter has_bytes so.whole) so.answers so.run),
    );
  }

  -- the reader failed
  pub stops_read : (came : List ℕ) (at : Progress) (now : At S) → Sofar gives first came at now
      → Stopped gives came false (record { cause = Read; lines = at.answered }) first now
  stops_read came at now so =
      let is = asked_whole came at now so in
      stopped gives laws Read came false came first at now so [] at.answered now ([], is ∙ sym (append-nil (filter has_bytes so.whole)) ∙ sym (append-nil (filter has_bytes so.whole ++ [])), omega arith)
      (refl, within_limits came at now so, sym is) (breaks_none gives laws Read now (λ e. absurd (cc))) refl

module _ {S : Type 0} (gives : Gives S) (laws : Composes gives) where
  -- before any byte
  pub fresh : (first : At S) (at : Progress) → IsFresh at → Sofar gives first [] at first
  fresh first at new = record {
    whole = [];
    answers = [];
    cut = λ ended more. ap (λ l. lines_of ended (l ++ more)) (sym new.empty);
    own_bytes = ap (list_all is_inside) new.empty;
    each_short = refl;
    counted_is = new.none_counted;
    few = omega (arith, new.none_counted);
    short = omega (arith, ap length new.empty);
    none_past = λ _. new.empty;
    bytes = omega arith;
    run = laws.none first.state;
    answered_is = new.none_answered;
    wrote = Appends-nil first.held;
  }

  pub finishes_none : (at : Progress) (now : At S) → at.line.items ≡ [] → Completes gives at now at now
  finishes_none at now none = λ first came so. completes_none gives laws first came at now none so

  pub finishes_some : (old new : Progress) (before after : At S) → old.counted < most_lines → 0 < length old.line.items → Closes gives old before new after
      → Completes gives old before new after
  finishes_some old new before after room some closes = λ first came so. completes_some gives laws first came old new before after room some closes so

  -- a line that is begun behind the last one doesn't come here
  pub finishes_past : (at : Progress) (now : At S) → at.counted ≡ most_lines → 0 < length at.line.items → Stops gives TooLong true [] at now at now
  finishes_past at now full some = λ first came so small. absurd (let none : length at.line.items ≡ 0 = ap length (so.none_past full) in omega (arith, some, none))

  -- the line that the input's end ends isn't answered whole
  pub finish_stops : (cause : ScriptCause) (old new : Progress) (before after : At S) → old.counted < most_lines → 0 < length old.line.items → Fails gives cause old before new after
      → Stops gives cause true [] old before new after
  finish_stops cause old new before after room some fails = λ first came so small.
      let same : lines_of false (came ++ newline ∷ []) ≡ lines_of true (came ++ []) = same_lines gives laws first came old before so false some ∙ ap (lines_of true) (sym (append-nil came)) in
      stops_at gives laws cause came true (came ++ []) first old new before after so _ (ap asked (sym same) ∙ ended_next gives laws came first old before so [] room fails.some) fails.answered_is fails.unanswered

  -- a run that stopped before the input's end
  pub ran_err : (cause : ScriptCause) (first now : At S) (had has : Option (List ℕ)) (came : List ℕ) (answered : ℕ)
      → Consumes had has came → length came ≤ most_bytes → Stopped gives came false (record { cause = cause; lines = answered }) first now
      → LastRead piece_bytes (WantsMore answered) came false → RanLines gives had has first now (Err (record { cause = cause; lines = answered }))
  ran_err cause first now had has came answered read bounded stopped last =
      record { came = came; ended = false; read = read; bounded = bounded; at_end = λ h. absurd (cc); leaves = (stopped, last) }

  pub ran_stop : (r : Result (Unit {0}) ScriptCause) (cause : ScriptCause) (first now : At S) (had has : Option (List ℕ)) (came : List ℕ) (answered : ℕ)
      → IsErrAnd r (λ x. x ≡ cause) → Consumes had has came → length came ≤ most_bytes
      → Stopped gives came false (record { cause = cause; lines = answered }) first now → LastRead piece_bytes (WantsMore answered) came false
      → RanLines gives had has first now (run_result r answered)
  ran_stop r cause first now had has came answered failed read bounded stopped last =
      let (x, is, same) = err_from_is_err_and r failed in
      subst (λ s. RanLines gives had has first now (run_result s answered)) (sym (is ∙ ap Err same)) (ran_err cause first now had has came answered read bounded stopped last)

  -- a run to the input's end
  pub ran_on : (r : Result (Unit {0}) ScriptCause) (first now : At S) (had has : Option (List ℕ)) (came : List ℕ) (old : Progress) (before : At S) (new : Progress)
      → Consumes had has came → length came ≤ most_bytes → IsAtEnd has → Sofar gives first came old before
      → OnOk r (Completes gives old before new now) → IfErr r (λ cause. Stops gives cause true [] old before new now)
      → old.answered ≤ new.answered → RanLines gives had has first now (run_result r new.answered)
  ran_on (Ok _) first now had has came old before new read bounded end so ok err grows =
      record { came = came; ended = true; read = read; bounded = bounded; at_end = λ _. end; leaves = (refl, ok first came so) }
  ran_on (Err cause) first now had has came old before new read bounded end so ok err grows = record {
    came = came;
    ended = true;
    read = read;
    bounded = bounded;
    at_end = λ _. end;
    leaves = (
      subst (λ l. Stopped gives l true (record { cause = cause; lines = new.answered }) first now) (append-nil came) (err first came so (omega arith)),
      last_read gives laws first came [] came true old before new.answered so grows (sym (append-nil came)) (omega arith) (λ _. refl),
    );
  }
