-- How far a run has come, step by step.
use Rattle.std.proofs.Common.{◌≡◌, ◌&&◌, Result, Ok, Err, OnOk, IfErr, IsErrAnd, ℕ, ◌+◌, ◌<◌, ◌≤◌, true, List, [], ◌∷◌, ◌++◌, length, filter, take, drop, ap, sym, ◌∙◌, subst, arith, append_assoc, append-nil, length-append}
use Rattle.std.specs.Borrow.{Bor}
use Rattle.std.specs.List.{list_all}
use Rattle.std.specs.Io.KnownBytes.{Appends}
use Rattle.std.proofs.KnownBytes.{Appends-nil, Appends-trans}
use Rattle.std.proofs.lemmas.Result.{err_from_is_err_and}
use Rattle.std.proofs.lemmas.List.{length-map, length-take}
use Rattle.std.proofs.lemmas.List.Elements.{filter-append}
use Rattle.std.proofs.lemmas.List.Folds.{list_all-append}
use Rattle.up_lines.specs.declared.fault.ScriptCause.{ScriptCause}
use Rattle.up_lines.specs.declared.progress.Progress.{Progress}
use Rattle.up_lines.specs.Lines.{newline, most_lines, piece_bytes, lines_of, is_short, has_bytes}
use Rattle.up_lines.specs.Runs.{At, BlamesWriter, Composes, written}
use Rattle.up_lines.specs.LineRuns.{Gives, print}
use Rattle.up_lines.specs.Together.{AreCut, Halts, WritesAll, bytes_of}
use Rattle.up_lines.specs.Progress.{Sofar, Within, Closes, ClosesLines, FailsLines, Grows, Settles, Step, Takes, is_inside}
use Rattle.up_lines.proofs.Cuts.{both_hold, lines-line}
use Rattle.up_lines.proofs.RunLaws.{has_bytes-long, is_short-le, gives-one, printed-append}
use Rattle.up_lines.proofs.Together.{drop_front}
use Rattle.up_lines.proofs.Short.{short_begun, short_grown}

module _ {S : Type 0} (gives : Gives S) (laws : Composes gives) where
  -- a line with bytes is ended
  pub closes_some : (old new : Progress) (before after : At S) (line : List ℕ) (n : ℕ) (texts : List (List ℕ))
      → line ≡ old.line.items → 0 < length line → new.line.items ≡ [] → new.counted ≡ old.counted + 1 → new.answered ≡ old.answered + 1 → 0 < n → n ≤ 1
      → gives before.state (take n (line ∷ [])) texts after.state → Appends before.held after.held (written print texts)
      → Closes gives old before new after
  closes_some old new before after line n texts same some emptied counted answered first one gave wrote =
      let gave : gives before.state (line ∷ []) texts after.state =
      (let n_is : n ≡ 1 = omega arith in subst (λ k. gives before.state (take k (line ∷ [])) texts after.state) n_is gave) in
      record {
        answers = texts;
        emptied = emptied;
        counted_is = counted;
        answered_is = omega (arith, answered, laws.each before.state after.state (line ∷ []) texts gave);
        run = subst (λ l. gives before.state (filter has_bytes (l ∷ [])) texts after.state) same (gives-one gives laws before.state after.state line texts (has_bytes-long line some) gave);
        wrote = wrote;
      }

  -- an empty line is ended
  pub closes_empty : (old new : Progress) (now : At S) → old.line.items ≡ [] → new.line.items ≡ [] → new.counted ≡ old.counted + 1 → new.answered ≡ old.answered → Closes gives old now new now
  closes_empty old new now empty emptied counted answered = record {
    answers = [];
    emptied = emptied;
    counted_is = counted;
    answered_is = omega (arith, answered);
    run = subst (λ (l : List ℕ). gives now.state (filter has_bytes (l ∷ [])) [] now.state) (sym empty) (laws.none now.state);
    wrote = Appends-nil now.held;
  }

  -- the end of a line is taken
  pub takes_end : (old new : Progress) (before after : At S) → old.counted < most_lines → Closes gives old before new after
      → Takes gives (newline ∷ []) old before new after
  takes_end old new before after room closes = λ first came so.
      let line = old.line.items in
      let whole' : list_all is_short (line ∷ []) ≡ true = ap (λ t. t && true) (is_short-le line so.short) in
      record {
        whole = so.whole ++ line ∷ [];
        answers = so.answers ++ closes.answers;
        cut = λ ended more.
            ap (lines_of ended) (append_assoc came (newline ∷ []) more)
            ∙ so.cut ended (newline ∷ more)
            ∙ ap (λ l. so.whole ++ l) (lines-line ended line more so.own_bytes)
            ∙ sym (append_assoc so.whole (line ∷ []) (lines_of ended more))
            ∙ ap (λ l. (so.whole ++ line ∷ []) ++ lines_of ended (l ++ more)) (sym closes.emptied);
        own_bytes = ap (list_all is_inside) closes.emptied;
        each_short = list_all-append is_short so.whole (line ∷ []) ∙ ap (λ t. t && list_all is_short (line ∷ [])) so.each_short ∙ whole';
        counted_is = omega (arith, length-append so.whole (line ∷ []), so.counted_is, closes.counted_is);
        few = omega (arith, closes.counted_is);
        short = omega (arith, ap length closes.emptied);
        none_past = λ _. closes.emptied;
        bytes = omega (arith, so.bytes, so.short, closes.counted_is, ap length closes.emptied, length-append came (newline ∷ []));
        run = subst (λ l. gives first.state l (so.answers ++ closes.answers) after.state) (sym (filter-append has_bytes so.whole (line ∷ [])))
            (laws.both first.state before.state after.state (filter has_bytes so.whole) (filter has_bytes (line ∷ [])) so.answers closes.answers so.run closes.run);
        answered_is = omega (arith, so.answered_is, closes.answered_is, length-append so.answers closes.answers);
        wrote = subst (Appends first.held after.held) (sym (printed-append so.answers closes.answers)) (Appends-trans _ _ _ _ _ so.wrote closes.wrote);
      }

  -- an empty line is taken
  pub takes_empty : (old new : Progress) (now : At S) → old.line.items ≡ [] → old.counted < most_lines → new.line.items ≡ old.line.items → new.counted ≡ old.counted + 1 → new.answered ≡ old.answered
      → Takes gives (newline ∷ []) old now new now
  takes_empty old new now empty room same counted answered =
      takes_end old new now now room (closes_empty old new now empty (same ∙ empty) counted answered)

  -- before any of them
  pub takes_none : (at : Progress) (now : At S) → Takes gives [] at now at now
  takes_none at now = λ first came so. subst (λ l. Sofar gives first l at now) (sym (append-nil came)) so

  -- bytes taken, and then others
  pub takes_after : (xs ys : List ℕ) (old mid new : Progress) (before between after : At S) → Takes gives xs old before mid between → Takes gives ys mid between new after
      → Takes gives (xs ++ ys) old before new after
  takes_after xs ys old mid new before between after p q = λ first came so.
      subst (λ l. Sofar gives first l new after) (append_assoc came xs ys) (q first (came ++ xs) (p first came so))

  -- a piece is put behind the line that is begun
  pub within_grown : (piece : List ℕ) (old new : Progress) (now : At S) → length piece ≤ piece_bytes → Grows piece old new
      → (first : At S) (came : List ℕ) → Sofar gives first came old now → Within gives first (came ++ piece) new now
  within_grown piece old new now small grows = λ first came so.
      let line = old.line.items in
      let longer : length new.line.items ≡ length line + length piece = omega (arith, ap length grows.grown, length-append line piece) in
      record {
        whole = so.whole;
        answers = so.answers;
        cut = λ ended more.
            ap (lines_of ended) (append_assoc came piece more)
            ∙ so.cut ended (piece ++ more)
            ∙ ap (λ l. so.whole ++ lines_of ended l) (sym (append_assoc line piece more) ∙ ap (λ l. l ++ more) (sym grows.grown));
        each_short = so.each_short;
        counted_is = grows.counted_is ∙ so.counted_is;
        few = omega (arith, grows.counted_is, so.few);
        short = ap (λ l. list_all is_short (lines_of true l)) grows.grown ∙ short_grown line piece so.own_bytes so.short small grows.begun grows.short;
        bytes = omega (arith, so.bytes, grows.counted_is, longer, length-append came piece);
        run = so.run;
        answered_is = grows.answered_is ∙ so.answered_is;
        wrote = so.wrote;
      }

  -- whole lines are ended
  pub within_next : (old new : Progress) (before after : At S) → ClosesLines gives old before new after
      → (first : At S) (came : List ℕ) → Within gives first came old before → Within gives first came new after
  within_next old new before after closes = λ first came w.
      let rest = new.line.items in
      let lines = closes.lines in
      let all_short = both_hold (list_all is_short lines) (list_all is_short (lines_of true rest))
      (sym (list_all-append is_short lines (lines_of true rest)) ∙ ap (list_all is_short) (sym (closes.are_lines.cut true rest)) ∙ ap (λ l. list_all is_short (lines_of true l)) (sym closes.bytes_are) ∙ w.short) in
      record {
        whole = w.whole ++ lines;
        answers = w.answers ++ closes.answers;
        cut = λ ended more.
            w.cut ended more
            ∙ ap (λ l. w.whole ++ l) (ap (λ l. lines_of ended (l ++ more)) closes.bytes_are ∙ ap (lines_of ended) (append_assoc closes.front rest more) ∙ closes.are_lines.cut ended (rest ++ more))
            ∙ sym (append_assoc w.whole lines (lines_of ended (rest ++ more)));
        each_short = list_all-append is_short w.whole lines ∙ ap (λ t. t && list_all is_short lines) w.each_short ∙ all_short.0;
        counted_is = omega (arith, length-append w.whole lines, w.counted_is, closes.counted_is);
        few = closes.few;
        short = all_short.1;
        bytes =
            let size = closes.are_lines.sized all_short.0 in
            omega (arith, w.bytes, size, closes.counted_is, ap length closes.bytes_are, length-append closes.front rest);
        run = subst (λ l. gives first.state l (w.answers ++ closes.answers) after.state) (sym (filter-append has_bytes w.whole lines))
            (laws.both first.state before.state after.state (filter has_bytes w.whole) (filter has_bytes lines) w.answers closes.answers w.run closes.run);
        answered_is = omega (arith, w.answered_is, closes.answered_is, length-append w.answers closes.answers);
        wrote = subst (Appends first.held after.held) (sym (printed-append w.answers closes.answers)) (Appends-trans _ _ _ _ _ w.wrote closes.wrote);
      }

  -- lines that were cut are answered
  pub closes_lines : (old new : Progress) (before after : At S) (bytes : List ℕ) (most taken counted some answered : ℕ) (slices : List (Bor (List ℕ))) → bytes ≡ old.line.items → AreCut bytes most taken counted some slices
      → new.line.items ≡ drop taken old.line.items → new.counted ≡ old.counted + counted → new.answered ≡ old.answered + answered → new.counted ≤ most_lines
      → WritesAll gives (bytes_of (take some slices)) answered before after → ClosesLines gives old before new after
  closes_lines old new before after bytes most taken counted some answered slices same cut left counts answers few all = record {
    front = cut.front;
    lines = cut.lines;
    bytes_are = sym same ∙ cut.bytes_are ∙ ap (λ l. cut.front ++ l) (sym (left ∙ ap (drop taken) (sym same ∙ cut.bytes_are) ∙ ap (λ n. drop n (cut.front ++ cut.rest)) cut.taken_is ∙ drop_front cut.front cut.rest));
    are_lines = cut.are_lines;
    few = few;
    answers = all.texts;
    counted_is = omega (arith, counts, cut.counted_is);
    answered_is = omega (arith, answers, all.answered_is);
    run = subst (λ l. gives before.state l all.texts after.state) cut.listed_are all.run;
    wrote = all.wrote;
  }

  -- or some of them aren't
  pub fails_lines : (cause : ScriptCause) (old new : Progress) (before after : At S) (bytes : List ℕ) (most taken counted some answered : ℕ) (slices : List (Bor (List ℕ))) → bytes ≡ old.line.items → AreCut bytes most taken counted some slices
      → new.answered ≡ old.answered + answered → old.counted + counted ≤ most_lines
      → Halts gives cause (bytes_of (take some slices)) answered before after → FailsLines gives cause old before new after
  fails_lines cause old new before after bytes most taken counted some answered slices same cut answers few halts = record {
    front = cut.front;
    rest = cut.rest;
    lines = cut.lines;
    bytes_are = sym same ∙ cut.bytes_are;
    are_lines = cut.are_lines;
    few = omega (arith, few, cut.counted_is);
    fit = omega (arith, cut.fit, sym (ap length cut.listed_are), length-map (take some slices) (λ slice. slice.now), length-take some slices);
    answered = answered;
    answered_is = answers;
    halts = subst (λ l. Halts gives cause l answered before after) cut.listed_are halts;
  }

  -- no line is whole
  pub sofar_of : (at : Progress) (now : At S) → list_all is_inside at.line.items ≡ true → (at.counted ≡ most_lines → at.line.items ≡ [])
      → (first : At S) (came : List ℕ) → Within gives first came at now → Sofar gives first came at now
  sofar_of at now own none first came w = record {
    whole = w.whole;
    answers = w.answers;
    cut = w.cut;
    own_bytes = own;
    each_short = w.each_short;
    counted_is = w.counted_is;
    few = w.few;
    short = short_begun at.line.items own w.short;
    none_past = none;
    bytes = w.bytes;
    run = w.run;
    answered_is = w.answered_is;
    wrote = w.wrote;
  }

  -- empty lines, then a piece behind the line that is begun, and all whole lines
  pub takes_piece : (front rest piece : List ℕ) (old mid grown new : Progress) (before after : At S) → piece ≡ front ++ rest → length piece ≤ piece_bytes
      → Takes gives front old before mid before → Grows rest mid grown → Settles gives grown before new after → Takes gives piece old before new after
  takes_piece front rest piece old mid grown new before after is small taken grows settles = λ first came so.
      subst (λ l. Sofar gives first l new after) (append_assoc came front rest ∙ ap (λ l. came ++ l) (sym is))
      (settles first ((came ++ front) ++ rest) (within_grown rest mid grown before (omega (arith, small, ap length is, length-append front rest)) grows first (came ++ front) (taken first came so)))

pub on_ok : {T E P Q : Type 0} → (r : Result T E) → (P → Q) → OnOk r P → OnOk r Q
on_ok (Ok _) f h = f h
on_ok (Err _) f h = tt

-- what the exit of a `?` passes on
pub passed_on : {T E : Type 0} → (r : Result T E) (e : E) (Q : E → Type 0) → IsErrAnd r (λ x. x ≡ e) → Q e → IfErr r Q
passed_on r e Q h q =
    let (x, is, same) = err_from_is_err_and r h in
    subst (λ s. IfErr s Q) (sym is) (subst Q (sym same) q)

-- a step that the exit of a `?` ends
pub step_ends : {S : Type 0} (Done : Progress → At S → Progress → At S → Type 0) (StopsFor : ScriptCause → Progress → At S → Progress → At S → Type 0)
    (old : Progress) (before : At S) (new : Progress) (after : At S) (failed can_write : Type 0) (r : Result (Unit {0}) ScriptCause) (cause : ScriptCause)
    → IsErrAnd r (λ x. x ≡ cause) → StopsFor cause old before new after → old.answered ≤ new.answered → BlamesWriter cause failed can_write
    → Step Done StopsFor old before new after failed can_write r
step_ends Done StopsFor old before new after failed can_write r cause h stops grows blames =
    let (x, is, same) = err_from_is_err_and r h in
    subst (Step Done StopsFor old before new after failed can_write) (sym (is ∙ ap Err same)) (record { ok = tt; err = stops; grows = grows; goes_on = tt; blames = blames })
