-- Where a run stops among the bytes.
use Rattle.std.proofs.Common.{◌≡◌, ◌&&◌, ◌⊎◌, inl, inr, ℕ, ◌-◌, ◌<◌, ◌≤◌, Bool, true, false, List, [], ◌∷◌, ◌++◌, length, filter, refl, ap, sym, ◌∙◌, subst, arith, append_assoc, append-nil, length-append}
use Rattle.std.specs.Prelude.{◌≢◌}
use Rattle.std.specs.List.{list_all}
use Rattle.std.specs.Io.KnownBytes.{Appends}
use Rattle.std.proofs.KnownBytes.{Appends-nil, Appends-trans}
use Rattle.std.proofs.lemmas.List.Elements.{filter-append}
use Rattle.std.proofs.lemmas.List.Folds.{list_all-append}
use Rattle.up_lines.specs.declared.progress.Progress.{Progress}
use Rattle.up_lines.specs.Lines.{newline, most_lines, most_line_bytes, most_together, piece_bytes, lines_of, is_short, fits, has_bytes, asked}
use Rattle.up_lines.specs.declared.fault.ScriptCause.{ScriptCause}
use Rattle.up_lines.specs.declared.fault.ScriptCause.TheVariants.{Memory, Read, Write, TooLong}
use Rattle.up_lines.specs.Runs.{At, Composes}
use Rattle.up_lines.specs.LineRuns.{Gives, AreFirst, Breaks, IsBeforeLines, Stopped, Tells}
use Rattle.up_lines.specs.Together.{Unanswered}
use Rattle.up_lines.specs.Progress.{Sofar, BreaksOff, FailsLines, Grows, Refuses, Takes, Stops, is_inside}
use Rattle.up_lines.proofs.Cuts.{both_hold, lines-line, lines-last_one, lines-begins, lines-prefix, lines-some}
use Rattle.up_lines.proofs.Later.{whole_first}
use Rattle.up_lines.proofs.RunLaws.{has_bytes-long, is_short-le, is_short-gt, filter-first, asked_among, asked-append, asked_none, as_many, fits-many, fits-long, printed-append}
use Rattle.up_lines.proofs.Steps.{within_grown}

-- these bytes pass a limit, behind these whole lines
record Past (came bytes : List ℕ) (whole : List (List ℕ)) : Type 0 where
  past : (more : List ℕ) → fits (lines_of true (came ++ (bytes ++ more))) ≡ false
  settled : (ended : Bool) (more : List ℕ) → asked (lines_of ended (came ++ (bytes ++ more))) ≡ filter has_bytes whole

-- where one line more is to be answered at the input's end
untold_last : (came : List ℕ) (done rest : List (List ℕ)) (line : List ℕ) → asked (lines_of true came) ≡ done ++ line ∷ rest → done ≢ asked (lines_of true came)
untold_last came done rest line split = λ all.
    let same : length done ≡ length (done ++ line ∷ rest) = ap length (all ∙ split) in
    omega (arith, same, length-append done (line ∷ rest))

-- or before it
pub untold_next : (came : List ℕ) (ended : Bool) (done rest : List (List ℕ)) (line : List ℕ) → asked (lines_of ended came) ≡ done ++ line ∷ rest → done ≢ asked (lines_of true came)
untold_next came true done rest line split = untold_last came done rest line split
untold_next came false done rest line split =
    let (others, is) = whole_first came [] in
    untold_last came done (rest ++ others) line
    (ap (λ l. asked (lines_of true l)) (sym (append-nil came)) ∙ is ∙ ap (λ l. l ++ others) split ∙ append_assoc done (line ∷ rest) others)

regroup : (a b c d e : List (List ℕ)) → (a ++ (b ++ (c ++ d))) ++ e ≡ ((a ++ b) ++ c) ++ (d ++ e)
regroup a b c d e =
    ap (λ l. l ++ e) (sym (append_assoc a b (c ++ d)) ∙ sym (append_assoc (a ++ b) c d)) ∙ append_assoc ((a ++ b) ++ c) d e

none_of : (lines : List (List ℕ)) → length lines ≡ 0 → lines ≡ []
none_of [] h = refl
none_of (line ∷ lines) h = absurd (omega arith)

-- no memory for the first byte of the first line
abbrev IsRoomless : List ℕ → Progress → Type 0
IsRoomless part at = (0 < length part) × (length part ≤ most_line_bytes) × (at.counted < most_lines) × (at.line.items ≡ []) × (at.answered ≡ 0)

module _ {S : Type 0} (gives : Gives S) (laws : Composes gives) where
  -- the whole lines are answered, and this became of the next one
  pub stopped : (cause : ScriptCause) (came : List ℕ) (ended : Bool) (bytes : List ℕ) (first : At S) (at : Progress) (before : At S) (so : Sofar gives first came at before)
      → (next : List (List ℕ)) (answered : ℕ) (after : At S) → AreFirst (asked (lines_of ended bytes)) (filter has_bytes so.whole) next
      → Tells cause bytes ended (filter has_bytes so.whole) next
      → (prefix : List ℕ) × Breaks gives cause next before.state after.state prefix × Appends before.held after.held prefix → answered ≡ at.answered
      → Stopped gives bytes ended (record { cause = cause; lines = answered }) first after
  stopped cause came ended bytes first at before so next answered after split tells (prefix, breaks, wrote) same = record {
    done = filter has_bytes so.whole;
    next = next;
    answers = so.answers;
    last = before.state;
    prefix = prefix;
    first_ones = (split, tells);
    run = so.run;
    breaks = breaks;
    answered_is = same ∙ so.answered_is;
    wrote = Appends-trans _ _ _ _ _ so.wrote wrote;
  }

  -- nothing is handed on
  pub breaks_none : (cause : ScriptCause) (now : At S) → (cause ≡ Write → ⊥) → (prefix : List ℕ) × Breaks gives cause [] now.state now.state prefix × Appends now.held now.held prefix
  breaks_none cause now other = ([], (other, refl, refl), Appends-nil now.held)

  -- nothing is taken of bytes that pass a limit
  stops_past : (first : At S) (came : List ℕ) (old new : Progress) (bytes more : List ℕ) (now : At S) (so : Sofar gives first came old now) → Past came bytes so.whole
      → new.answered ≡ old.answered → Stopped gives (came ++ (bytes ++ more)) false (record { cause = TooLong; lines = new.answered }) first now
  stops_past first came old new bytes more now so h answered =
      stopped TooLong came false (came ++ (bytes ++ more)) first old now so [] new.answered now ([], h.settled false more ∙ sym (append-nil (filter has_bytes so.whole)) ∙ sym (append-nil (filter has_bytes so.whole ++ [])), omega arith) (
        λ others. let same : (came ++ (bytes ++ more)) ++ others ≡ came ++ (bytes ++ (more ++ others)) = append_assoc came (bytes ++ more) others ∙ ap (λ l. came ++ l) (append_assoc bytes more others) in (
          ap (λ l. fits (lines_of true l)) same ∙ h.past (more ++ others),
          ap (λ l. asked (lines_of true l)) same ∙ h.settled true (more ++ others) ∙ sym (h.settled false more),
        ),
        sym (h.settled false more),
      ) (breaks_none TooLong now (λ e. absurd (cc))) answered

  -- nothing is taken past the last line
  pub stops_many : (old new : Progress) (bytes more : List ℕ) (now : At S) → 0 < length bytes → old.counted ≡ most_lines → new.answered ≡ old.answered
      → Stops gives TooLong false (bytes ++ more) old now new now
  stops_many old new bytes more now some full answered = λ first came so small.
      let all : length so.whole ≡ most_lines = omega (arith, so.counted_is) in
      let none : most_lines - length so.whole ≡ 0 = omega (arith, all) in
      let within : length so.whole ≤ most_lines = omega (arith, all) in
      stops_past first came old new bytes more now so (record {
        past = λ rest.
            ap fits (so.cut true (bytes ++ rest) ∙ ap (λ l. so.whole ++ lines_of true (l ++ (bytes ++ rest))) (so.none_past full))
            ∙ fits-many so.whole (lines_of true (bytes ++ rest)) all (lines-some (bytes ++ rest) (omega (arith, length-append bytes rest)));
        settled = λ ended rest.
            ap asked (so.cut ended (bytes ++ rest)) ∙ asked-append so.whole (lines_of ended (old.line.items ++ (bytes ++ rest))) so.each_short within
            ∙ ap (λ n. filter has_bytes so.whole ++ asked_among n (lines_of ended (old.line.items ++ (bytes ++ rest)))) none ∙ append-nil (filter has_bytes so.whole);
      }) answered

  -- nothing is taken of a part with which the line is too long
  stops_long : (old new : Progress) (part more : List ℕ) (now : At S) → most_line_bytes < length (old.line.items ++ part) → list_all is_inside part ≡ true → new.answered ≡ old.answered
      → Stops gives TooLong false (part ++ more) old now new now
  stops_long old new part more now past own answered = λ first came so small.
      let line = old.line.items in
      let own' : list_all is_inside (line ++ part) ≡ true = list_all-append is_inside line part ∙ ap (λ t. t && list_all is_inside part) so.own_bytes ∙ own in
      let some : 0 < length (line ++ part) = omega arith in
      let long : (rest : List ℕ) → is_short ((line ++ part) ++ rest) ≡ false = (λ rest. is_short-gt _ (omega (arith, length-append (line ++ part) rest))) in
      let within : length so.whole ≤ most_lines = omega (arith, so.counted_is, so.few) in
      stops_past first came old new part more now so (record {
        past = λ rest. let prefix = lines-prefix (line ++ part) rest own' some in
            ap fits (so.cut true (part ++ rest) ∙ ap (λ l. so.whole ++ l) (ap (lines_of true) (sym (append_assoc line part rest)) ∙ prefix.is)) ∙ fits-long so.whole _ prefix.others (long prefix.rest);
        settled = λ ended rest.
            ap asked (so.cut ended (part ++ rest) ∙ ap (λ l. so.whole ++ lines_of ended l) (sym (append_assoc line part rest)))
            ∙ asked-append so.whole (lines_of ended ((line ++ part) ++ rest)) so.each_short within
            ∙ ap (λ l. filter has_bytes so.whole ++ l) (asked_none (most_lines - length so.whole) (line ++ part) _ long (lines-begins ended (line ++ part) rest own' some))
            ∙ append-nil (filter has_bytes so.whole);
      }) answered

  -- what is answered of bytes behind the whole lines
  abbrev behind : List (List ℕ) → List ℕ → List (List ℕ)
  behind whole more = asked_among (most_lines - length whole) (lines_of false more)

  -- before the first byte of the first line no line was handed on
  before_lines : (first : At S) (came : List ℕ) (at : Progress) (now : At S) (so : Sofar gives first came at now) (bytes : List ℕ) → at.line.items ≡ [] → at.answered ≡ 0
      → length bytes ≤ piece_bytes → IsBeforeLines (came ++ bytes) false (filter has_bytes so.whole)
  before_lines first came at now so bytes empty none small =
      let no_line : filter has_bytes so.whole ≡ [] =
      none_of (filter has_bytes so.whole) (omega (arith, none, so.answered_is, as_many gives laws first.state now.state (filter has_bytes so.whole) so.answers so.run)) in (
        no_line,
        record {
          before = came;
          piece = bytes;
          came_is = refl;
          small = small;
          none_at_end = λ h. absurd (cc);
          wanted =
              ap (λ l. filter has_bytes (lines_of true l)) (sym (append-nil came)) ∙ ap (filter has_bytes) (so.cut true [])
              ∙ ap (λ l. filter has_bytes (so.whole ++ lines_of true (l ++ []))) empty ∙ ap (filter has_bytes) (append-nil so.whole) ∙ no_line;
        },
      )

  -- no memory for the first bytes
  pub stops_memory : (old new : Progress) (bytes : List ℕ) (now : At S) → new.answered ≡ old.answered → old.line.items ≡ [] → old.answered ≡ 0
      → ((first : At S) (came : List ℕ) (so : Sofar gives first came old now) → filter has_bytes so.whole ≢ asked (lines_of true (came ++ bytes)))
      → Stops gives Memory false bytes old now new now
  stops_memory old new bytes now same empty none untold = λ first came so small.
      stopped Memory came false (came ++ bytes) first old now so [] new.answered now (
        behind so.whole (old.line.items ++ bytes),
        ap asked (so.cut false bytes) ∙ asked-append so.whole (lines_of false (old.line.items ++ bytes)) so.each_short (omega (arith, so.counted_is, so.few))
            ∙ ap (λ l. l ++ behind so.whole (old.line.items ++ bytes)) (sym (append-nil (filter has_bytes so.whole))),
        omega arith,
      )
      (untold first came so, λ _. before_lines first came old now so bytes empty none small) (breaks_none Memory now (λ e. absurd (cc))) same

  -- the line that is begun is the next to be answered
  split_end : (whole : List (List ℕ)) (line more : List ℕ) → list_all is_short whole ≡ true → length whole < most_lines → length line ≤ most_line_bytes
      → list_all is_inside line ≡ true → has_bytes line ≡ true
      → asked (whole ++ lines_of false (line ++ newline ∷ more)) ≡ filter has_bytes whole ++ line ∷ behind (whole ++ line ∷ []) more
  split_end whole line more each room short own some =
      let added : list_all is_short (whole ++ line ∷ []) ≡ true =
      list_all-append is_short whole (line ∷ []) ∙ ap (λ t. t && (is_short line && true)) each ∙ ap (λ t. t && true) (is_short-le line short) in
      ap (λ l. asked (whole ++ l)) (lines-line false line more own)
      ∙ ap asked (sym (append_assoc whole (line ∷ []) (lines_of false more)))
      ∙ asked-append (whole ++ line ∷ []) (lines_of false more) added (omega (arith, length-append whole (line ∷ [])))
      ∙ ap (λ l. l ++ behind (whole ++ line ∷ []) more) (filter-append has_bytes whole (line ∷ []) ∙ ap (λ l. filter has_bytes whole ++ l) (filter-first line [] some))
      ∙ append_assoc (filter has_bytes whole) (line ∷ []) (behind (whole ++ line ∷ []) more)

  own_line : (first : At S) (came : List ℕ) (at : Progress) (now : At S) → Sofar gives first came at now → (part : List ℕ) → list_all is_inside part ≡ true
      → list_all is_inside (at.line.items ++ part) ≡ true
  own_line first came at now so part own = list_all-append is_inside at.line.items part ∙ ap (λ t. t && list_all is_inside part) so.own_bytes ∙ own

  -- a part of a line is refused that is within the limits, and its newline stands behind it
  untold_line : (old : Progress) (part more : List ℕ) (now : At S) → list_all is_inside part ≡ true → IsRoomless part old
      → (first : At S) (came : List ℕ) (so : Sofar gives first came old now) → filter has_bytes so.whole ≢ asked (lines_of true (came ++ (part ++ newline ∷ more)))
  untold_line old part more now own (some, short, room, empty, none) first came so =
      let line = old.line.items in
      let longer : length (line ++ part) ≡ length part = omega (arith, ap length empty, length-append line part) in
      untold_next (came ++ (part ++ newline ∷ more)) false (filter has_bytes so.whole) (behind (so.whole ++ (line ++ part) ∷ []) more) (line ++ part) (
      ap asked (so.cut false (part ++ newline ∷ more) ∙ ap (λ l. so.whole ++ lines_of false l) (sym (append_assoc line part (newline ∷ more))))
      ∙ split_end so.whole (line ++ part) more so.each_short (omega (arith, so.counted_is)) (omega (arith, longer, short)) (own_line first came old now so part own)
      (has_bytes-long (line ++ part) (omega (arith, longer)))
      )

  -- or the line that is begun ends with what came
  untold_rest : (old : Progress) (part : List ℕ) (now : At S) → list_all is_inside part ≡ true → IsRoomless part old
      → (first : At S) (came : List ℕ) (so : Sofar gives first came old now) → filter has_bytes so.whole ≢ asked (lines_of true (came ++ (part ++ [])))
  untold_rest old part now own (some, short, room, empty, none) first came so =
      let line = old.line.items in
      let same : length (line ++ part) ≡ length part = omega (arith, ap length empty, length-append line part) in
      let longer : 0 < length (line ++ part) = omega (arith, same) in
      let own' = own_line first came old now so part own in
      untold_last (came ++ (part ++ [])) (filter has_bytes so.whole) (behind (so.whole ++ (line ++ part) ∷ []) []) (line ++ part) (
      ap asked (so.cut true (part ++ []) ∙ ap (λ l. so.whole ++ lines_of true (line ++ l)) (append-nil part)
      ∙ ap (λ l. so.whole ++ l) (lines-last_one (line ++ part) own' longer ∙ sym (lines-line false (line ++ part) [] own')))
      ∙ split_end so.whole (line ++ part) [] so.each_short (omega (arith, so.counted_is)) (omega (arith, same, short)) own' (has_bytes-long (line ++ part) longer)
      )

  -- a piece isn't taken, whose first line is refused
  stops_part : (cause : ScriptCause) (old new : Progress) (piece : List ℕ) (now : At S) → new.answered ≡ old.answered → Refuses cause piece old → Stops gives cause false piece old now new now
  stops_part Memory old new piece now answered (p, some, short, room, empty, none) = by_end p.rest p.piece_is p.ends
    where
      Untold : List ℕ → Type 0
      Untold bytes = (first : At S) (came : List ℕ) (so : Sofar gives first came old now) → filter has_bytes so.whole ≢ asked (lines_of true (came ++ bytes))

      by_end : (rest : List ℕ) → piece ≡ p.part ++ rest → (rest ≡ []) ⊎ ((more : List ℕ) × (rest ≡ newline ∷ more)) → Stops gives Memory false piece old now new now
      by_end rest is (inl last) =
          stops_memory old new piece now answered empty none (subst Untold (sym (is ∙ ap (λ l. p.part ++ l) last)) (untold_rest old p.part now p.own (some, short, room, empty, none)))
      by_end rest is (inr (more, ends)) =
          stops_memory old new piece now answered empty none (subst Untold (sym (is ∙ ap (λ l. p.part ++ l) ends)) (untold_line old p.part more now p.own (some, short, room, empty, none)))
  stops_part TooLong old new piece now answered (inl (some, full)) =
      subst (λ l. Stops gives TooLong false l old now new now) (append-nil piece) (stops_many old new piece [] now some full answered)
  stops_part TooLong old new piece now answered (inr (p, past)) =
      subst (λ l. Stops gives TooLong false l old now new now) (sym p.piece_is) (stops_long old new p.part p.rest now past p.own answered)
  stops_part Read old new piece now answered h = absurd h
  stops_part Write old new piece now answered h = absurd h

  -- a line that isn't answered whole, with others behind it
  pub stops_at : (cause : ScriptCause) (came : List ℕ) (ended : Bool) (bytes : List ℕ) (first : At S) (old new : Progress) (before after : At S) (so : Sofar gives first came old before)
      → (rest : List (List ℕ)) → asked (lines_of ended bytes) ≡ filter has_bytes so.whole ++ old.line.items ∷ rest → new.answered ≡ old.answered
      → Unanswered gives cause (old.line.items ∷ []) before after → Stopped gives bytes ended (record { cause = cause; lines = new.answered }) first after
  stops_at cause came ended bytes first old new before after so rest split same (inl memory, broke) =
      stopped cause came ended bytes first old before so (old.line.items ∷ []) new.answered after (rest, split ∙ sym (append_assoc (filter has_bytes so.whole) (old.line.items ∷ []) rest), omega arith)
      (subst (λ c. Tells c bytes ended (filter has_bytes so.whole) (old.line.items ∷ [])) (sym memory)
      (untold_next bytes ended _ rest old.line.items split, λ none. absurd (let it : 1 ≡ 0 = ap length none in omega (arith, it)))) broke same
  stops_at cause came ended bytes first old new before after so rest split same (inr write, broke) =
      stopped cause came ended bytes first old before so (old.line.items ∷ []) new.answered after (rest, split ∙ sym (append_assoc (filter has_bytes so.whole) (old.line.items ∷ []) rest), omega arith)
      (subst (λ c. Tells c bytes ended (filter has_bytes so.whole) (old.line.items ∷ [])) (sym write) tt) broke same

  -- the line that a newline ends is the next to be answered
  pub ended_next : (came : List ℕ) (first : At S) (old : Progress) (before : At S) (so : Sofar gives first came old before) (more : List ℕ) → old.counted < most_lines → has_bytes old.line.items ≡ true
      → asked (lines_of false (came ++ newline ∷ more)) ≡ filter has_bytes so.whole ++ old.line.items ∷ behind (so.whole ++ old.line.items ∷ []) more
  ended_next came first old before so more room some =
      ap asked (so.cut false (newline ∷ more)) ∙ split_end so.whole old.line.items more so.each_short (omega (arith, so.counted_is)) so.short so.own_bytes some

  -- bytes taken, and then not all of the others
  pub stops_after : (xs ys : List ℕ) (cause : ScriptCause) (ended : Bool) (old mid new : Progress) (before between after : At S) → Takes gives xs old before mid between → Stops gives cause ended ys mid between new after
      → Stops gives cause ended (xs ++ ys) old before new after
  stops_after xs ys cause ended old mid new before between after p q = λ first came so small.
      subst (λ l. Stopped gives l ended (record { cause = cause; lines = new.answered }) first after) (append_assoc came xs ys)
      (q first (came ++ xs) (p first came so) (omega (arith, small, length-append xs ys)))

  -- the front of a piece is taken, and not all of the rest
  stops_in : (front rest piece : List ℕ) (cause : ScriptCause) (old mid new : Progress) (before between after : At S) → piece ≡ front ++ rest → Takes gives front old before mid between
      → Stops gives cause false rest mid between new after → Stops gives cause false piece old before new after
  stops_in front rest piece cause old mid new before between after is p q =
      subst (λ l. Stops gives cause false l old before new after) (sym is) (stops_after front rest cause false old mid new before between after p q)

  -- behind empty lines a piece isn't taken
  pub stops_rest : (front rest piece : List ℕ) (cause : ScriptCause) (old mid new : Progress) (before now : At S) → piece ≡ front ++ rest
      → Takes gives front old before mid now → (new.answered ≡ mid.answered) × Refuses cause rest mid → Stops gives cause false piece old before new now
  stops_rest front rest piece cause old mid new before now is p (answered, why) =
      stops_in front rest piece cause old mid new before now now is p (stops_part cause mid new rest now answered why)

  -- ---- among lines that are whole

  -- lines stand behind the last one
  pub breaks_many : (at new : Progress) (now : At S) → 0 < length at.line.items → at.counted ≡ most_lines → new.answered ≡ at.answered → BreaksOff gives TooLong at now new now
  breaks_many at new now some full same = λ first came w.
      let bytes = at.line.items in
      let all : length w.whole ≡ most_lines = omega (arith, w.counted_is, full) in
      let none : most_lines - length w.whole ≡ 0 = omega (arith, all) in
      let within : length w.whole ≤ most_lines = omega (arith, all) in
      let settled : (ended : Bool) (more : List ℕ) → asked (lines_of ended (came ++ more)) ≡ filter has_bytes w.whole =
      (λ ended more. ap asked (w.cut ended more) ∙ asked-append w.whole (lines_of ended (bytes ++ more)) w.each_short within
      ∙ ap (λ n. filter has_bytes w.whole ++ asked_among n (lines_of ended (bytes ++ more))) none ∙ append-nil (filter has_bytes w.whole)) in
      let now_is : asked (lines_of false came) ≡ filter has_bytes w.whole = ap (λ l. asked (lines_of false l)) (sym (append-nil came)) ∙ settled false [] in
      record {
        done = filter has_bytes w.whole;
        next = [];
        answers = w.answers;
        last = now.state;
        prefix = [];
        first_ones = (
          ([], now_is ∙ sym (append-nil (filter has_bytes w.whole)) ∙ sym (append-nil (filter has_bytes w.whole ++ [])), omega arith),
          (
            (λ more. (
              ap fits (w.cut true more) ∙ fits-many w.whole (lines_of true (bytes ++ more)) all (lines-some (bytes ++ more) (omega (arith, some, length-append bytes more))),
              settled true more ∙ sym now_is,
            )),
            sym now_is,
          ),
        );
        run = w.run;
        breaks = (λ e. absurd (cc), refl, refl);
        answered_is = same ∙ w.answered_is;
        wrote = Appends-trans _ _ _ _ _ w.wrote (Appends-nil now.held);
      }

  -- some lines aren't answered whole
  breaks_at : (came : List ℕ) (cause : ScriptCause) (done next others : List (List ℕ)) → asked (lines_of false came) ≡ (done ++ next) ++ others → next ≢ [] → (cause ≡ Memory) ⊎ (cause ≡ Write) → Tells cause came false done next
  breaks_at came cause done [] others split some which = absurd (some refl)
  breaks_at came cause done (line ∷ next) others split some (inl memory) = subst (λ c. Tells c came false done (line ∷ next)) (sym memory)
      (untold_next came false done (next ++ others) line (split ∙ append_assoc done (line ∷ next) others), λ none. absurd (some none))
  breaks_at came cause done (line ∷ next) others split some (inr write) = subst (λ c. Tells c came false done (line ∷ next)) (sym write) tt

  pub breaks_lines : (cause : ScriptCause) (old new : Progress) (before after : At S) → FailsLines gives cause old before new after → BreaksOff gives cause old before new after
  breaks_lines cause old new before after fails = λ first came w.
      let h = fails.halts in
      let lines = fails.lines in
      let all : lines_of true (fails.front ++ fails.rest) ≡ lines ++ lines_of true fails.rest = fails.are_lines.cut true fails.rest in
      let each : list_all is_short lines ≡ true =
      (both_hold (list_all is_short lines) (list_all is_short (lines_of true fails.rest))
      (sym (list_all-append is_short lines (lines_of true fails.rest)) ∙ ap (list_all is_short) (sym all) ∙ ap (λ l. list_all is_short (lines_of true l)) (sym fails.bytes_are) ∙ w.short)).0 in
      let each_short : list_all is_short (w.whole ++ lines) ≡ true = list_all-append is_short w.whole lines ∙ ap (λ t. t && list_all is_short lines) w.each_short ∙ each in
      let behind_them = asked_among (most_lines - length (w.whole ++ lines)) (lines_of false fails.rest) in
      let first_all : asked (lines_of false came) ≡ (filter has_bytes w.whole ++ (h.done ++ (h.them.next ++ h.them.others))) ++ behind_them =
      ap (λ l. asked (lines_of false l)) (sym (append-nil came)) ∙ ap asked (w.cut false [])
      ∙ ap (λ l. asked (w.whole ++ l)) (ap (lines_of false) (append-nil old.line.items ∙ fails.bytes_are) ∙ fails.are_lines.cut false fails.rest)
      ∙ ap asked (sym (append_assoc w.whole lines (lines_of false fails.rest)))
      ∙ asked-append (w.whole ++ lines) (lines_of false fails.rest) each_short (omega (arith, fails.few, w.counted_is, length-append w.whole lines))
      ∙ ap (λ l. l ++ behind_them) (filter-append has_bytes w.whole lines ∙ ap (λ l. filter has_bytes w.whole ++ l) (h.lines_are ∙ ap (λ l. h.done ++ l) h.them.lines_are)) in
      let fit : length h.them.next ≤ most_together =
      omega (arith, fails.fit, ap length h.lines_are, length-append h.done h.rest, ap length h.them.lines_are, length-append h.them.next h.them.others) in
      let split : asked (lines_of false came) ≡ ((filter has_bytes w.whole ++ h.done) ++ h.them.next) ++ (h.them.others ++ behind_them) =
      first_all ∙ regroup (filter has_bytes w.whole) h.done h.them.next h.them.others behind_them in
      record {
        done = filter has_bytes w.whole ++ h.done;
        next = h.them.next;
        answers = w.answers ++ h.texts;
        last = h.mid.state;
        prefix = h.unanswered.1.0;
        first_ones = ((h.them.others ++ behind_them, split, fit), breaks_at came cause (filter has_bytes w.whole ++ h.done) h.them.next (h.them.others ++ behind_them) split h.them.some h.unanswered.0);
        run = laws.both first.state before.state h.mid.state (filter has_bytes w.whole) h.done w.answers h.texts w.run h.run;
        breaks = h.unanswered.1.1;
        answered_is = omega (arith, fails.answered_is, w.answered_is, h.answered_is, length-append w.answers h.texts);
        wrote = Appends-trans _ _ _ _ _ (subst (Appends first.held h.mid.held) (sym (printed-append w.answers h.texts)) (Appends-trans _ _ _ _ _ w.wrote h.wrote)) h.unanswered.1.2;
      }

  -- empty lines, then a piece behind the line that is begun, and not all whole lines
  pub stops_piece : (cause : ScriptCause) (front rest piece : List ℕ) (old mid grown new : Progress) (before after : At S) → piece ≡ front ++ rest
      → Takes gives front old before mid before → Grows rest mid grown → BreaksOff gives cause grown before new after → Stops gives cause false piece old before new after
  stops_piece cause front rest piece old mid grown new before after is taken grows breaks = λ first came so small.
      subst (λ l. Stopped gives l false (record { cause = cause; lines = new.answered }) first after) (append_assoc came front rest ∙ ap (λ l. came ++ l) (sym is))
      (breaks first ((came ++ front) ++ rest)
      (within_grown gives laws rest mid grown before (omega (arith, small, ap length is, length-append front rest)) grows first (came ++ front) (taken first came so)))
