-- Lines that are handed on together, and what became of them.
use Rattle.std.proofs.Common.{IsErrAnd, ◌≡◌, ◌≢◌, inl, inr, ℕ, zero, suc, ◌+◌, ◌-◌, ◌<◌, ◌≤◌, Bool, true, false, cond, List, [], ◌∷◌, ◌++◌, length, take, drop, take-append-drop, filter, refl, ap, sym, ◌∙◌, subst, arith, append_assoc, append-nil, length-append, Result, Err}
use Rattle.std.specs.Prelude.{Option}
use Rattle.std.specs.Borrow.{Bor}
use Rattle.std.specs.List.{list_all}
use Rattle.std.specs.Io.KnownBytes.{Appends}
use Rattle.std.proofs.KnownBytes.{Appends-nil}
use Rattle.std.proofs.lemmas.Bool.{leb-true}
use Rattle.std.proofs.lemmas.List.{length-take-le, take_rest}
use Rattle.std.proofs.lemmas.Result.{err_from_is_err_and}
use Rattle.std.proofs.lemmas.List.Folds.{list_all-append}
use Rattle.up_lines.specs.declared.fault.ScriptCause.{ScriptCause}
use Rattle.up_lines.specs.declared.fault.ScriptCause.TheVariants.{Memory, Write}
use Rattle.up_lines.specs.Lines.{newline, most_line_bytes, most_together, lines_of, is_short, has_bytes}
use Rattle.up_lines.specs.Progress.{is_inside}
use Rattle.up_lines.specs.LineRuns.{Breaks, Gives, print}
use Rattle.up_lines.specs.Runs.{At, BlamesWriter, Composes, IsCut, written}
use Rattle.up_pieces.specs.Prefixes.{IsProperPrefix}
use Rattle.up_lines.specs.Together.{AnswersSome, AnswersUntold, AreCut, AreLines, AreSome, Halts, Unanswered, WritesAll, WritesEach, WritesSome, bytes_of}
use Rattle.up_lines.proofs.Cuts.{both_hold, lines-line}

pub length-bytes_of : (slices : List (Bor (List ℕ))) → length (bytes_of slices) ≡ length slices
length-bytes_of [] = refl
length-bytes_of (s ∷ slices) = ap suc (length-bytes_of slices)

bytes_of-drop : (n : ℕ) (slices : List (Bor (List ℕ))) → bytes_of (drop n slices) ≡ drop n (bytes_of slices)
bytes_of-drop zero slices = refl
bytes_of-drop (suc n) [] = refl
bytes_of-drop (suc n) (s ∷ slices) = bytes_of-drop n slices

-- those behind the first so many
pub split_bytes : (n : ℕ) (slices : List (Bor (List ℕ))) → bytes_of slices ≡ take n (bytes_of slices) ++ bytes_of (take (length slices - n) (drop n slices))
split_bytes n slices =
    sym (take-append-drop n (bytes_of slices)) ∙ ap (λ l. take n (bytes_of slices) ++ l) (sym (bytes_of-drop n slices) ∙ ap bytes_of (sym (take_rest slices n)))

pub rest_length : (n : ℕ) (slices : List (Bor (List ℕ))) → n ≤ length (bytes_of slices) → n + length (take (length slices - n) (drop n slices)) ≡ length slices
rest_length n slices within =
    let rest = take (length slices - n) (drop n slices) in
    omega (arith, ap length (split_bytes n slices), length-append (take n (bytes_of slices)) (bytes_of rest), length-take-le n (bytes_of slices) within, length-bytes_of slices, length-bytes_of rest)

pub fewer_left : {A : Type 0} (n : ℕ) (bytes left : List A) → left ≡ drop n bytes → 0 < n → 0 < length bytes → length left < length bytes
fewer_left n bytes left is some full =
    let same : length bytes ≡ length (take n bytes) + length (drop n bytes) = ap length (sym (take-append-drop n bytes)) ∙ length-append (take n bytes) (drop n bytes) in
    let first : 0 < length (take n bytes) = taken_some n bytes some full in
    omega (arith, same, first, ap length is)
  where
    taken_some : {A : Type 0} (n : ℕ) (bytes : List A) → 0 < n → 0 < length bytes → 0 < length (take n bytes)
    taken_some zero bytes some full = absurd (omega arith)
    taken_some (suc n) [] some full = absurd (omega arith)
    taken_some (suc n) (b ∷ bs) some full = omega arith

pub drop_front : {A : Type 0} (front rest : List A) → drop (length front) (front ++ rest) ≡ rest
drop_front [] rest = refl
drop_front (x ∷ front) rest = drop_front front rest

pub filter_fewer : {A : Type 0} (p : A → Bool) (xs : List A) → length (filter p xs) ≤ length xs
filter_fewer p [] = omega arith
filter_fewer p (x ∷ xs) =
    let rest = filter_fewer p xs in
    elim (p x) as (λ t. length (cond t (x ∷ filter p xs) (filter p xs)) ≤ suc (length xs)) [ true ↦ omega (arith, rest) | false ↦ omega (arith, rest) ]

take_some : (n : ℕ) (lines : List (List ℕ)) → 0 < n → n ≤ length lines → take n lines ≢ []
take_some zero lines some within is = absurd (omega arith)
take_some (suc n) [] some within is = absurd (omega arith)
take_some (suc n) (line ∷ lines) some within is = absurd (let no : suc (length (take n lines)) ≡ 0 = ap length is in omega (arith, no))

-- the first of one are that one
pub one_some : (line : List ℕ) (them : AreSome (line ∷ [])) → them.next ≡ line ∷ []
one_some line them = by_next them.next them.others them.lines_are them.some
  where
    by_next : (next others : List (List ℕ)) → line ∷ [] ≡ next ++ others → next ≢ [] → next ≡ line ∷ []
    by_next [] others is some = absurd (some refl)
    by_next (x ∷ []) others is some = ap (λ l. l ∷ []) (let same : line ∷ [] ≡ x ∷ others = is in let x_is : x ≡ line = cc in x_is)
    by_next (x ∷ y ∷ next) others is some = absurd (let no : 1 ≡ suc (suc (length (next ++ others))) = ap length is in omega (arith, no))

module _ {S : Type 0} (gives : Gives S) where
  breaks_of : (cause : ScriptCause) (next texts : List (List ℕ)) (old new : S) (prefix : List ℕ) → next ≢ [] → gives old next texts new → IsCut cause prefix (written print texts)
      → Breaks gives cause next old new prefix
  breaks_of cause [] texts old new prefix some gave cut = absurd (some refl)
  breaks_of cause (line ∷ next) texts old new prefix some gave cut = (texts, gave, cut)

  -- memory was refused
  pub some_untold : (lines : List (List ℕ)) (old new : S) (held : Option (List ℕ)) (failed can_write : Type 0) → AnswersUntold gives old lines new → can_write
      → WritesSome gives lines (record { state = old; held = held }) (record { state = new; held = held }) failed can_write (Err Memory)
  some_untold lines old new held failed can_write (them, texts, gave) can = record {
    ok = tt;
    err = (them, (inl refl, ([], breaks_of Memory them.next texts old new [] them.some gave refl, Appends-nil held)));
    goes_on = tt;
    blames = (tt, can);
  }

  -- the writer failed
  pub some_cut : (lines : List (List ℕ)) (n : ℕ) (old new : S) (before after : Option (List ℕ)) (held text slice : List ℕ) (failed can_write : Type 0) → held ≡ [] → slice ≡ text
      → AnswersSome gives old lines n held text new → (prefix : List ℕ) × IsProperPrefix prefix slice × Appends before after prefix → failed
      → WritesSome gives lines (record { state = old; held = before }) (record { state = new; held = after }) failed can_write (Err Write)
  some_cut lines n old new before after held text slice failed can_write none same answers (prefix, part, wrote) fails =
      let them : AreSome lines =
      (record { next = take n lines; others = drop n lines; lines_are = sym (take-append-drop n lines); some = take_some n lines answers.some answers.within }) in
      let whole : slice ≡ written print answers.texts = same ∙ answers.appended ∙ ap (λ l. l ++ written print answers.texts) none in
      record {
        ok = tt;
        err = (them, (inr refl, (prefix, breaks_of Write (take n lines) answers.texts old new prefix them.some answers.given (subst (IsProperPrefix prefix) whole part), wrote)));
        goes_on = tt;
        blames = (tt, fails);
      }

  -- one line isn't answered whole
  pub line_fails : (cause : ScriptCause) (line slice : List ℕ) (before after : At S) → slice ≡ line → (them : AreSome (slice ∷ [])) × Unanswered gives cause them.next before after
      → Unanswered gives cause (line ∷ []) before after
  line_fails cause line slice before after same (them, un) =
      subst (λ l. Unanswered gives cause (l ∷ []) before after) same (subst (λ l. Unanswered gives cause l before after) (one_some slice them) un)

module _ {S : Type 0} (gives : Gives S) (laws : Composes gives) where
  -- the lines so far, and then not all of those that are left
  pub halts_behind : (cause : ScriptCause) (lines done rest texts : List (List ℕ)) (answered : ℕ) (old mid new : At S) → lines ≡ done ++ rest → gives old.state done texts mid.state
      → Appends old.held mid.held (written print texts) → answered ≡ length texts → (them : AreSome rest) × Unanswered gives cause them.next mid new → Halts gives cause lines answered old new
  halts_behind cause lines done rest texts answered old mid new is run wrote answered_is (them, unanswered) = record {
    done = done;
    rest = rest;
    lines_are = is;
    them = them;
    texts = texts;
    mid = mid;
    run = run;
    wrote = wrote;
    answered_is = answered_is;
    unanswered = unanswered;
  }

  -- all of them
  pub all_written : (lines done rest texts : List (List ℕ)) (answered : ℕ) (old new : At S) → lines ≡ done ++ rest → length rest ≡ 0 → gives old.state done texts new.state
      → Appends old.held new.held (written print texts) → answered ≡ length texts → WritesAll gives lines answered old new
  all_written lines done [] texts answered old new is none run wrote answered_is = record {
    texts = texts;
    run = subst (λ l. gives old.state l texts new.state) (sym (is ∙ append-nil done)) run;
    wrote = wrote;
    answered_is = answered_is;
  }
  all_written lines done (x ∷ rest) texts answered old new is none run wrote answered_is = absurd (omega arith)

  -- where the exit of a `?` ends it
  pub each_ends : (lines : List (List ℕ)) (answered : ℕ) (old new : At S) (failed can_write : Type 0) (r : Result (Unit {0}) ScriptCause) (cause : ScriptCause) → IsErrAnd r (λ x. x ≡ cause)
      → Halts gives cause lines answered old new → answered ≤ length lines → BlamesWriter cause failed can_write → WritesEach gives lines answered old new failed can_write r
  each_ends lines answered old new failed can_write r cause h halts few blames =
      let (x, is, same) = err_from_is_err_and r h in
      subst (WritesEach gives lines answered old new failed can_write) (sym (is ∙ ap Err same)) (record { ok = tt; err = halts; few = few; goes_on = tt; blames = blames })

-- ---- lines that are cut

pub are_cut : (bytes rest front : List ℕ) (most taken counted some : ℕ) (slices : List (Bor (List ℕ))) (lines : List (List ℕ)) → bytes ≡ front ++ rest → taken ≡ length bytes - length rest → AreLines front lines
    → counted ≡ length lines → counted ≤ most → some ≤ most_together → bytes_of (take some slices) ≡ filter has_bytes lines → AreCut bytes most taken counted some slices
are_cut bytes rest front most taken counted some slices lines is taken_is are counted_is few fit listed = record {
  front = front;
  rest = rest;
  bytes_are = is;
  taken_is = omega (arith, taken_is, ap length is, length-append front rest);
  lines = lines;
  are_lines = are;
  counted_is = counted_is;
  few = few;
  fit = fit;
  listed_are = listed;
}

pub no_lines : AreLines [] []
no_lines = record { cut = λ ended more. refl; sized = λ h. omega arith }

pub one_more : (front line : List ℕ) (lines : List (List ℕ)) → AreLines front lines → list_all is_inside line ≡ true → AreLines (front ++ (line ++ newline ∷ [])) (lines ++ line ∷ [])
one_more front line lines are own = record {
  cut = λ ended more.
      ap (lines_of ended) (append_assoc front (line ++ newline ∷ []) more) ∙ are.cut ended ((line ++ newline ∷ []) ++ more)
      ∙ ap (λ l. lines ++ l) (ap (lines_of ended) (append_assoc line (newline ∷ []) more) ∙ lines-line ended line more own)
      ∙ sym (append_assoc lines (line ∷ []) (lines_of ended more));
  sized = λ short.
      let both = both_hold (list_all is_short lines) (list_all is_short (line ∷ [])) (sym (list_all-append is_short lines (line ∷ [])) ∙ short) in
      let size = are.sized both.0 in
      let one : length line ≤ most_line_bytes = leb-true (length line) most_line_bytes (both_hold (is_short line) true both.1).0 in
      omega (arith, size, one, length-append front (line ++ newline ∷ []), length-append line (newline ∷ []), length-append lines (line ∷ []));
}

-- where what is left has no newline and the bytes have one, some are cut
pub none_cut : (bytes rest front : List ℕ) → bytes ≡ front ++ rest → list_all is_inside rest ≡ true → (list_all is_inside bytes ≡ true → ⊥) → 0 < length bytes - length rest
none_cut bytes rest [] is own some = absurd (some (ap (list_all is_inside) is ∙ own))
none_cut bytes rest (b ∷ front) is own some = omega (arith, ap length is, length-append front rest)

-- where lines are cut, so are bytes
pub some_bytes : (bytes rest front : List ℕ) → bytes ≡ front ++ rest → 0 < length front → 0 < length bytes - length rest
some_bytes bytes rest front is some = omega (arith, some, ap length is, length-append front rest)
