-- A piece of a script that is taken behind others, by itself.
use Rattle.std.proofs.Common.{◌≡◌, Result, Ok, Err, OnOk, IfErr, ℕ, zero, suc, ◌≤◌, Bool, true, false, Some, List, [], ◌∷◌, ◌++◌, length, length-append, append_assoc, filter, refl, ap, sym, ◌∙◌, subst, arith}
use Rattle.std.specs.List.{list_all}
use Rattle.std.proofs.KnownBytes.{Appends-nil}
use Rattle.std.proofs.lemmas.List.Elements.{filter-append}
use Rattle.up_lines.specs.declared.progress.Progress.{Progress}
use Rattle.up_lines.specs.declared.fault.ScriptCause.{ScriptCause}
use Rattle.up_lines.specs.Lines.{newline, piece_bytes, lines_of, is_short, has_bytes}
use Rattle.up_lines.specs.Runs.{At, Composes}
use Rattle.up_lines.specs.LineRuns.{Gives, Breaks}
use Rattle.up_lines.specs.Progress.{Sofar, Takes, Stops}
use Rattle.up_sockets.specs.Served.{Done, IsBegun, Lines, TakesPiece, lines_asked}

-- so many empty lines, and their bytes: they stand for the lines before
abbrev empties : ℕ → List (List ℕ)
empties zero = []
empties (suc n) = [] ∷ empties n

abbrev newlines : ℕ → List ℕ
newlines zero = []
newlines (suc n) = newline ∷ newlines n

empties_length : (n : ℕ) → n ≡ length (empties n)
empties_length zero = refl
empties_length (suc n) = ap suc (empties_length n)

newlines_length : (n : ℕ) → length (newlines n) ≡ n
newlines_length zero = refl
newlines_length (suc n) = ap suc (newlines_length n)

cut_empties : (n : ℕ) (ended : Bool) (bytes : List ℕ) → lines_of ended (newlines n ++ bytes) ≡ empties n ++ lines_of ended bytes
cut_empties zero ended bytes = refl
cut_empties (suc n) ended bytes = ap (λ (l : List (List ℕ)). [] ∷ l) (cut_empties n ended bytes)

none_asked : (n : ℕ) → filter has_bytes (empties n) ≡ []
none_asked zero = refl
none_asked (suc n) = none_asked n

all_short : (n : ℕ) → list_all is_short (empties n) ≡ true
all_short zero = refl
all_short (suc n) = all_short n

none_before : (n : ℕ) (lines : List (List ℕ)) → filter has_bytes (empties n ++ lines) ≡ filter has_bytes lines
none_before zero lines = refl
none_before (suc n) lines = none_before n lines

-- what was whole behind those lines is whole by itself
whole_then : (n : ℕ) (begun piece next : List ℕ) (whole : List (List ℕ)) (ended : Bool) (more : List ℕ)
    → lines_of ended (((newlines n ++ begun) ++ piece) ++ more) ≡ whole ++ lines_of ended (next ++ more)
    → lines_asked ended (begun ++ piece ++ more) ≡ filter has_bytes whole ++ lines_asked ended (next ++ more)
whole_then n begun piece next whole ended more cut =
    let bytes : ((newlines n ++ begun) ++ piece) ++ more ≡ newlines n ++ ((begun ++ piece) ++ more) =
    ap (λ (l : List ℕ). l ++ more) (append_assoc (newlines n) begun piece) ∙ append_assoc (newlines n) (begun ++ piece) more in
    let lines : empties n ++ lines_of ended ((begun ++ piece) ++ more) ≡ whole ++ lines_of ended (next ++ more) =
    sym (cut_empties n ended ((begun ++ piece) ++ more)) ∙ ap (lines_of ended) (sym bytes) ∙ cut in
    sym (none_before n (lines_of ended ((begun ++ piece) ++ more))) ∙ ap (λ (l : List (List ℕ)). filter has_bytes l) lines ∙ filter-append has_bytes whole (lines_of ended (next ++ more))

module _ {S : Type 0} (gives : Gives S) (laws : Composes gives) where
  abbrev pub at : S → List ℕ → At S
  at state held = record { state = state; held = Some held }

  -- as if nothing but empty lines had come before the line that is begun
  begins : (p : Progress) → IsBegun p → p.answered ≡ 0 → (now : At S) → Sofar gives now (newlines p.counted ++ p.line.items) p now
  begins p begun none now = record {
    whole = empties p.counted;
    answers = [];
    cut = λ ended more. ap (lines_of ended) (append_assoc (newlines p.counted) p.line.items more) ∙ cut_empties p.counted ended (p.line.items ++ more);
    own_bytes = begun.own;
    each_short = all_short p.counted;
    counted_is = empties_length p.counted;
    few = begun.few;
    short = begun.short;
    none_past = begun.none_past;
    bytes = omega (arith, length-append (newlines p.counted) p.line.items, newlines_length p.counted);
    run = subst (λ (l : List (List ℕ)). gives now.state l [] now.state) (sym (none_asked p.counted)) (laws.none now.state);
    answered_is = none;
    wrote = Appends-nil now.held;
  }

  -- what is known of the piece by itself
  pub piece_taken : (does : S → Done → S → Type 0) → ((old new : S) (lines texts : List (List ℕ)) → gives old lines texts new → does old (Lines lines texts) new)
      → (piece : List ℕ) (old : Progress) (before : S) (held : List ℕ) (new : Progress) (after : S) (answers : List ℕ) (result : Result (Unit {0}) ScriptCause)
      → OnOk result (Takes gives piece old (at before held) new (at after answers)) → IfErr result (λ cause. Stops gives cause false piece old (at before held) new (at after answers))
      → IsBegun old → old.answered ≡ 0 → length piece ≤ piece_bytes → TakesPiece does before piece old new held answers after result
  piece_taken does gave piece old before held new after answers (Ok done) ok err begun none few =
      let it = ok (at before held) (newlines old.counted ++ old.line.items) (begins old begun none (at before held)) in
      record {
        lines = filter has_bytes it.whole;
        texts = it.answers;
        done = gave before after (filter has_bytes it.whole) it.answers it.run;
        whole = λ ended more. whole_then old.counted old.line.items piece new.line.items it.whole ended more (it.cut ended more);
        told = it.wrote;
        begun = record { own = it.own_bytes; short = it.short; few = it.few; none_past = it.none_past };
      }
  piece_taken does gave piece old before held new after answers (Err cause) ok err begun none few =
      let it = err (at before held) (newlines old.counted ++ old.line.items) (begins old begun none (at before held)) few in
      let b = behind cause after it.done it.answers it.last it.next it.prefix it.run it.breaks in
      record { lines = b.0; texts = b.1; done = gave before after b.0 b.1 b.2; whole = tt; told = tt; begun = tt }
    where
      behind : (cause : ScriptCause) (now : S) (done texts : List (List ℕ)) (last : S) (next : List (List ℕ)) (prefix : List ℕ) → gives before done texts last → Breaks gives cause next last now prefix
          → (lines answers : List (List ℕ)) × gives before lines answers now
      behind cause now done texts last [] prefix run breaks = (done, texts, subst (gives before done texts) (sym breaks.1) run)
      behind cause now done texts last (line ∷ lines) prefix run breaks = (done ++ line ∷ lines, texts ++ breaks.0, laws.both before last now done (line ∷ lines) texts breaks.0 run breaks.1)
