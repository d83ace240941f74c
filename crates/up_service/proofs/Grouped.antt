-- Lines that are answered as one, and one that is answered by itself.
use Rattle.std.proofs.Common.{◌≡◌, ℕ, zero, suc, Bool, true, false, ◌+◌, ◌<◌, ◌≤◌, List, [], ◌∷◌, ◌++◌, length, length-append, map, take, drop, take-append-drop, refl, sym, ap, subst, ◌∙◌, arith, append-nil, get_or, Result, Ok, Err}
use Rattle.std.specs.Prelude.{IsTrue, if◌then◌else◌, is_err, is_ok}
use Rattle.std.specs.Borrow.{Bor}
use Rattle.std.specs.List.{AllByRecursion}
use Rattle.std.proofs.lemmas.List.{length-take-le, map_more, take-map}
use Rattle.up_canon.specs.declared.refusal.Refusal.{Refusal}
use Rattle.up_sign.specs.Schemes.{Rules}
use Rattle.up_lines.specs.LineRuns.{print}
use Rattle.up_lines.specs.Runs.{written}
use Rattle.up_lines.specs.Together.{AnswersSome, AnswersUntold, AreSome, bytes_of}
use Rattle.up_machine.specs.Commands.{opens_running}
use Rattle.up_machine.specs.declared.answer.Answer.{Answer}
use Rattle.up_machine.specs.declared.command.Command.{Command}
use Rattle.up_records.specs.Standing.{Standing}
use Rattle.up_desk.specs.Runs.{AreCalled, AreOutright}
use Rattle.up_script.specs.PrintedLines.{answer_text}
use Rattle.up_script.specs.declared.asked.Asked.{Asked}
use Rattle.up_script.specs.declared.asked.What.TheVariants.{Call}
use Rattle.up_service.specs.Told.{Asks}
use Rattle.up_service.specs.Together.{AreCalledAsOne, AreRead, CallsSome, GivesEach, InParts, Part, ReadsSome, alone, as_one, part_of}

length-texts : (told : List Answer) → length (map answer_text told) ≡ length told
length-texts [] = refl
length-texts (a ∷ told) = ap suc (length-texts told)

-- some of the first
abbrev some_of : (n : ℕ) (lines : List (List ℕ)) → 0 < n → n ≤ length lines → AreSome lines
some_of n lines some within = record {
  next = take n lines;
  others = drop n lines;
  lines_are = sym (take-append-drop n lines);
  some = λ none. let it : length (take n lines) ≡ 0 = ap length none in omega (arith, it, length-take-le n lines within, some);
}

-- ---- what is read of lines

-- one line more
bytes_more : (slices : List (Bor (List ℕ))) (i : ℕ) (d : Bor (List ℕ)) → i < length slices → take (i + 1) (bytes_of slices) ≡ take i (bytes_of slices) ++ (get_or slices i d).now ∷ []
bytes_more slices i d within =
    take-map (λ (s : Bor (List ℕ)). s.now) (i + 1) slices ∙ map_more (λ (s : Bor (List ℕ)). s.now) slices i d within
    ∙ ap (λ l. l ++ (get_or slices i d).now ∷ []) (sym (take-map (λ (s : Bor (List ℕ)). s.now) i slices))

read_append : (asks : List ℕ → Result Asked Refusal → Type 0) (lines : List (List ℕ)) (cs : List (ℕ × Command)) (line : List ℕ) (c : ℕ × Command) → AreRead asks lines cs
    → asks line (Ok (record { at = c.0; what = Call c.1 })) → AreRead asks (lines ++ line ∷ []) (cs ++ c ∷ [])
read_append asks [] [] line c read one = (one, tt)
read_append asks [] (d ∷ cs) line c read one = absurd read
read_append asks (l ∷ lines) [] line c read one = absurd read
read_append asks (l ∷ lines) (d ∷ cs) line c read one = (read.0, read_append asks lines cs line c read.1 one)

pub read_more : (asks : List ℕ → Result Asked Refusal → Type 0) (slices : List (Bor (List ℕ))) (i : ℕ) (d : Bor (List ℕ)) (line : List ℕ) (cs : List (ℕ × Command)) (c : ℕ × Command) (more : List (ℕ × Command))
    → i < length slices → line ≡ (get_or slices i d).now → AreRead asks (take i (bytes_of slices)) cs → asks line (Ok (record { at = c.0; what = Call c.1 })) → more ≡ cs ++ c ∷ []
    → AreRead asks (take (i + 1) (bytes_of slices)) more
read_more asks slices i d line cs c more within is read one pushed =
    subst (λ l. AreRead asks (take (i + 1) (bytes_of slices)) l) (sym pushed) (subst (λ l. AreRead asks l (cs ++ c ∷ [])) (sym (bytes_more slices i d within ∙ ap (λ l. take i (bytes_of slices) ++ l ∷ []) (sym is)))
    (read_append asks (take i (bytes_of slices)) cs line c read one))

pub running_more : (cs : List (ℕ × Command)) (c : ℕ × Command) (more : List (ℕ × Command)) → AllByRecursion (λ (c : ℕ × Command). IsTrue (opens_running c.1)) cs → IsTrue (opens_running c.1) → more ≡ cs ++ c ∷ []
    → AllByRecursion (λ (c : ℕ × Command). IsTrue (opens_running c.1)) more
running_more cs c more all one pushed = subst (AllByRecursion (λ (c : ℕ × Command). IsTrue (opens_running c.1))) (sym pushed) (by_list cs all)
  where
    by_list : (cs : List (ℕ × Command)) → AllByRecursion (λ (c : ℕ × Command). IsTrue (opens_running c.1)) cs → AllByRecursion (λ (c : ℕ × Command). IsTrue (opens_running c.1)) (cs ++ c ∷ [])
    by_list [] all = (one, tt)
    by_list (d ∷ cs) all = (all.0, by_list cs all.1)

pub count_more : (cs : List (ℕ × Command)) (c : ℕ × Command) (more : List (ℕ × Command)) (i : ℕ) → length cs ≡ i → more ≡ cs ++ c ∷ [] → length more ≡ i + 1
count_more cs c more i count pushed = omega (arith, count, ap length pushed, length-append cs (c ∷ []))

-- what was pushed without an error
pub pushed_ok : {T E A : Type 0} (r : Result T E) (failed : Bool) (old new : List A) (x : A) → failed ≡ is_err r → failed ≡ false → new ≡ (if is_ok r then old ++ x ∷ [] else old) → new ≡ old ++ x ∷ []
pushed_ok (Ok t) failed old new x is clear pushed = pushed
pushed_ok (Err e) failed old new x is clear pushed = absurd (let it : true ≡ false = sym is ∙ clear in cc)

length-bytes : (slices : List (Bor (List ℕ))) → length (bytes_of slices) ≡ length slices
length-bytes [] = refl
length-bytes (s ∷ slices) = ap suc (length-bytes slices)

take_fewer : {A : Type 0} (i : ℕ) (xs : List A) → length (take i xs) ≤ length xs
take_fewer zero xs = omega arith
take_fewer (suc i) [] = omega arith
take_fewer (suc i) (x ∷ xs) = omega (arith, take_fewer i xs)

read_count : (asks : List ℕ → Result Asked Refusal → Type 0) (lines : List (List ℕ)) (cs : List (ℕ × Command)) → AreRead asks lines cs → length cs ≡ length lines
read_count asks [] [] read = refl
read_count asks [] (c ∷ cs) read = absurd read
read_count asks (line ∷ lines) [] read = absurd read
read_count asks (line ∷ lines) (c ∷ cs) read = ap suc (read_count asks lines cs read.1)

-- those that were read so far are some
pub reads_some : (asks : List ℕ → Result Asked Refusal → Type 0) (slices : List (Bor (List ℕ))) (i : ℕ) (cs same : List (ℕ × Command)) → AreRead asks (take i (bytes_of slices)) cs → length cs ≡ i
    → AllByRecursion (λ (c : ℕ × Command). IsTrue (opens_running c.1)) cs → (same ≡ cs) × (0 < length cs) → ReadsSome asks (bytes_of slices) same
reads_some asks slices i cs same read count running (is, some) = subst (λ l. ReadsSome asks (bytes_of slices) l) (sym is) (record {
  some = some;
  within = omega (arith, read_count asks (take i (bytes_of slices)) cs read, take_fewer i (bytes_of slices));
  read = subst (λ n. AreRead asks (take n (bytes_of slices)) cs) (sym count) read;
  running = running;
})

pub some_bytes : (slices : List (Bor (List ℕ))) → 0 < length slices → 0 < length (bytes_of slices)
some_bytes slices some = omega (arith, some, length-bytes slices)

-- ---- a list of commands

answers_count : (k : Rules) (cs : List (ℕ × Command)) (answers : List Answer) → AreOutright k cs answers → length answers ≡ length cs
answers_count k [] [] all = refl
answers_count k [] (a ∷ answers) all = absurd all
answers_count k (c ∷ cs) [] all = absurd all
answers_count k (c ∷ cs) (a ∷ answers) all = ap suc (answers_count k cs answers all.1)

-- they are called behind no answers, and each has one
pub each_called : (k : Rules) (cs : List (ℕ × Command)) (before answers : List Answer) (old new : Standing) → before ≡ [] → AreCalled k cs before answers old new
    → AreCalled k cs [] answers old new × (length answers ≡ length cs)
each_called k cs before answers old new none called =
    (subst (λ b. AreCalled k cs b answers old new) none called, ap length (called.appended ∙ ap (λ b. b ++ called.told) none) ∙ answers_count k cs called.told called.outright)

module _ {S : Type 0} (Alone : S → List ℕ → List ℕ → S → Type 0) (asks : Asks S) (gives : GivesEach S) where
  -- lines whose commands were called as one list
  as_one_told : (old new : S) (lines : List (List ℕ)) (told : List Answer) → CallsSome asks gives old lines told new
      → InParts Alone (AreCalledAsOne asks gives) old (take (length told) lines) (map answer_text told) new
  as_one_told old new lines told h =
      let n = length told in
      let within : n ≤ length lines = omega (arith, h.count, h.reads.within) in
      let count : length (map answer_text told) ≡ length (take n lines) = length-texts told ∙ sym (length-take-le n lines within) in
      let p : Part = record { lines = take n lines; texts = map answer_text told } in
      record {
        parts = p ∷ [];
        lines_are = sym (append-nil (take n lines));
        texts_are = sym (append-nil (map answer_text told));
        told = (
          new,
          as_one count (record {
            commands = h.commands;
            read = subst (λ m. AreRead (asks old) (take m lines) h.commands) (sym h.count) h.reads.read;
            answers = told;
            called = h.called;
            told = refl;
            count = count;
          }),
          refl,
        );
      }

  pub some_called : (old new : S) (lines : List (List ℕ)) (told : List Answer) (n : ℕ) (held answers : List ℕ) → CallsSome asks gives old lines told new → n ≡ length told
      → answers ≡ held ++ written print (map answer_text told) → AnswersSome (InParts Alone (AreCalledAsOne asks gives)) old lines n held answers new
  some_called old new lines told n held answers h is appended = record {
    some = omega (arith, is, h.count, h.reads.some);
    within = omega (arith, is, h.count, h.reads.within);
    texts = map answer_text told;
    given = subst (λ m. InParts Alone (AreCalledAsOne asks gives) old (take m lines) (map answer_text told) new) (sym is) (as_one_told old new lines told h);
    appended = appended;
  }

  pub some_uncalled : (old new : S) (lines : List (List ℕ)) (told : List Answer) → CallsSome asks gives old lines told new → AnswersUntold (InParts Alone (AreCalledAsOne asks gives)) old lines new
  some_uncalled old new lines told h =
      (some_of (length told) lines (omega (arith, h.count, h.reads.some)) (omega (arith, h.count, h.reads.within)), map answer_text told, as_one_told old new lines told h)

  -- a line that is answered by itself
  alone_told : (old new : S) (line text : List ℕ) → Alone old line text new → InParts Alone (AreCalledAsOne asks gives) old (line ∷ []) (text ∷ []) new
  alone_told old new line text gave = record {
    parts = part_of line text ∷ [];
    lines_are = refl;
    texts_are = refl;
    told = (new, alone line text refl gave, refl);
  }

  pub one_called : (old new : S) (lines : List (List ℕ)) (n : ℕ) (held answers : List ℕ) → 0 < length lines
      → (n ≡ 1) × ((line text : List ℕ) × (take 1 lines ≡ line ∷ []) × Alone old line text new × (answers ≡ held ++ print text))
      → AnswersSome (InParts Alone (AreCalledAsOne asks gives)) old lines n held answers new
  one_called old new lines n held answers some (is, (line, text, first, gave, appended)) = record {
    some = omega (arith, is);
    within = omega (arith, is, some);
    texts = text ∷ [];
    given = subst (λ m. InParts Alone (AreCalledAsOne asks gives) old (take m lines) (text ∷ []) new) (sym is)
        (subst (λ l. InParts Alone (AreCalledAsOne asks gives) old l (text ∷ []) new) (sym first) (alone_told old new line text gave));
    appended = appended ∙ ap (λ l. held ++ l) (sym (append-nil (print text)));
  }

  pub one_uncalled : (old new : S) (lines : List (List ℕ)) → 0 < length lines → (line text : List ℕ) × (take 1 lines ≡ line ∷ []) × Alone old line text new
      → AnswersUntold (InParts Alone (AreCalledAsOne asks gives)) old lines new
  one_uncalled old new lines some (line, text, first, gave) = (
    record {
      next = line ∷ [];
      others = drop 1 lines;
      lines_are = sym (take-append-drop 1 lines) ∙ ap (λ l. l ++ drop 1 lines) first;
      some = λ none. let it : 1 ≡ 0 = ap length none in omega (arith, it);
    },
    text ∷ [],
    alone_told old new line text gave,
  )
