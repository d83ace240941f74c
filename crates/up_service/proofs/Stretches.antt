-- Lines that are answered together, and what they come to.
use Rattle.std.proofs.Common.{◌≡◌, inl, inr, ℕ, suc, ◌+◌, List, [], ◌∷◌, ◌++◌, Bool, true, false, Option, Some, None, Ok, length, length-append, append-nil, map, refl, sym, subst, ap, ◌∙◌, arith}
use Rattle.std.specs.Prelude.{◌⊎◌, ⊤, if◌then◌else◌}
use Rattle.sqlite.specs.Tree.{Trees}
use Rattle.sqlite.proofs.StateLemmas.{survives_weaker}
use Rattle.sqlite_trees.specs.declared.store.Store.{Ghosts}
use Rattle.up_canon.specs.declared.refusal.Refusal.{Refusal}
use Rattle.up_sign.specs.Schemes.{Rules}
use Rattle.up_machine.specs.declared.answer.Answer.{Answer}
use Rattle.up_machine.specs.declared.answer.Answer.TheVariants.{Refused}
use Rattle.up_machine.specs.declared.command.Command.{Command}
use Rattle.up_machine.specs.Repeats.{Met, Sent, expected, meet, serve}
use Rattle.up_machine.specs.Repeats as machine
use Rattle.up_machine.specs.RepeatLaws.{ServedIsThinned}
use Rattle.up_machine.specs.Sound.{IsSound}
use Rattle.up_machine.specs.State.{State}
use Rattle.up_records.specs.Standing.{HoldsState, Standing, HasCleanDisk, IfClean, ShowsState, LeavesOnly, state}
use Rattle.up_desk.specs.Desks.{DeskView}
use Rattle.up_desk.specs.Runs.{AreCalled, AreOutright, ComesTo, StaysOrComesTo, carried_out, outcome_behind, sent, timed, unless_failed}
use Rattle.up_desk.specs.Runs as desk
use Rattle.up_desk.specs.Serving.{is_failed}
use Rattle.up_script.specs.PrintedLines.{answer_text, refused_text}
use Rattle.up_script.specs.declared.asked.What.TheVariants.{Call}
use Rattle.up_service.specs.Answers.{Answered, IsAnswerOrFailed, IsCommitted, answered_as}
use Rattle.up_service.specs.LineAnswers.{IsReadAs, Line, answer_to, line_answer}
use Rattle.up_service.specs.Runs.{HoldsSome, IsAnsweredCommit, IsMadeBySome, IsMadeTogether, Lasts, Service, Told, AreDue, after, behind, items_of, made, tells_fault, told}
use Rattle.up_service.specs.Scripts.{LinesLast, line_service}
use Rattle.up_service.specs.Together.{AreParts, AreRead, IsPart, Lines, LinesAsOne, Part, alone, as_one, lines_in, texts_in}
use Rattle.up_service.proofs.Failing.{failed_answer}
use Rattle.up_service.proofs.Lasting.{FaultsChangeNothing, behind_is, due, failed_tells, lasts_append, lasts_none, lasts_one, lasts_untold}

-- ---- a line that asks a command

-- it is answered as the desk answers that
read_is : (k : Rules) (line : List ℕ) (c : ℕ × Command) → IsReadAs k line (Ok (record { at = c.0; what = Call c.1 })) → (s : State) → line_answer k s line ≡ answered_as answer_text k s c.0 c.1
unfolding line_answer
read_is k line c is s = ap (answer_to k s) is.0

-- what a line was told, in the state in which its command was met
record Follows (k : Rules) (s : State) (m : Told (List ℕ)) (x : Sent) : Type 0 where
  as_command : (t : State) → line_answer k t m.item ≡ answered_as answer_text k t x.item.at x.item.command
  told_is : IsAnswerOrFailed refused_text (line_answer k s m.item) s m.text (meet k s x).next
  failed : x.lost ≡ true → tells_fault (line_service k) m ≡ true

-- so is each of a list
abbrev Walk : Rules → State → List (Told (List ℕ)) → List Sent → Type 0
Walk k s [] [] = ⊤
Walk k s [] (x ∷ xs) = ⊥
Walk k s (m ∷ ms) [] = ⊥
Walk k s (m ∷ ms) (x ∷ xs) = Follows k s m x × Walk k (meet k s x).next ms xs

tells_refusal : (r : Refusal) → answer_text (Refused r) ≡ refused_text r
unfolding answer_text
tells_refusal r = refl

parts_of : {A : Type 0} (x y : A) (xs ys : List A) → x ∷ xs ≡ y ∷ ys → (x ≡ y) × (xs ≡ ys)
parts_of x y xs ys h = (cc, cc)

some_is : {A : Type 0} (x y : A) → Some x ≡ Some y → x ≡ y
some_is x y h = cc

module _ (k : Rules) (calm : FaultsChangeNothing (line_service k)) where
  abbrev v : Service (List ℕ)
  v = line_service k

  follows : (s : State) (line : List ℕ) (c : ℕ × Command) (a : Answer) → IsReadAs k line (Ok (record { at = c.0; what = Call c.1 })) → unless_failed a ≡ (meet k s (record { item = timed c; lost = is_failed a })).answer
      → Follows k s (record { item = line; text = answer_text a }) (record { item = timed c; lost = is_failed a })
  follows s line c a read same = by_loss (is_failed a) refl
    where
      x : Sent
      x = record { item = timed c; lost = is_failed a }

      m : Told (List ℕ)
      m = record { item = line; text = answer_text a }

      met : Bool → Met
      met b = meet k s (record { item = timed c; lost = b })

      by_loss : (b : Bool) → is_failed a ≡ b → Follows k s m x
      by_loss true is = record {
        as_command = read_is k line c read;
        told_is = inr (failed_answer refused_text answer_text tells_refusal a (answer_text a) is refl, ap (λ b. (met b).next) is);
        failed = λ lost. failed_tells v m (failed_answer refused_text answer_text tells_refusal a (answer_text a) is refl);
      }
      by_loss false is =
          let given : Some a ≡ Some (serve k s c.0 c.1).answer = sym (ap (λ (b : Bool). if◌then◌else◌ {A = Option Answer} b None (Some a)) is) ∙ same ∙ ap (λ b. (met b).answer) is in
          let told_so : a ≡ (serve k s c.0 c.1).answer = some_is a (serve k s c.0 c.1).answer given in
          record {
            as_command = read_is k line c read;
            told_is = inl (
              ap answer_text told_so ∙ sym (ap (λ (z : Answered). z.text) (read_is k line c read s)),
              ap (λ b. (met b).next) is ∙ sym (ap (λ (z : Answered). z.next) (read_is k line c read s)),
            );
            failed = λ lost. absurd (let no : true ≡ false = sym lost ∙ is in cc);
          }

  walk_of : (s : State) (lines : List (List ℕ)) (cs : List (ℕ × Command)) (answers : List Answer) → AreRead (IsReadAs k) lines cs → AreOutright k cs answers
      → map unless_failed answers ≡ expected k s (sent cs answers) → Walk k s (told lines (map answer_text answers)) (sent cs answers)
  walk_of s [] [] [] read due exp = tt
  walk_of s [] [] (a ∷ answers) read due exp = absurd due
  walk_of s [] (c ∷ cs) answers read due exp = absurd read
  walk_of s (line ∷ lines) [] answers read due exp = absurd read
  walk_of s (line ∷ lines) (c ∷ cs) [] read due exp = absurd due
  walk_of s (line ∷ lines) (c ∷ cs) (a ∷ answers) read due exp =
      let x : Sent = record { item = timed c; lost = is_failed a } in
      let same = parts_of (unless_failed a) (meet k s x).answer (map unless_failed answers) (expected k (meet k s x).next (sent cs answers)) exp in
      (follows s line c a read.0 same.0, walk_of (meet k s x).next lines cs answers read.1 due.1 same.1)

  next_is : (s : State) (m : Told (List ℕ)) (x : Sent) → Follows k s m x → (meet k s x).next ≡ behind v s m
  next_is s m x f = behind_is v calm s (meet k s x).next m f.told_is

  due_of : (s : State) (ms : List (Told (List ℕ))) (xs : List Sent) → Walk k s ms xs → AreDue v s ms
  due_of s [] xs walk = tt
  due_of s (m ∷ ms) [] walk = absurd walk
  due_of s (m ∷ ms) (x ∷ xs) walk =
      (due v s (meet k s x).next m walk.0.told_is, subst (λ t. AreDue v t ms) (next_is s m x walk.0) (due_of (meet k s x).next ms xs walk.1))

  after_of : (s : State) (ms : List (Told (List ℕ))) (xs : List Sent) → Walk k s ms xs → after v s ms ≡ machine.after k s xs
  after_of s [] [] walk = refl
  after_of s [] (x ∷ xs) walk = absurd walk
  after_of s (m ∷ ms) [] walk = absurd walk
  after_of s (m ∷ ms) (x ∷ xs) walk = ap (λ t. after v t ms) (sym (next_is s m x walk.0)) ∙ after_of (meet k s x).next ms xs walk.1

  -- ---- what a crash leaves

  -- commands that were all carried out
  carried : (at s : State) (ms : List (Told (List ℕ))) (xs lost rest : List Sent) → Walk k at ms xs → xs ≡ lost ++ rest → IsMadeTogether v s (items_of ms) (machine.after k s (map carried_out lost))
  carried at s ms xs [] rest walk is = record { some = []; others = items_of ms; first_ones = refl; makes = refl }
  carried at s [] [] (y ∷ lost) rest walk is = absurd (let no : 0 ≡ suc (length (lost ++ rest)) = ap length is in omega (arith, no))
  carried at s [] (x ∷ xs) (y ∷ lost) rest walk is = absurd walk
  carried at s (m ∷ ms) [] (y ∷ lost) rest walk is = absurd walk
  carried at s (m ∷ ms) (x ∷ xs) (y ∷ lost) rest walk is =
      let head : x ≡ y = cc in
      let tail : xs ≡ lost ++ rest = cc in
      let one : (line_answer k s m.item).next ≡ (meet k s (carried_out y)).next = ap (λ (z : Answered). z.next) (walk.0.as_command s) ∙ ap (λ (z : Sent). (serve k s z.item.at z.item.command).next) head in
      let more = carried (meet k at x).next (meet k s (carried_out y)).next ms xs lost rest walk.1 tail in
      record {
        some = m.item ∷ more.some;
        others = more.others;
        first_ones = ap (λ l. m.item ∷ l) more.first_ones;
        makes = more.makes ∙ ap (λ t. made v t more.some) (sym one);
      }

  comes : (s : State) (ms : List (Told (List ℕ))) (xs before lost rest : List Sent) (at : State) → Walk k s ms xs → xs ≡ before ++ lost ++ rest → at ≡ machine.after k (machine.after k s before) (map carried_out lost)
      → IsMadeBySome v s ms [] at
  comes s [] [] [] [] rest at walk is there = record { some = []; others = []; first_ones = refl; makes = there }
  comes s [] [] [] (y ∷ lost) rest at walk is there = absurd (let no : 0 ≡ suc (length (lost ++ rest)) = ap length is in omega (arith, no))
  comes s [] [] (b ∷ before) lost rest at walk is there = absurd (let no : 0 ≡ suc (length (before ++ lost ++ rest)) = ap length is in omega (arith, no))
  comes s [] (x ∷ xs) before lost rest at walk is there = absurd walk
  comes s (m ∷ ms) [] before lost rest at walk is there = absurd walk
  comes s (m ∷ ms) (x ∷ xs) [] lost rest at walk is there =
      inl (subst (λ t. IsMadeTogether v s (items_of (m ∷ ms)) t) (sym there) (carried s s (m ∷ ms) (x ∷ xs) lost rest walk is))
  comes s (m ∷ ms) (x ∷ xs) (b ∷ before) lost rest at walk is there =
      let head : x ≡ b = cc in
      let tail : xs ≡ before ++ lost ++ rest = cc in
      let here : at ≡ machine.after k (machine.after k (meet k s x).next before) (map carried_out lost) =
      there ∙ ap (λ (z : Sent). machine.after k (machine.after k (meet k s z).next before) (map carried_out lost)) (sym head) in
      inr (subst (λ t. IsMadeBySome v t ms [] at) (next_is s m x walk.0) (comes (meet k s x).next ms xs before lost rest at walk.1 tail here))

  -- ---- a commit that was answered

  record Cut (s : State) (xs : List Sent) (before rest : List (Told (List ℕ))) (m : Told (List ℕ)) : Type 0 where
    first : List Sent
    x : Sent
    last : List Sent
    list : xs ≡ first ++ x ∷ last
    here : after v s before ≡ machine.after k s first
    one : Follows k (machine.after k s first) m x
    last_walk : Walk k (meet k (machine.after k s first) x).next rest last

  cut_behind : (s : State) (n b : Told (List ℕ)) (x : Sent) (xs : List Sent) (before rest : List (Told (List ℕ))) (m : Told (List ℕ)) → Follows k s n x → n ≡ b → Cut (meet k s x).next xs before rest m
      → Cut s (x ∷ xs) (b ∷ before) rest m
  cut_behind s n b x xs before rest m follow head c = record {
    first = x ∷ c.first;
    x = c.x;
    last = c.last;
    list = ap (λ l. x ∷ l) c.list;
    here = ap (λ (q : Told (List ℕ)). after v (behind v s q) before) (sym head) ∙ ap (λ t. after v t before) (sym (next_is s n x follow)) ∙ c.here;
    one = c.one;
    last_walk = c.last_walk;
  }

  cut : (s : State) (ms : List (Told (List ℕ))) (xs : List Sent) (before rest : List (Told (List ℕ))) (m : Told (List ℕ)) → Walk k s ms xs → ms ≡ before ++ m ∷ rest → Cut s xs before rest m
  cut s [] xs [] rest m walk is = absurd (let no : 0 ≡ suc (length rest) = ap length is in omega (arith, no))
  cut s [] xs (b ∷ before) rest m walk is = absurd (let no : 0 ≡ suc (length (before ++ m ∷ rest)) = ap length is in omega (arith, no))
  cut s (n ∷ ms) [] before rest m walk is = absurd walk
  cut s (n ∷ ms) (x ∷ xs) [] rest m walk is =
      let head : n ≡ m = cc in
      let tail : ms ≡ rest = cc in
      record {
        first = [];
        x = x;
        last = xs;
        list = refl;
        here = refl;
        one = subst (λ (q : Told (List ℕ)). Follows k s q x) head walk.0;
        last_walk = subst (λ (l : List (Told (List ℕ))). Walk k (meet k s x).next l xs) tail walk.1;
      }
  cut s (n ∷ ms) (x ∷ xs) (b ∷ before) rest m walk is =
      let head : n ≡ b = cc in
      let tail : ms ≡ before ++ m ∷ rest = cc in
      cut_behind s n b x xs before rest m walk.0 head (cut (meet k s x).next ms xs before rest m walk.1 tail)

  unlost : (x : Sent) (b : Bool) → x.lost ≡ b → (x.lost ≡ true → b ≡ true → ⊥) → x.lost ≡ false
  unlost x true is never = absurd (never is refl)
  unlost x false is never = is

  stays : (s : State) (ms : List (Told (List ℕ))) (xs : List Sent) (before rest : List (Told (List ℕ))) (m : Told (List ℕ)) (new : Standing) → Walk k s ms xs → IsAnsweredCommit v s ms before rest m
      → ((first last : List Sent) (x : Sent) → desk.IsAnsweredCommit k s xs first last x
      → LeavesOnly (λ trees. (at : State) × StaysOrComesTo k (outcome_behind k s first x).next last at × HoldsState at trees) new)
      → LeavesOnly (λ trees. HoldsState (behind v (after v s before) m) trees ⊎ HoldsSome v (behind v (after v s before) m) rest [] trees) new
  stays s ms xs before rest m new walk commit outlasts = λ trees may. by_state trees (outlasts c.first c.last c.x made_it trees may)
    where
      c : Cut s xs before rest m
      c = cut s ms xs before rest m walk commit.list

      t : State
      t = machine.after k s c.first

      answered : c.x.lost ≡ false
      answered = unlost c.x c.x.lost refl (λ lost _. let it : true ≡ false = sym (c.one.failed lost) ∙ commit.answered in cc)

      committed : IsCommitted t (line_answer k t m.item).called (line_answer k t m.item).next
      committed = subst (λ q. IsCommitted q (line_answer k q m.item).called (line_answer k q m.item).next) c.here commit.commit

      made_it : desk.IsAnsweredCommit k s xs c.first c.last c.x
      made_it = record {
        list = c.list;
        answered = answered;
        commit = subst (λ (z : Answered). IsCommitted t z.called z.next) (c.one.as_command t) committed;
      }

      next : State
      next = (meet k t c.x).next

      next_made : next ≡ (outcome_behind k s c.first c.x).next
      next_made = ap (λ (b : Bool). (meet k t (record { item = c.x.item; lost = b })).next) answered

      next_behind : next ≡ behind v (after v s before) m
      next_behind = next_is t m c.x c.one ∙ ap (λ q. behind v q m) (sym c.here)

      by_state : (trees : Trees) → (at : State) × StaysOrComesTo k (outcome_behind k s c.first c.x).next c.last at × HoldsState at trees
          → HoldsState (behind v (after v s before) m) trees ⊎ HoldsSome v (behind v (after v s before) m) rest [] trees
      by_state trees (at, inl same, holds) = inl (subst (λ q. HoldsState q trees) (same ∙ sym next_made ∙ next_behind) holds)
      by_state trees (at, inr (first, lost, others, list, is), holds) = inr (
        at,
        subst (λ q. IsMadeBySome v q rest [] at) next_behind
            (comes next rest c.last first lost others at c.last_walk list (is ∙ ap (λ q. machine.after k (machine.after k q first) (map carried_out lost)) (sym next_made))),
        holds,
      )

  -- ---- all of it

  as_one_lasts : ServedIsThinned → (s : State) (lines : List (List ℕ)) (cs : List (ℕ × Command)) (answers : List Answer) (old new : Standing) → AreRead (IsReadAs k) lines cs → AreCalled k cs [] answers old new
      → IsSound k s → IfClean (ShowsState s) old → Lasts v s (told lines (map answer_text answers)) [] old new
  as_one_lasts thin s lines cs answers old new read called sound was =
      subst (λ (l : List Answer). Lasts v s (told lines (map answer_text l)) [] old new) (sym called.appended) (record {
        due = λ clean. due_of s ms xs (walk clean);
        shown = λ clean.
            let it = called.ran clean s sound was in
            (it.0, it.1.state ∙ sym (thin k s xs) ∙ sym (after_of s ms xs (walk clean)), it.2, it.3);
        crash = survives_weaker old.connection new.connection (λ trees. (at : State) × ComesTo k s xs at × HoldsState at trees) (HoldsSome v s ms [])
            (λ clean trees held. (held.0, comes s ms xs held.1.0 held.1.1 held.1.2 held.0 (walk clean) held.1.3 held.1.4, held.2)) (called.crash s sound was);
        durable = λ before rest m made_it clean.
            stays s ms xs before rest m new (walk clean) made_it (λ first last x it. called.lasts s sound was first last x it clean);
      })
    where
      ms : List (Told (List ℕ))
      ms = told lines (map answer_text called.told)

      xs : List Sent
      xs = sent cs called.told

      walk : HasCleanDisk new → Walk k s ms xs
      walk clean = walk_of s lines cs called.told read called.outright (called.ran clean s sound was).1.told

-- ---- whole scripts

told_append : {I : Type 0} (items more : List I) (texts others : List (List ℕ)) → length texts ≡ length items → told (items ++ more) (texts ++ others) ≡ told items texts ++ told more others
told_append [] more [] others count = refl
told_append [] more (text ∷ texts) others count = absurd (omega (arith, count))
told_append (item ∷ items) more [] others count = absurd (omega (arith, count))
told_append (item ∷ items) more (text ∷ texts) others count = ap (λ l. record { item = item; text = text } ∷ l) (told_append items more texts others (omega (arith, count)))

module _ {K D : Type 0} (rules : K → Rules) (g : Ghosts D) (calm : (q : K) → FaultsChangeNothing (line_service (rules q))) (thin : ServedIsThinned) where
  -- what a part comes to
  record PartLasts (old : DeskView K D) (p : Part) (new : DeskView K D) : Type 0 where
    scheme : new.scheme ≡ old.scheme
    count : length p.texts ≡ length p.lines
    lasts : (s : State) → IsSound (rules old.scheme) s → IfClean (ShowsState s) (state g old.store)
        → Lasts (line_service (rules old.scheme)) s (told p.lines p.texts) [] (state g old.store) (state g new.store)

  part_lasts : (old new : DeskView K D) (p : Part) → IsPart (Line rules g) (LinesAsOne rules g) old p new → PartLasts old p new
  part_lasts old new p (alone line text is gave) = subst (λ q. PartLasts old q new) (sym is) (record {
    scheme = gave.0;
    count = refl;
    lasts = λ s sound was. lasts_one (line_service (rules old.scheme)) (calm old.scheme) s (record { item = line; text = text }) (state g old.store) (state g new.store) gave.2 sound was;
  })
  part_lasts old new p (as_one count gave) = record {
    scheme = gave.called.0;
    count = count;
    lasts = λ s sound was.
        subst (λ l. Lasts (line_service (rules old.scheme)) s (told p.lines l) [] (state g old.store) (state g new.store)) (sym gave.told)
        (as_one_lasts (rules old.scheme) (calm old.scheme) thin s p.lines gave.commands gave.answers (state g old.store) (state g new.store) gave.read gave.called.1 sound was);
  }

  -- parts, one after another
  record PartsLast (q : K) (old : DeskView K D) (ps : List Part) (new : DeskView K D) : Type 0 where
    scheme : new.scheme ≡ q
    count : length (texts_in ps) ≡ length (lines_in ps)
    lasts : (s : State) → IsSound (rules q) s → IfClean (ShowsState s) (state g old.store)
        → Lasts (line_service (rules q)) s (told (lines_in ps) (texts_in ps)) [] (state g old.store) (state g new.store)

  parts_last : (q : K) (ps : List Part) (old new : DeskView K D) → old.scheme ≡ q → AreParts (Line rules g) (LinesAsOne rules g) old ps new → PartsLast q old ps new
  parts_last q [] old new same parts = subst (λ (d : DeskView K D). PartsLast q old [] d) (sym parts) (record {
    scheme = same;
    count = refl;
    lasts = λ s sound was. lasts_none (line_service (rules q)) s (state g old.store) sound was;
  })
  parts_last q (p ∷ ps) old new same parts =
      let one = part_lasts old parts.0 p parts.1 in
      let rest = parts_last q ps parts.0 new (one.scheme ∙ same) parts.2 in
      record {
        scheme = rest.scheme;
        count = omega (arith, one.count, rest.count, length-append p.texts (texts_in ps), length-append p.lines (lines_in ps));
        lasts = λ s sound was.
            subst (λ (l : List (Told (List ℕ))). Lasts (line_service (rules q)) s l [] (state g old.store) (state g new.store)) (sym (told_append p.lines (lines_in ps) p.texts (texts_in ps) one.count))
            (lasts_append (line_service (rules q)) s (told p.lines p.texts) (told (lines_in ps) (texts_in ps)) [] (state g old.store) (state g parts.0.store) (state g new.store)
            (subst (λ z. (t : State) → IsSound (rules z) t → IfClean (ShowsState t) (state g old.store) → Lasts (line_service (rules z)) t (told p.lines p.texts) [] (state g old.store) (state g parts.0.store))
            same one.lasts s sound was) rest.lasts sound);
      }

  lines_told : (q : K) (lines texts : List (List ℕ)) (old new : DeskView K D) → old.scheme ≡ q → Lines rules g old lines texts new
      → (new.scheme ≡ q) × (length texts ≡ length lines) × ((s : State) → IsSound (rules q) s → IfClean (ShowsState s) (state g old.store)
      → Lasts (line_service (rules q)) s (told lines texts) [] (state g old.store) (state g new.store))
  lines_told q lines texts old new same h =
      let it = parts_last q h.parts old new same h.told in (
        it.scheme,
        ap length h.texts_are ∙ it.count ∙ sym (ap length h.lines_are),
        (λ s sound was.
            subst (λ l. Lasts (line_service (rules q)) s (told l texts) [] (state g old.store) (state g new.store)) (sym h.lines_are)
            (subst (λ l. Lasts (line_service (rules q)) s (told (lines_in h.parts) l) [] (state g old.store) (state g new.store)) (sym h.texts_are) (it.lasts s sound was))),
      )

  pub lines_last : LinesLast rules g
  lines_last items texts [] old last new run hands s sound was =
      let it = lines_told old.scheme items texts old last refl run in
      subst (λ (d : DeskView K D). Lasts (line_service (rules old.scheme)) s (told items texts) [] (state g old.store) (state g d.store)) (sym hands) (it.2 s sound was)
  lines_last items texts (line ∷ next) old last new run hands s sound was =
      let first = lines_told old.scheme items texts old last refl run in
      let more = lines_told old.scheme (line ∷ next) hands.0 last new first.0 hands.1 in
      subst (λ (l : List (Told (List ℕ))). Lasts (line_service (rules old.scheme)) s l (line ∷ next) (state g old.store) (state g new.store)) (append-nil (told items texts))
      (lasts_append (line_service (rules old.scheme)) s (told items texts) [] (line ∷ next) (state g old.store) (state g last.store) (state g new.store) (first.2 s sound was)
      (λ t sound_t was_t. lasts_untold (line_service (rules old.scheme)) t (line ∷ next) hands.0 (state g last.store) (state g new.store) more.1 refl (more.2 t sound_t was_t)) sound)
