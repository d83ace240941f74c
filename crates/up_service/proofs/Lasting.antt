-- What a whole run comes to, item by item.
use Rattle.std.proofs.Common.{◌≡◌, inl, inr, ℕ, zero, suc, List, [], ◌∷◌, ◌++◌, Bool, true, false, Option, Some, None, length, length-append, append_assoc, refl, sym, subst, ap, ap₂, ◌∙◌, arith}
use Rattle.std.specs.Prelude.{◌⊎◌, ◌||◌, IsSome, IsTrue, if◌then◌else◌, bytes_eq}
use Rattle.std.specs.Cmp.Lexicographic.{bytes_decides}
use Rattle.sqlite_trees.specs.View.{doubt}
use Rattle.sqlite.specs.Tree.{Trees}
use Rattle.sqlite_trees.specs.declared.store.Store.{Ghosts}
use Rattle.sqlite.proofs.StateLemmas.{survives_then, survives_weaker}
use Rattle.up_canon.specs.declared.refusal.Refusal.TheVariants.{Memory, Store}
use Rattle.up_machine.specs.declared.answer.Answer.{Answer}
use Rattle.up_machine.specs.Sound.{IsSound}
use Rattle.up_machine.specs.State.{State}
use Rattle.up_records.specs.Standing.{HoldsState}
use Rattle.up_records.specs.Standing.{Standing, HasCleanDisk, IfClean, ShowsState, LeavesOnly, state}
use Rattle.up_desk.specs.Desks.{DeskView}
use Rattle.up_lines.specs.Runs.{Run, Breaks, listed}
use Rattle.up_lines.specs.declared.fault.ScriptCause.{ScriptCause}
use Rattle.up_service.specs.Answers.{Answered, HoldsNext, IsCommitted, IsFailed, IsAnswerOrFailed, AnswersAs}
use Rattle.up_service.specs.Runs.{Service, Told, told, tells_fault, behind, after, AreDue, IsBehind, IsMade, IsMadeTogether, IsMadeUntold, IsMadeAtOnce, IsMadeHanded, IsMadeBySome, HoldsSome, IsAnsweredCommit, Lasts, HandsOn, RunsLast, items_of, made}
use Rattle.up_service.proofs.Answering.{survives_same}

-- ---- one item

-- an item is answered as its service says
abbrev pub Answers : {I : Type 0} → Service I → I → List ℕ → Standing → Standing → Type 0
Answers v item text old new = AnswersAs (v.tell item) (λ s. v.answer s item) v.rules text old new

-- it leaves the state as it is, and is no commit
abbrev pub ChangesNothing : State → Answered → Type 0
ChangesNothing s a = (a.next ≡ s) × (IsCommitted s a.called a.next → ⊥)

-- where the answer itself tells that memory or the database refused, the item changes nothing
abbrev pub FaultsChangeNothing : {I : Type 0} → Service I → Type 0
FaultsChangeNothing {I} v = (s : State) (item : I) → tells_fault v (record { item = item; text = (v.answer s item).text }) ≡ true → ChangesNothing s (v.answer s item)

or_true : (b c : Bool) → c ≡ true → (b || c) ≡ true
or_true true c h = refl
or_true false c h = h

pub failed_tells : {I : Type 0} (v : Service I) (m : Told I) → IsFailed (v.tell m.item) m.text → tells_fault v m ≡ true
failed_tells v m (inl same) = ap (λ b. b || bytes_eq m.text (v.tell m.item Store)) ((bytes_decides m.text (v.tell m.item Memory)).1 same)
failed_tells v m (inr same) = or_true (bytes_eq m.text (v.tell m.item Memory)) (bytes_eq m.text (v.tell m.item Store)) ((bytes_decides m.text (v.tell m.item Store)).1 same)

pub due : {I : Type 0} (v : Service I) (s next : State) (m : Told I) → IsAnswerOrFailed (v.tell m.item) (v.answer s m.item) s m.text next
    → (m.text ≡ (v.answer s m.item).text) ⊎ IsTrue (tells_fault v m)
due v s next m (inl told) = inl told.0
due v s next m (inr failed) = inr (failed_tells v m failed.0)

pub behind_is : {I : Type 0} (v : Service I) → FaultsChangeNothing v → (s next : State) (m : Told I) → IsAnswerOrFailed (v.tell m.item) (v.answer s m.item) s m.text next → next ≡ behind v s m
behind_is v calm s next m (inl told) = by_fault (tells_fault v m) refl
  where
    by_fault : (b : Bool) → tells_fault v m ≡ b → next ≡ behind v s m
    by_fault true same =
        told.1 ∙ (calm s m.item (subst (λ t. tells_fault v (record { item = m.item; text = t }) ≡ true) told.0 same)).0 ∙ sym (ap (λ b. if b then s else (v.answer s m.item).next) same)
    by_fault false same = told.1 ∙ sym (ap (λ b. if b then s else (v.answer s m.item).next) same)
behind_is v calm s next m (inr failed) = failed.1 ∙ sym (ap (λ b. if b then s else (v.answer s m.item).next) (failed_tells v m failed.0))

-- the state that the tables show then; over a disk that isn't clean any sound state stands for it
record Shown {I : Type 0} (v : Service I) (is : State) (mid : Standing) : Type 0 where
  at : State
  sound : IsSound v.rules at
  shown : IfClean (ShowsState at) mid
  here : HasCleanDisk mid → at ≡ is

shown_or : {I : Type 0} (v : Service I) (s is : State) (mid : Standing) → (HasCleanDisk mid → (at : State) × (at ≡ is) × IsSound v.rules at × ShowsState at mid) → IsSound v.rules s → Shown v is mid
shown_or v s is mid shows sound = by_disk (doubt mid.connection.is_clean) refl
  where
    by_disk : (d : ℕ) → doubt mid.connection.is_clean ≡ d → Shown v is mid
    by_disk zero now =
        let it = shows now in
        record { at = it.0; sound = it.2; shown = λ _. it.3; here = λ _. it.1 }
    by_disk (suc d) other = record { at = s; sound = sound; shown = λ now. absurd (omega (arith, now, other)); here = λ now. absurd (omega (arith, now, other)) }

-- ---- what is made at once

was_called : (called : Option Answer) (next : State) (trees : Trees) → HoldsNext called next trees → IsSome called × HoldsState next trees
was_called (Some answer) next trees held = (refl, held)
was_called None next trees held = absurd held

module _ {I : Type 0} (v : Service I) where
  one_made : (b : Bool) (s : State) (item : I) (at : State) → IsMade v s item at → IsMadeAtOnce b v s (item ∷ []) at
  one_made true s item at (called, is) = record { some = item ∷ []; others = []; first_ones = refl; makes = is }
  one_made false s item at made_it = made_it

  one_handed : (b : Bool) (s : State) (item : I) (at : State) → IsMade v s item at → IsMadeHanded b v s (item ∷ []) at
  one_handed true s item at (called, is) = record { some = item ∷ []; others = []; first_ones = refl; makes = inr is }
  one_handed false s item at made_it = made_it

  made_more : (b : Bool) (s : State) (items more : List I) (at : State) → IsMadeAtOnce b v s items at → IsMadeAtOnce b v s (items ++ more) at
  made_more true s items more at m = record {
    some = m.some;
    others = m.others ++ more;
    first_ones = ap (λ l. l ++ more) m.first_ones ∙ append_assoc m.some m.others more;
    makes = m.makes;
  }
  made_more false s [] more at m = absurd m
  made_more false s (item ∷ items) more at m = m

  none_of : (some others : List I) → [] ≡ some ++ others → some ≡ []
  none_of [] others is = refl
  none_of (x ∷ some) others is = absurd (let no : 0 ≡ suc (length (some ++ others)) = ap length is in omega (arith, no))

  -- where nothing is made, it is the state itself
  none_handed : (b : Bool) → v.together ≡ b → (s : State) (ms : List (Told I)) (next : List I) (at : State) → IsMadeHanded b v s [] at → IsMadeBySome v s ms next at
  none_handed false is s ms next at m = absurd m
  none_handed true is s [] next at m =
      let same : at ≡ s = subst (λ l. IsBehind v s l at) (none_of m.some m.others m.first_ones) m.makes in
      subst (λ b. IsMadeHanded b v s next at) (sym is) (record { some = []; others = next; first_ones = refl; makes = same })
  none_handed true is s (x ∷ ms) next at m =
      let same : at ≡ s = subst (λ l. IsBehind v s l at) (none_of m.some m.others m.first_ones) m.makes in
      inl (subst (λ b. IsMadeAtOnce b v s (items_of (x ∷ ms)) at) (sym is) (record { some = []; others = items_of (x ∷ ms); first_ones = refl; makes = same }))

  items_append : (ms ns : List (Told I)) → items_of (ms ++ ns) ≡ items_of ms ++ items_of ns
  items_append [] ns = refl
  items_append (m ∷ ms) ns = ap (λ l. m.item ∷ l) (items_append ms ns)

  -- what some items make, more make
  some_first : (s : State) (ms ns : List (Told I)) (next : List I) (at : State) → IsMadeBySome v s ms [] at → IsMadeBySome v s (ms ++ ns) next at
  some_first s [] ns next at m = none_handed v.together refl s ns next at m
  some_first s (x ∷ ms) ns next at (inl here) = inl (subst (λ l. IsMadeAtOnce v.together v s l at) (sym (items_append (x ∷ ms) ns)) (made_more v.together s (items_of (x ∷ ms)) (items_of ns) at here))
  some_first s (x ∷ ms) ns next at (inr later) = inr (some_first (behind v s x) ms ns next at later)

  some_then : (s : State) (ms ns : List (Told I)) (next : List I) (at : State) → IsMadeBySome v (after v s ms) ns next at → IsMadeBySome v s (ms ++ ns) next at
  some_then s [] ns next at m = m
  some_then s (x ∷ ms) ns next at m = inr (some_then (behind v s x) ms ns next at m)

  after_append : (s : State) (ms ns : List (Told I)) → after v s (ms ++ ns) ≡ after v (after v s ms) ns
  after_append s [] ns = refl
  after_append s (m ∷ ms) ns = after_append (behind v s m) ms ns

  due_append : (s : State) (ms ns : List (Told I)) → AreDue v s ms → AreDue v (after v s ms) ns → AreDue v s (ms ++ ns)
  due_append s [] ns due more = more
  due_append s (m ∷ ms) ns due more = (due.0, due_append (behind v s m) ms ns due.1 more)

-- a list of both, cut at an item
split_at : {A : Type 0} (xs ys before rest : List A) (m : A) → xs ++ ys ≡ before ++ m ∷ rest
    → ((mid : List A) × (xs ≡ before ++ m ∷ mid) × (rest ≡ mid ++ ys)) ⊎ ((mid : List A) × (before ≡ xs ++ mid) × (ys ≡ mid ++ m ∷ rest))
split_at [] ys before rest m is = inr (before, refl, is)
split_at (x ∷ xs) ys [] rest m is =
    let head : x ≡ m = cc in
    let tail : xs ++ ys ≡ rest = cc in
    inl (xs, ap (λ h. h ∷ xs) head, sym tail)
split_at {A} (x ∷ xs) ys (b ∷ before) rest m is =
    let head : x ≡ b = cc in
    let tail : xs ++ ys ≡ before ++ m ∷ rest = cc in
    by_rest head (split_at xs ys before rest m tail)
  where
    by_rest : x ≡ b → ((mid : List A) × (xs ≡ before ++ m ∷ mid) × (rest ≡ mid ++ ys)) ⊎ ((mid : List A) × (before ≡ xs ++ mid) × (ys ≡ mid ++ m ∷ rest))
        → ((mid : List A) × (x ∷ xs ≡ b ∷ before ++ m ∷ mid) × (rest ≡ mid ++ ys)) ⊎ ((mid : List A) × (b ∷ before ≡ x ∷ xs ++ mid) × (ys ≡ mid ++ m ∷ rest))
    by_rest head (inl (mid, first, tail)) = inl (mid, ap₂ (λ (h : A) (l : List A). h ∷ l) head first, tail)
    by_rest head (inr (mid, first, tail)) = inr (mid, ap₂ (λ (h : A) (l : List A). h ∷ l) (sym head) first, tail)

-- ---- runs

holds_made : {I : Type 0} (v : Service I) (s : State) (item : I) (trees : Trees) → HoldsNext (v.answer s item).called (v.answer s item).next trees
    → (at : State) × IsMade v s item at × HoldsState at trees
holds_made v s item trees held =
    let was = was_called (v.answer s item).called (v.answer s item).next trees held in
    ((v.answer s item).next, (was.0, refl), was.1)

-- nothing was handed on
pub lasts_none : {I : Type 0} (v : Service I) (s : State) (now : Standing) → IsSound v.rules s → IfClean (ShowsState s) now → Lasts v s [] [] now now
lasts_none v s now sound was = record {
  due = λ clean. tt;
  shown = λ clean. (s, refl, sound, was clean);
  crash = survives_same (HoldsSome v s [] []) now;
  durable = λ before rest m made. absurd (omega (arith, ap length made.list, length-append before (m ∷ rest)));
}

-- an item for which no text was written whole
lasts_last : {I : Type 0} (v : Service I) (s : State) (item : I) (text : List ℕ) (old new : Standing) → Answers v item text old new → IsSound v.rules s → IfClean (ShowsState s) old
    → Lasts v s [] (item ∷ []) old new
lasts_last v s item text old new step sound was = record {
  due = λ clean. tt;
  shown = λ clean. let it = step.answered clean s sound was in (it.0, by_answer it.0 it.1, it.2, it.3);
  crash = survives_weaker old.connection new.connection (HoldsNext (v.answer s item).called (v.answer s item).next) (HoldsSome v s [] (item ∷ []))
      (λ clean trees held. let it = holds_made v s item trees held in (it.0, one_handed v v.together s item it.0 it.1, it.2)) (step.crash s sound was);
  durable = λ before rest m made. absurd (omega (arith, ap length made.list, length-append before (m ∷ rest)));
}
  where
    by_answer : (next : State) → IsAnswerOrFailed (v.tell item) (v.answer s item) s text next → IsBehind v s (item ∷ []) next
    by_answer next (inl told) = inr told.1
    by_answer next (inr failed) = inl failed.1

-- one item
pub lasts_one : {I : Type 0} (v : Service I) → FaultsChangeNothing v → (s : State) (m : Told I) (old new : Standing) → Answers v m.item m.text old new → IsSound v.rules s → IfClean (ShowsState s) old
    → Lasts v s (m ∷ []) [] old new
lasts_one {I} v calm s m old new step sound was = record {
  due = λ clean. (due v s (step.answered clean s sound was).0 m (step.answered clean s sound was).1, tt);
  shown = λ clean. let it = step.answered clean s sound was in (it.0, behind_is v calm s it.0 m it.1, it.2, it.3);
  crash = survives_weaker old.connection new.connection (HoldsNext (v.answer s m.item).called (v.answer s m.item).next) (HoldsSome v s (m ∷ []) [])
      (λ clean trees held. let it = holds_made v s m.item trees held in (it.0, inl (one_made v v.together s m.item it.0 it.1), it.2)) (step.crash s sound was);
  durable = stays;
}
  where
    stays : (before rest : List (Told I)) (n : Told I) → IsAnsweredCommit v s (m ∷ []) before rest n
        → IfClean (LeavesOnly (λ trees. HoldsState (behind v (after v s before) n) trees ⊎ HoldsSome v (behind v (after v s before) n) rest [] trees)) new
    stays (x ∷ before) rest n made clean = absurd (let long : 1 ≡ suc (length (before ++ n ∷ rest)) = ap length made.list in omega (arith, long, length-append before (n ∷ rest)))
    stays [] rest n made clean = by_answer (step.answered clean s sound was).1
      where
        heads : m ≡ n
        heads = let e = made.list in cc

        same : (v.answer s m.item).next ≡ behind v s n
        same = ap (λ (q : Told I). (v.answer s q.item).next) heads ∙ sym (ap (λ b. if b then s else (v.answer s n.item).next) made.answered)

        by_answer : {at : State} → IsAnswerOrFailed (v.tell m.item) (v.answer s m.item) s m.text at
            → LeavesOnly (λ trees. HoldsState (behind v s n) trees ⊎ HoldsSome v (behind v s n) rest [] trees) new
        by_answer (inl told) = λ trees may.
            inl (subst (λ q. HoldsState q trees) same (step.durable s sound was told.0 (subst (λ (q : Told I). IsCommitted s (v.answer s q.item).called (v.answer s q.item).next) (sym heads) made.commit) clean trees may))
        by_answer (inr failed) = absurd (let e = failed_tells v m failed.0 in let f = ap (tells_fault v) heads in cc)

-- some items, and those that follow
pub lasts_append : {I : Type 0} (v : Service I) (s : State) (ms ns : List (Told I)) (next : List I) (old mid new : Standing) → Lasts v s ms [] old mid
    → ((t : State) → IsSound v.rules t → IfClean (ShowsState t) mid → Lasts v t ns next mid new)
    → IsSound v.rules s → Lasts v s (ms ++ ns) next old new
lasts_append {I} v s ms ns next old mid new first rest sound = record {
  due = λ now. due_append v s ms ns (first.due (clean now)) (subst (λ t. AreDue v t ns) (b.here (clean now)) (it.due now));
  shown = λ now.
      let at = it.shown now in
      (at.0, subst (λ t. IsBehind v t next at.0) (ap (λ t. after v t ns) (b.here (clean now)) ∙ sym (after_append v s ms ns)) at.1, at.2, at.3);
  crash = survives_then old.connection mid.connection new.connection (HoldsSome v s ms []) (HoldsSome v b.at ns next) (HoldsSome v s (ms ++ ns) next)
      (λ now trees made. (made.0, some_first v s ms ns next made.0 made.1, made.2))
      (λ now trees made. (made.0, some_then v s ms ns next made.0 (subst (λ t. IsMadeBySome v t ns next made.0) (b.here (clean now)) made.1), made.2)) first.crash it.crash;
  durable = λ before after_it n made now. stays before after_it n made now (split_at ms ns before after_it n made.list);
}
  where
    b : Shown v (after v s ms) mid
    b = shown_or v s (after v s ms) mid first.shown sound

    it : Lasts v b.at ns next mid new
    it = rest b.at b.sound b.shown

    clean : HasCleanDisk new → HasCleanDisk mid
    clean now = let before : HasCleanDisk mid = omega (arith, it.crash.clean, now) in before

    stays : (before after_it : List (Told I)) (n : Told I) → IsAnsweredCommit v s (ms ++ ns) before after_it n → HasCleanDisk new
        → ((l : List (Told I)) × (ms ≡ before ++ n ∷ l) × (after_it ≡ l ++ ns)) ⊎ ((l : List (Told I)) × (before ≡ ms ++ l) × (ns ≡ l ++ n ∷ after_it))
        → LeavesOnly (λ trees. HoldsState (behind v (after v s before) n) trees ⊎ HoldsSome v (behind v (after v s before) n) after_it next trees) new
    stays before after_it n made now (inl (l, is, tail)) = λ trees may. by_crash trees (it.crash.crash now trees may)
      where
        at_n : State
        at_n = behind v (after v s before) n

        till : after v s ms ≡ after v at_n l
        till = ap (after v s) is ∙ after_append v s before (n ∷ l)

        by_first : (trees : Trees) → HoldsState at_n trees ⊎ HoldsSome v at_n l [] trees → HoldsState at_n trees ⊎ HoldsSome v at_n after_it next trees
        by_first trees (inl held) = inl held
        by_first trees (inr held) = inr (held.0, subst (λ k. IsMadeBySome v at_n k next held.0) (sym tail) (some_first v at_n l ns next held.0 held.1), held.2)

        by_crash : (trees : Trees) → mid.connection.may_leave trees ⊎ HoldsSome v b.at ns next trees → HoldsState at_n trees ⊎ HoldsSome v at_n after_it next trees
        by_crash trees (inl earlier) = by_first trees (first.durable before l n (record { list = is; answered = made.answered; commit = made.commit }) (clean now) trees earlier)
        by_crash trees (inr held) = inr (
          held.0,
          subst (λ k. IsMadeBySome v at_n k next held.0) (sym tail)
              (some_then v at_n l ns next held.0 (subst (λ t. IsMadeBySome v t ns next held.0) (b.here (clean now) ∙ till) held.1)),
          held.2,
        )
    stays before after_it n made now (inr (l, is, tail)) =
        let same : after v b.at l ≡ after v s before = ap (λ t. after v t l) (b.here (clean now)) ∙ sym (after_append v s ms l) ∙ sym (ap (after v s) is) in
        subst (λ t. LeavesOnly (λ trees. HoldsState (behind v t n) trees ⊎ HoldsSome v (behind v t n) after_it next trees) new) same
        (it.durable l after_it n (record {
          list = tail;
          answered = made.answered;
          commit = subst (λ t. IsCommitted t (v.answer t n.item).called (v.answer t n.item).next) (sym same) made.commit;
        }) now)

-- items for which texts were told, if these aren't looked at
pub lasts_untold : {I : Type 0} (v : Service I) (s : State) (items : List I) (texts : List (List ℕ)) (old new : Standing) → length texts ≡ length items → v.together ≡ true
    → Lasts v s (told items texts) [] old new → Lasts v s [] items old new
lasts_untold {I} v s items texts old new count together it = record {
  due = λ clean. tt;
  shown = λ clean. let at = it.shown clean in (at.0, untold_state s items texts at.0 count at.1, at.2, at.3);
  crash = survives_weaker old.connection new.connection (HoldsSome v s (told items texts) []) (HoldsSome v s [] items)
      (λ clean trees held. (held.0, subst (λ b. IsMadeHanded b v s items held.0) (sym together) (untold_made s items texts held.0 count held.1), held.2)) it.crash;
  durable = λ before rest m made. absurd (omega (arith, ap length made.list, length-append before (m ∷ rest)));
}
  where
    by_fault : (s at : State) (item : I) (items : List I) (b : Bool) → IsBehind v (if b then s else (v.answer s item).next) items at → IsBehind v s (item ∷ items) at
    by_fault s at item items true h = inl h
    by_fault s at item items false h = inr h

    untold_state : (s : State) (items : List I) (texts : List (List ℕ)) (at : State) → length texts ≡ length items → at ≡ after v s (told items texts) → IsBehind v s items at
    untold_state s [] texts at count is = is
    untold_state s (item ∷ items) [] at count is = absurd (omega (arith, count))
    untold_state s (item ∷ items) (text ∷ texts) at count is =
        by_fault s at item items (tells_fault v (record { item = item; text = text }))
        (untold_state (behind v s (record { item = item; text = text })) items texts at (omega (arith, count)) is)

    all_made : (s : State) (items : List I) (at : State) → at ≡ made v s items → IsBehind v s items at
    all_made s [] at is = is
    all_made s (item ∷ items) at is = inr (all_made (v.answer s item).next items at is)

    items_told : (items : List I) (texts : List (List ℕ)) → length texts ≡ length items → items_of (told items texts) ≡ items
    items_told [] texts count = refl
    items_told (item ∷ items) [] count = absurd (omega (arith, count))
    items_told (item ∷ items) (text ∷ texts) count = ap (λ l. item ∷ l) (items_told items texts (omega (arith, count)))

    untold_made : (s : State) (items : List I) (texts : List (List ℕ)) (at : State) → length texts ≡ length items → IsMadeBySome v s (told items texts) [] at → IsMadeUntold v s items at
    untold_made s [] texts at count m = subst (λ b. IsMadeHanded b v s [] at) together m
    untold_made s (item ∷ items) [] at count m = absurd (omega (arith, count))
    untold_made s (item ∷ items) (text ∷ texts) at count (inl here) =
        let at_once : IsMadeTogether v s (items_of (told (item ∷ items) (text ∷ texts))) at = subst (λ b. IsMadeAtOnce b v s (items_of (told (item ∷ items) (text ∷ texts))) at) together here in
        record {
          some = at_once.some;
          others = at_once.others;
          first_ones = sym (items_told (item ∷ items) (text ∷ texts) count) ∙ at_once.first_ones;
          makes = all_made s at_once.some at at_once.makes;
        }
    untold_made s (item ∷ items) (text ∷ texts) at count (inr later) =
        let m : Told I = record { item = item; text = text } in
        let rest = untold_made (behind v s m) items texts at (omega (arith, count)) later in
        record {
          some = item ∷ rest.some;
          others = rest.others;
          first_ones = ap (λ l. item ∷ l) rest.first_ones;
          makes = by_fault s at item rest.some (tells_fault v m) rest.makes;
        }

-- ---- whole runs

-- what answers items at a desk
abbrev AnswersBy : {K D I : Type 0} → Service I → Ghosts D → DeskView K D → I → List ℕ → DeskView K D → Type 0
AnswersBy v g old item text new = Answers v item text (state g old.store) (state g new.store)

-- what became of the item behind those that were answered whole
abbrev Ends : {K D I : Type 0} → Service I → Ghosts D → Option I → DeskView K D → DeskView K D → Type 0
Ends v g None old new = new ≡ old
Ends v g (Some item) old new = (text : List ℕ) × AnswersBy v g old item text new

lasts_run : {K D I : Type 0} (v : Service I) → FaultsChangeNothing v → (g : Ghosts D) (items : List I) (texts : List (List ℕ)) (next : Option I) (old last new : DeskView K D)
    → Run (AnswersBy v g) old items texts last → Ends v g next last new → (s : State) → IsSound v.rules s → IfClean (ShowsState s) (state g old.store)
    → Lasts v s (told items texts) (listed next) (state g old.store) (state g new.store)
lasts_run v calm g [] [] None old last new run ends s sound was =
    subst (λ d. Lasts v s [] [] (state g old.store) (state g d.store)) (sym (ends ∙ run)) (lasts_none v s (state g old.store) sound was)
lasts_run v calm g [] [] (Some item) old last new run ends s sound was =
    lasts_last v s item ends.0 (state g old.store) (state g new.store) (subst (λ d. Answers v item ends.0 (state g d.store) (state g new.store)) run ends.1) sound was
lasts_run v calm g [] (text ∷ texts) next old last new run ends s sound was = absurd run
lasts_run v calm g (item ∷ items) [] next old last new run ends s sound was = absurd run
lasts_run v calm g (item ∷ items) (text ∷ texts) next old last new run ends s sound was =
    lasts_append v s (record { item = item; text = text } ∷ []) (told items texts) (listed next) (state g old.store) (state g run.0.store) (state g new.store)
    (lasts_one v calm s (record { item = item; text = text }) (state g old.store) (state g run.0.store) run.1 sound was)
    (λ t. lasts_run v calm g items texts next run.0 last new run.2 ends t) sound

-- items are answered as the service of the desk's scheme says, and the scheme stays
abbrev pub Serves : {K D I : Type 0} → (K → Service I) → Ghosts D → (DeskView K D → I → List ℕ → DeskView K D → Type 0) → Type 0
Serves {K} {D} {I} u g gives = (old new : DeskView K D) (item : I) (text : List ℕ) → gives old item text new
    → (new.scheme ≡ old.scheme) × Answers (u old.scheme) item text (state g old.store) (state g new.store)

-- one service answers all items of a run
by_one : {K D I : Type 0} (u : K → Service I) (g : Ghosts D) (gives : DeskView K D → I → List ℕ → DeskView K D → Type 0) → Serves u g gives → (q : K) (items : List I) (texts : List (List ℕ)) (old new : DeskView K D)
    → old.scheme ≡ q → Run gives old items texts new → Run (AnswersBy (u q) g) old items texts new × (new.scheme ≡ q)
by_one u g gives serves q [] [] old new same run = (run, ap (λ d. d.scheme) run ∙ same)
by_one u g gives serves q [] (text ∷ texts) old new same run = absurd run
by_one u g gives serves q (item ∷ items) [] old new same run = absurd run
by_one u g gives serves q (item ∷ items) (text ∷ texts) old new same run =
    let step = serves old run.0 item text run.1 in
    let rest = by_one u g gives serves q items texts run.0 new (step.0 ∙ same) run.2 in
    ((run.0, subst (λ p. Answers (u p) item text (state g old.store) (state g run.0.store)) same step.1, rest.0), rest.1)

ends_of : {K D I : Type 0} (u : K → Service I) (g : Ghosts D) (gives : DeskView K D → I → List ℕ → DeskView K D → Type 0) → Serves u g gives → (next : Option I) (q : K) (old new : DeskView K D)
    → old.scheme ≡ q → HandsOn gives next old new → Ends (u q) g next old new
ends_of u g gives serves None q old new same hands = hands
ends_of u g gives serves (Some item) q old new same hands = (hands.0, subst (λ p. AnswersBy (u p) g old item hands.0 new) same (serves old new item hands.0 hands.1).1)

pub runs_last : {K D I : Type 0} (u : K → Service I) (g : Ghosts D) (gives : DeskView K D → I → List ℕ → DeskView K D → Type 0) → ((q : K) → FaultsChangeNothing (u q)) → Serves u g gives → RunsLast u g gives
runs_last u g gives calm serves items texts next old last new run hands =
    let all = by_one u g gives serves old.scheme items texts old last refl run in
    lasts_run (u old.scheme) (calm old.scheme) g items texts next old last new all.0 (ends_of u g gives serves next old.scheme last new all.1 hands)

-- a run that broke off at an item handed that on
pub hands_on : {S I : Type 0} (gives : S → I → List ℕ → S → Type 0) (print : List ℕ → List ℕ) (cause : ScriptCause) (next : Option I) (old new : S) (prefix : List ℕ) → Breaks gives print cause next old new prefix
    → HandsOn gives next old new
hands_on gives print cause None old new prefix breaks = breaks.1
hands_on gives print cause (Some item) old new prefix breaks = (breaks.0, breaks.1)
