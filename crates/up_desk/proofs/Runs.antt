-- Calls one after another, and what they come to.
use Rattle.std.proofs.Common.{◌≡◌, inl, inr, ℕ, zero, suc, ◌+◌, ◌<◌, ◌≤◌, List, [], ◌∷◌, ◌++◌, Bool, true, false, Option, Some, None, length, length-append, get_or, take, map, append-nil, append_assoc, refl, sym, ap, ap₂, ◌∙◌, subst, arith}
use Rattle.std.proofs.lemmas.List.{take_more, take_all}
use Rattle.std.specs.Prelude.{◌⊎◌, Result, Ok, Err, is_ok, is_some, MatchBool, IsTrue, IfSome, if◌then◌else◌}
use Rattle.std.specs.List.{AllByRecursion}
use Rattle.std.specs.FinMap as table
use Rattle.sqlite_trees.specs.View.{doubt}
use Rattle.sqlite.specs.Tree.{Trees}
use Rattle.sqlite.proofs.StateLemmas.{survives_then}
use Rattle.up_sign.specs.Schemes.{Rules}
use Rattle.up_machine.specs.declared.command.Command.{Command}
use Rattle.up_machine.specs.declared.answer.Answer.{Answer}
use Rattle.up_machine.specs.declared.answer.Answer.TheVariants.{Refused}
use Rattle.up_machine.specs.Commands.{is_command}
use Rattle.up_machine.specs.State.{State}
use Rattle.up_machine.specs.Machine.{run}
use Rattle.up_machine.specs.Repeats.{Sent, Met, meet, repeat_of, serve, after, thinned, expected}
use Rattle.up_machine.specs.Sound.{IsSound}
use Rattle.up_machine.specs.RepeatLaws.{AreCommands, RepeatsChangeNothing, ServedIsThinned}
use Rattle.up_machine.specs.ApartLaws.{VehiclesStandApart, DeliveriesCommute, AreExchanged}
use Rattle.up_machine.specs.Laws.{KeptRepliesOutlastRuns}
use Rattle.up_machine.specs.Replies.{kept_reply}
use Rattle.up_records.specs.Standing.{Standing, HasCleanDisk, IfClean, ShowsState, Survives, LeavesOnly}
use Rattle.up_desk.specs.Serving.{IsCommit, is_failed, IsAnswered, outright}
use Rattle.up_records.specs.Standing.{HoldsState}
use Rattle.up_desk.specs.Calls.{CommitsCall, IsCalled, IsServed, ServesCall, SparesCall}
use Rattle.up_desk.specs.Runs.{AreCalled, AreOutright, AreNeighbours, timed, sent, unless_failed, IsRun, outcome_behind, ServesEach, carried_out, ComesTo, SparesCalls, IsAnsweredCommit, StaysOrComesTo, OutlastsCalls, CommitsCalls}

-- ---- one more call

pub ran_next : (k : Rules) (old : State) (cs : List (ℕ × Command)) (answers : List Answer) (mid : State) (c : ℕ × Command) (a : Answer) (new : State)
    → ServesEach k old cs answers mid → IsAnswered a mid new (serve k mid c.0 c.1) → IsTrue (is_command c.1) → ServesEach k old (cs ++ c ∷ []) (answers ++ a ∷ []) new
ran_next k old [] [] mid c a new ran is fits = (new, subst (λ s. IsAnswered a s new (serve k s c.0 c.1)) ran is, fits, refl)
ran_next k old [] (b ∷ answers) mid c a new ran is fits = absurd ran
ran_next k old (d ∷ cs) [] mid c a new ran is fits = absurd ran
ran_next k old (d ∷ cs) (b ∷ answers) mid c a new ran is fits = (ran.0, ran.1, ran.2, ran_next k ran.0 cs answers mid c a new ran.3 is fits)

pub outright_next : (k : Rules) (cs : List (ℕ × Command)) (answers : List Answer) (c : ℕ × Command) (a : Answer) → AreOutright k cs answers
    → IfSome (outright k c.0 c.1) (λ r. a ≡ Refused r) → AreOutright k (cs ++ c ∷ []) (answers ++ a ∷ [])
outright_next k [] [] c a all due = (due, tt)
outright_next k [] (b ∷ answers) c a all due = absurd all
outright_next k (d ∷ cs) [] c a all due = absurd all
outright_next k (d ∷ cs) (b ∷ answers) c a all due = (all.0, outright_next k cs answers c a all.1 due)

-- ---- the whole list

abbrev pub item : Bool → ℕ × Command → Sent
item lost c = record { item = timed c; lost = lost }

record IsRunBy (k : Rules) (old : State) (c : ℕ × Command) (a : Answer) (lost : Bool) (ms : List Sent) (answers : List Answer) (new : State) : Type 0 where
  told : (if lost then None else Some a) ∷ map unless_failed answers ≡ expected k old (item lost c ∷ ms)
  state : new ≡ after k old (item lost c ∷ ms)

by_loss : (k : Rules) (old mid new : State) (c : ℕ × Command) (a : Answer) (ms : List Sent) (answers : List Answer) (lost : Bool)
    → MatchBool lost (mid ≡ old) ((a ≡ (serve k old c.0 c.1).answer) × (mid ≡ (serve k old c.0 c.1).next))
    → map unless_failed answers ≡ expected k mid ms → new ≡ after k mid ms → IsRunBy k old c a lost ms answers new
by_loss k old mid new c a ms answers true is told state = record {
  told = ap (λ (es : List (Option Answer)). None ∷ es) (told ∙ ap (λ (s : State). expected k s ms) is);
  state = state ∙ ap (λ (s : State). after k s ms) is;
}
by_loss k old mid new c a ms answers false is told state = record {
  told = ap₂ (λ (x : Answer) (es : List (Option Answer)). Some x ∷ es) is.0 (told ∙ ap (λ (s : State). expected k s ms) is.1);
  state = state ∙ ap (λ (s : State). after k s ms) is.1;
}

pub record IsServedAll (k : Rules) (old : State) (cs : List (ℕ × Command)) (answers : List Answer) (new : State) : Type 0 where
  pub count : length answers ≡ length cs
  pub told : map unless_failed answers ≡ expected k old (sent cs answers)
  pub state : new ≡ after k old (sent cs answers)
  pub fits : AreCommands (sent cs answers)

pub ran_served : (k : Rules) (old : State) (cs : List (ℕ × Command)) (answers : List Answer) (new : State) → ServesEach k old cs answers new → IsServedAll k old cs answers new
ran_served k old [] [] new ran = record { count = refl; told = refl; state = ran; fits = tt }
ran_served k old [] (a ∷ answers) new ran = absurd ran
ran_served k old (c ∷ cs) [] new ran = absurd ran
ran_served k old (c ∷ cs) (a ∷ answers) new ran =
    let rest = ran_served k ran.0 cs answers new ran.3 in
    let whole = by_loss k old ran.0 new c a (sent cs answers) answers (is_failed a) ran.1 rest.told rest.state in
    record { count = ap suc rest.count; told = whole.told; state = whole.state; fits = (ran.2, rest.fits) }

-- ---- lists that grow at their end

snoc_ends : {A : Type 0} (xs ys : List A) (x y : A) → xs ++ x ∷ [] ≡ ys ++ y ∷ [] → (xs ≡ ys) × (x ≡ y)
snoc_ends [] [] x y h = (refl, cc)
snoc_ends [] (b ∷ ys) x y h = absurd (omega (arith, ap length h, length-append ys (y ∷ [])))
snoc_ends (b ∷ xs) [] x y h = absurd (omega (arith, ap length h, length-append xs (x ∷ [])))
snoc_ends (b ∷ xs) (d ∷ ys) x y h =
    let tails : xs ++ x ∷ [] ≡ ys ++ y ∷ [] = cc in
    let heads : b ≡ d = cc in
    let rest = snoc_ends xs ys x y tails in
    (λ i. heads i ∷ rest.0 i, rest.1)

last_of : {A : Type 0} (zs : List A) → (zs ≡ []) ⊎ ((ys : List A) × (y : A) × (zs ≡ ys ++ y ∷ []))
last_of [] = inl refl
last_of {A} (z ∷ zs) = by_rest (last_of zs)
  where
    by_rest : (zs ≡ []) ⊎ ((ys : List A) × (y : A) × (zs ≡ ys ++ y ∷ [])) → (z ∷ zs ≡ []) ⊎ ((ys : List A) × (y : A) × (z ∷ zs ≡ ys ++ y ∷ []))
    by_rest (inl none) = inr ([], z, ap (λ (l : List A). z ∷ l) none)
    by_rest (inr (ys, y, is)) = inr (z ∷ ys, y, ap (λ (l : List A). z ∷ l) is)

pub all_parts : {A : Type 0} (P : A → Type 0) (xs ys : List A) → AllByRecursion P (xs ++ ys) → AllByRecursion P xs × AllByRecursion P ys
all_parts P [] ys all = (tt, all)
all_parts P (x ∷ xs) ys all = let rest = all_parts P xs ys all.1 in ((all.0, rest.0), rest.1)

longer : {A : Type 0} (xs ys zs : List A) (x : A) → xs ++ ys ++ zs ++ x ∷ [] ≡ xs ++ ys ++ (zs ++ x ∷ [])
longer xs ys zs x = append_assoc (xs ++ ys) zs (x ∷ [])

sent_next : (k : Rules) (cs : List (ℕ × Command)) (answers : List Answer) (c : ℕ × Command) (a : Answer) → AreOutright k cs answers
    → sent (cs ++ c ∷ []) (answers ++ a ∷ []) ≡ sent cs answers ++ item (is_failed a) c ∷ []
sent_next k [] [] c a all = refl
sent_next k [] (b ∷ answers) c a all = absurd all
sent_next k (d ∷ cs) [] c a all = absurd all
sent_next k (d ∷ cs) (b ∷ answers) c a all = ap (λ (ms : List Sent). item (is_failed b) d ∷ ms) (sent_next k cs answers c a all.1)

after_append : (k : Rules) (s : State) (ms ns : List Sent) → after k s (ms ++ ns) ≡ after k (after k s ms) ns
after_append k s [] ns = refl
after_append k s (m ∷ ms) ns = after_append k (meet k s m).next ms ns

-- what a command meets that is told to be lost or not
abbrev met : Rules → State → Sent → Bool → Met
met k s m b = if b then record { sent = m; is_repeat = false; answer = None; next = s } else
    let o = serve k s m.item.at m.item.command in
    record { sent = m; is_repeat = is_some (repeat_of k s m.item.at m.item.command); answer = Some o.answer; next = o.next }

-- the state after one command, which was lost or not
met_by : (k : Rules) (s next : State) (m : Sent) (lost : Bool) → m.lost ≡ lost → MatchBool lost (s ≡ next) ((serve k s m.item.at m.item.command).next ≡ next) → (meet k s m).next ≡ next
met_by k s next m lost is = by_fault lost (ap (met k s m) is)
  where
    by_fault : (b : Bool) → met k s m m.lost ≡ met k s m b → MatchBool b (s ≡ next) ((serve k s m.item.at m.item.command).next ≡ next) → (met k s m m.lost).next ≡ next
    by_fault true same h = ap (λ (r : Met). r.next) same ∙ h
    by_fault false same h = ap (λ (r : Met). r.next) same ∙ h

met_unchanged : (k : Rules) (s : State) (m : Sent) → (serve k s m.item.at m.item.command).next ≡ s → (meet k s m).next ≡ s
met_unchanged k s m h = met_by k s s m m.lost refl (by_fault m.lost)
  where
    by_fault : (b : Bool) → MatchBool b (s ≡ s) ((serve k s m.item.at m.item.command).next ≡ s)
    by_fault true = refl
    by_fault false = h

pub after_unchanged : (k : Rules) (s : State) (ms : List Sent) → AllByRecursion (λ n. (serve k s n.item.at n.item.command).next ≡ s) ms → after k s ms ≡ s
after_unchanged k s [] all = refl
after_unchanged k s (m ∷ ms) all = ap (λ t. after k t ms) (met_unchanged k s m all.0) ∙ after_unchanged k s ms all.1

-- ---- over the store

-- the commands have run, over a clean disk: from each state that the tables showed
abbrev RunsFrom : Rules → Standing → Standing → List (ℕ × Command) → List Answer → Type 0
RunsFrom k old new cs answers =
    HasCleanDisk new → (s : State) → IsSound k s → IfClean (ShowsState s) old → (next : State) × ServesEach k s cs answers next × IsSound k next × ShowsState next new

runs_next : (k : Rules) (old mid new : Standing) (cs : List (ℕ × Command)) (c : ℕ × Command) (answers : List Answer) (a : Answer)
    → RunsFrom k old mid cs answers → (HasCleanDisk new → HasCleanDisk mid) → ServesCall k c.0 c.1 a mid new → IsTrue (is_command c.1) → RunsFrom k old new (cs ++ c ∷ []) (answers ++ a ∷ [])
runs_next k old mid new cs c answers a runs clean serves fits = λ now s sound was.
    let before = runs (clean now) s sound was in
    let here = serves now before.0 before.2 (λ _. before.3) in
    (here.0, ran_next k s cs answers before.0 c a here.0 before.1 here.1 fits, here.3, here.4)

-- the state that the tables show between two calls; over a disk that isn't clean any sound state stands for it
record Between (k : Rules) (s : State) (mid : Standing) (cs : List (ℕ × Command)) (answers : List Answer) : Type 0 where
  at : State
  sound : IsSound k at
  shown : IfClean (ShowsState at) mid
  ran : HasCleanDisk mid → ServesEach k s cs answers at

between : (k : Rules) (old mid : Standing) (cs : List (ℕ × Command)) (answers : List Answer) → RunsFrom k old mid cs answers → (s : State) → IsSound k s → IfClean (ShowsState s) old
    → Between k s mid cs answers
between k old mid cs answers runs s sound was = by_disk (doubt mid.connection.is_clean) refl
  where
    by_disk : (d : ℕ) → doubt mid.connection.is_clean ≡ d → Between k s mid cs answers
    by_disk zero now = let it = runs now s sound was in record { at = it.0; sound = it.2; shown = λ _. it.3; ran = λ _. it.1 }
    by_disk (suc d) other = record { at = s; sound = sound; shown = λ now. absurd (omega (arith, now, other)); ran = λ now. absurd (omega (arith, now, other)) }

-- a crash behind one more call
spares_next : (k : Rules) (old mid new : Standing) (cs : List (ℕ × Command)) (c : ℕ × Command) (answers : List Answer) (a : Answer)
    → SparesCalls k cs answers old mid → RunsFrom k old mid cs answers → AreOutright k cs answers → (HasCleanDisk new → HasCleanDisk mid) → SparesCall k c.0 c.1 mid new
    → SparesCalls k (cs ++ c ∷ []) (answers ++ a ∷ []) old new
spares_next k old mid new cs c answers a far runs due clean spares = λ s sound was.
    let b = between k old mid cs answers runs s sound was in
    let x = item (is_failed a) c in
    let more : sent (cs ++ c ∷ []) (answers ++ a ∷ []) ≡ sent cs answers ++ x ∷ [] = sent_next k cs answers c a due in
    survives_then old.connection mid.connection new.connection (λ trees. (at : State) × ComesTo k s (sent cs answers) at × HoldsState at trees) (HoldsState (serve k b.at c.0 c.1).next)
    (λ trees. (at : State) × ComesTo k s (sent (cs ++ c ∷ []) (answers ++ a ∷ [])) at × HoldsState at trees)
    (λ now trees h. (
      h.0,
      (h.1.0, h.1.1, h.1.2 ++ x ∷ [], more ∙ ap (λ (l : List Sent). l ++ x ∷ []) h.1.3 ∙ longer h.1.0 h.1.1 h.1.2 x, h.1.4),
      h.2,
    ))
    (λ now trees holds. (
      (serve k b.at c.0 c.1).next,
      (sent cs answers, x ∷ [], [], more ∙ sym (append-nil (sent cs answers ++ x ∷ [])), ap (λ (t : State). (serve k t c.0 c.1).next) (ran_served k s cs answers b.at (b.ran (clean now))).state),
      holds,
    ))
    (far s sound was) (spares b.at b.sound b.shown)

-- ---- what was answered stays

-- the state after the commands behind one that was answered
pub behind_answered : (k : Rules) (s : State) (before rest : List Sent) (m : Sent) → m.lost ≡ false → after k s (before ++ m ∷ rest) ≡ after k (outcome_behind k s before m).next rest
behind_answered k s before rest m answered =
    after_append k s before (m ∷ rest) ∙ ap (λ (t : State). after k t rest) (met_by k (after k s before) (outcome_behind k s before m).next m false answered refl)

-- the last call was a commit that was answered
commit_last : (k : Rules) (s at next : State) (c : ℕ × Command) (a : Answer) (ms : List Sent) (mid new : Standing) → at ≡ after k s ms → is_failed a ≡ false
    → IsAnswered a at next (serve k at c.0 c.1)
    → IsCommit (after k s ms) (serve k (after k s ms) c.0 c.1).answer (serve k (after k s ms) c.0 c.1).next
    → CommitsCall k c.0 c.1 a mid new → IsSound k at → IfClean (ShowsState at) mid → HasCleanDisk new → LeavesOnly (HoldsState (serve k (after k s ms) c.0 c.1).next) new
commit_last k s at next c a ms mid new here told answered commit commits sound shown now =
    let same : a ≡ (serve k at c.0 c.1).answer =
    (let it : MatchBool false (next ≡ at) ((a ≡ (serve k at c.0 c.1).answer) × (next ≡ (serve k at c.0 c.1).next)) =
    subst (λ lost. MatchBool lost (next ≡ at) ((a ≡ (serve k at c.0 c.1).answer) × (next ≡ (serve k at c.0 c.1).next))) told answered in it.0) in
    let made : IsCommit at a (serve k at c.0 c.1).next =
    subst (λ (b : Answer). IsCommit at b (serve k at c.0 c.1).next) (sym same)
    (subst (λ (t : State). IsCommit t (serve k t c.0 c.1).answer (serve k t c.0 c.1).next) (sym here) commit) in
    subst (λ (t : State). LeavesOnly (HoldsState (serve k t c.0 c.1).next) new) here (commits at sound shown made now)

-- what some commands come to, these and one more do
comes_on : (k : Rules) (s : State) (ys rest : List Sent) (y : Sent) (at : State) → rest ≡ ys ++ y ∷ [] → StaysOrComesTo k s ys at → StaysOrComesTo k s rest at
comes_on k s ys rest y at is (inl same) = inl same
comes_on k s ys rest y at is (inr it) =
    inr (it.0, it.1, it.2 ++ y ∷ [], is ∙ ap (λ (l : List Sent). l ++ y ∷ []) it.3 ∙ longer it.0 it.1 it.2 y, it.4)

-- a crash behind a commit and one more call
stays_next : (k : Rules) (s at : State) (ys rest : List Sent) (y : Sent) (c : ℕ × Command) (mid new : Standing) → rest ≡ ys ++ y ∷ [] → (serve k at c.0 c.1).next ≡ (outcome_behind k s ys y).next
    → LeavesOnly (λ trees. (t : State) × StaysOrComesTo k s ys t × HoldsState t trees) mid → Survives mid new (HoldsState (serve k at c.0 c.1).next) → HasCleanDisk new
    → LeavesOnly (λ trees. (t : State) × StaysOrComesTo k s rest t × HoldsState t trees) new
stays_next k s at ys rest y c mid new is made before spares now = λ trees left. by_call trees (spares.crash now trees left)
  where
    by_call : (trees : Trees) → mid.connection.may_leave trees ⊎ HoldsState (serve k at c.0 c.1).next trees → (t : State) × StaysOrComesTo k s rest t × HoldsState t trees
    by_call trees (inl earlier) = let it = before trees earlier in (it.0, comes_on k s ys rest y it.0 is it.1, it.2)
    by_call trees (inr holds) = ((serve k at c.0 c.1).next, inr (ys, y ∷ [], [], is ∙ sym (append-nil (ys ++ y ∷ [])), made), holds)

-- what stays of each commit behind one more call
outlasts_next : (k : Rules) (old mid new : Standing) (cs : List (ℕ × Command)) (c : ℕ × Command) (answers : List Answer) (a : Answer)
    → OutlastsCalls k cs answers old mid → RunsFrom k old mid cs answers → AreOutright k cs answers → (HasCleanDisk new → HasCleanDisk mid)
    → ServesCall k c.0 c.1 a mid new → SparesCall k c.0 c.1 mid new → CommitsCall k c.0 c.1 a mid new → OutlastsCalls k (cs ++ c ∷ []) (answers ++ a ∷ []) old new
outlasts_next k old mid new cs c answers a far runs due clean serves spares commits = λ s sound was before rest m made now.
    let b = between k old mid cs answers runs s sound was in
    let here : b.at ≡ after k s (sent cs answers) = (ran_served k s cs answers b.at (b.ran (clean now))).state in
    by_rest s sound was before rest m made now b here (sym (sent_next k cs answers c a due) ∙ made.list) (serves now b.at b.sound b.shown) (last_of rest)
  where
    by_rest : (s : State) → IsSound k s → IfClean (ShowsState s) old → (before rest : List Sent) (m : Sent) → IsAnsweredCommit k s (sent (cs ++ c ∷ []) (answers ++ a ∷ [])) before rest m → HasCleanDisk new
        → (b : Between k s mid cs answers) → b.at ≡ after k s (sent cs answers) → sent cs answers ++ item (is_failed a) c ∷ [] ≡ before ++ m ∷ rest
        → IsServed k b.at c.0 c.1 a new → (rest ≡ []) ⊎ ((ys : List Sent) × (y : Sent) × (rest ≡ ys ++ y ∷ []))
        → LeavesOnly (λ trees. (at : State) × StaysOrComesTo k (outcome_behind k s before m).next rest at × HoldsState at trees) new
    by_rest s sound was before rest m made now b here list served (inl none) =
        let ends = snoc_ends (sent cs answers) before (item (is_failed a) c) m (list ∙ ap (λ (l : List Sent). before ++ m ∷ l) none) in
        let o = outcome_behind k s before m in
        let same : (outcome_behind k s (sent cs answers) (item (is_failed a) c)).next ≡ o.next = ap₂ (λ (l : List Sent) (n : Sent). (outcome_behind k s l n).next) ends.0 ends.1 in
        let left = commit_last k s b.at served.0 c a (sent cs answers) mid new here (ap (λ (n : Sent). n.lost) ends.1 ∙ made.answered) served.1
        (subst (λ (l : List Sent). IsCommit (after k s l) (outcome_behind k s l (item (is_failed a) c)).answer (outcome_behind k s l (item (is_failed a) c)).next) (sym ends.0)
        (subst (λ (n : Sent). IsCommit (after k s before) (outcome_behind k s before n).answer (outcome_behind k s before n).next) (sym ends.1) made.commit))
        commits b.sound b.shown now in
        λ trees may. (o.next, inl refl, subst (λ (t : State). HoldsState t trees) same (left trees may))
    by_rest s sound was before rest m made now b here list served (inr (ys, y, is)) =
        let ends = snoc_ends (sent cs answers) (before ++ m ∷ ys) (item (is_failed a) c) y
        (list ∙ ap (λ (l : List Sent). before ++ m ∷ l) is ∙ sym (append_assoc before (m ∷ ys) (y ∷ []))) in
        let o = outcome_behind k s before m in
        let till : b.at ≡ after k o.next ys = here ∙ ap (λ (l : List Sent). after k s l) ends.0 ∙ behind_answered k s before ys m made.answered in
        stays_next k o.next b.at ys rest y c mid new is
        (ap (λ (t : State). (serve k t c.0 c.1).next) till ∙ ap (λ (n : Sent). (outcome_behind k o.next ys n).next) ends.1)
        (far s sound was before ys m (record { list = ends.0; answered = made.answered; commit = made.commit }) (clean now))
        (spares b.at b.sound b.shown) now

-- whether or not their answers were lost
carried_unchanged : (k : Rules) (s : State) (ms : List Sent) → AllByRecursion (λ n. (serve k s n.item.at n.item.command).next ≡ s) ms
    → AllByRecursion (λ n. (serve k s n.item.at n.item.command).next ≡ s) (map carried_out ms)
carried_unchanged k s [] all = tt
carried_unchanged k s (m ∷ ms) all = (all.0, carried_unchanged k s ms all.1)

-- commands that change nothing come to nothing else
unmoved : (k : Rules) (s : State) (ms : List Sent) (at : State) → AllByRecursion (λ n. (serve k s n.item.at n.item.command).next ≡ s) ms → StaysOrComesTo k s ms at → at ≡ s
unmoved k s ms at all (inl same) = same
unmoved k s ms at all (inr it) =
    let P = λ (n : Sent). (serve k s n.item.at n.item.command).next ≡ s in
    let quiet = all_parts P it.0 it.1 (all_parts P (it.0 ++ it.1) it.2 (subst (λ (l : List Sent). AllByRecursion P l) it.3 all)).0 in
    it.4 ∙ ap (λ (t : State). after k t (map carried_out it.1)) (after_unchanged k s it.0 quiet.0)
    ∙ after_unchanged k s (map carried_out it.1) (carried_unchanged k s it.1 quiet.1)

-- where behind a commit no command changes the state, it is that after the whole list
pub last_stays : (k : Rules) (old new : Standing) (cs : List (ℕ × Command)) (answers : List Answer) → OutlastsCalls k cs answers old new → CommitsCalls k cs answers old new
last_stays k old new cs answers stays = λ s sound was before rest m last now trees left.
    let o = outcome_behind k s before m in
    let it = stays s sound was before rest m last.made now trees left in
    let end : after k s (sent cs answers) ≡ o.next =
    ap (λ (l : List Sent). after k s l) last.made.list ∙ behind_answered k s before rest m last.made.answered ∙ after_unchanged k o.next rest last.unchanged in
    subst (λ (t : State). HoldsState t trees) (unmoved k o.next rest it.0 last.unchanged it.1 ∙ sym end) it.2

-- so many commands have run, with as many answers after those that were there
pub record SoFar (k : Rules) (old new : Standing) (cs : List (ℕ × Command)) (held answers : List Answer) : Type 0 where
  pub given : List Answer
  pub items : answers ≡ held ++ given
  pub due : AreOutright k cs given
  pub runs : RunsFrom k old new cs given
  pub spares : SparesCalls k cs given old new
  pub outlasts : OutlastsCalls k cs given old new
  pub clean : HasCleanDisk new → HasCleanDisk old

pub none_so_far : (k : Rules) (s : Standing) (cs : List (ℕ × Command)) (held answers : List Answer) → answers ≡ held → SoFar k s s (take 0 cs) held answers
none_so_far k s cs held answers same = record {
  given = [];
  items = same ∙ sym (append-nil held);
  due = tt;
  runs = λ now t sound was. (t, refl, sound, was now);
  spares = λ t sound was. record { clean = omega arith; shield = λ h. h; counts = omega arith; limit = refl; closes = λ now h. inl h; crash = λ now trees h. inl h };
  outlasts = λ t sound was before rest m made now. absurd (omega (arith, ap length made.list, length-append before (m ∷ rest)));
  clean = λ now. now;
}

so_far_next : (k : Rules) (old mid new : Standing) (cs : List (ℕ × Command)) (c : ℕ × Command) (held answers more : List Answer) (a : Answer)
    → SoFar k old mid cs held answers → more ≡ answers ++ a ∷ [] → IsTrue (is_command c.1) → IsCalled k c.0 c.1 a mid new → SoFar k old new (cs ++ c ∷ []) held more
so_far_next k old mid new cs c held answers more a far pushed fits call = record {
  given = far.given ++ a ∷ [];
  items = pushed ∙ ap (λ (items : List Answer). items ++ a ∷ []) far.items ∙ append_assoc held far.given (a ∷ []);
  due = outright_next k cs far.given c a far.due call.outright;
  runs = runs_next k old mid new cs c far.given a far.runs call.clean call.served fits;
  spares = spares_next k old mid new cs c far.given a far.spares far.runs far.due call.clean call.crash;
  outlasts = outlasts_next k old mid new cs c far.given a far.outlasts far.runs far.due call.clean call.served call.crash call.durable;
  clean = λ now. far.clean (call.clean now);
}

-- one call more, by a scheme that is the same
pub one_more : (k j : Rules) (old mid new : Standing) (cs : List (ℕ × Command)) (i : ℕ) (c : ℕ × Command) (held answers more : List Answer) (a : Answer)
    → i < length cs → c ≡ get_or cs i c → j ≡ k → SoFar k old mid (take i cs) held answers → more ≡ answers ++ a ∷ [] → IsTrue (is_command c.1)
    → IsCalled j c.0 c.1 a mid new → SoFar k old new (take (i + 1) cs) held more
one_more k j old mid new cs i c held answers more a within item scheme far pushed fits call =
    let taken : take (i + 1) cs ≡ take i cs ++ c ∷ [] = take_more cs i c within ∙ ap (λ x. take i cs ++ x ∷ []) (sym item) in
    subst (λ (xs : List (ℕ × Command)). SoFar k old new xs held more) (sym taken)
    (so_far_next k old mid new (take i cs) c held answers more a far pushed fits (subst (λ rules. IsCalled rules c.0 c.1 a mid new) scheme call))

-- what went through
pub chosen_ok : {T E A : Type 0} (r : Result T E) (x : T) (new there else_there : A) → r ≡ Ok x → new ≡ (if is_ok r then there else else_there) → new ≡ there
chosen_ok (Ok y) x new there other h is = is
chosen_ok (Err e) x new there other h is = cc

-- ---- the laws of a list

-- the laws of the machine that tell what a list of calls comes to
pub record ListLaws : Type 0 where
  pub served : ServedIsThinned
  pub repeats : RepeatsChangeNothing
  pub replies : KeptRepliesOutlastRuns
  pub apart : VehiclesStandApart
  pub exchanged : DeliveriesCommute

swapped : (laws : ListLaws) (k : Rules) (old : State) (cs : List (ℕ × Command)) (answers : List Answer) (new : State) → IsServedAll k old cs answers new
    → (before rest : List Sent) (m n : Sent) → AreNeighbours (sent cs answers) before rest m n
    → (new ≡ run k old (thinned k old (before ++ n ∷ m ∷ rest))) × AreExchanged (length before) (map unless_failed answers) (expected k old (before ++ n ∷ m ∷ rest))
swapped laws k old cs answers new whole before rest m n there =
    let swap = laws.exchanged k old before rest m n there.first there.second there.first_is there.second_is there.differ in (
      whole.state ∙ ap (λ (ms : List Sent). after k old ms) there.list ∙ swap.0 ∙ laws.served k old (before ++ n ∷ m ∷ rest),
      subst (λ (es : List (Option Answer)). AreExchanged (length before) es (expected k old (before ++ n ∷ m ∷ rest)))
          (sym (whole.told ∙ ap (λ (ms : List Sent). expected k old ms) there.list)) swap.1,
    )

pub ran_all : (laws : ListLaws) (k : Rules) (old : State) (cs : List (ℕ × Command)) (answers : List Answer) (new : State) → IsSound k old → ServesEach k old cs answers new
    → IsRun k old cs answers new
ran_all laws k old cs answers new sound ran =
    let whole = ran_served k old cs answers new ran in
    let state : new ≡ run k old (thinned k old (sent cs answers)) = whole.state ∙ laws.served k old (sent cs answers) in
    record {
      count = whole.count;
      told = whole.told;
      state = state;
      with_repeats = state ∙ laws.repeats k old (sent cs answers) whole.fits sound;
      stays = λ vehicle number reply kept.
          subst (λ (s : State). kept_reply s vehicle number ≡ Some reply) (sym state) (laws.replies k old (thinned k old (sent cs answers)) vehicle number reply kept);
      apart = λ name.
          let alone = laws.apart k old name (sent cs answers) in
          (ap (λ (s : State). table.get s.vehicles name) whole.state ∙ alone.0, alone.1);
      exchanged = swapped laws k old cs answers new whole;
    }

-- over the store, the answers and the state that the tables show then
pub called_so_far : (laws : ListLaws) (k : Rules) (old new : Standing) (cs : List (ℕ × Command)) (held answers : List Answer) → SoFar k old new cs held answers → AreCalled k cs held answers old new
called_so_far laws k old new cs held answers whole = record {
  told = whole.given;
  appended = whole.items;
  outright = whole.due;
  ran = λ now s sound was.
      let it = whole.runs now s sound was in
      (it.0, ran_all laws k s cs whole.given it.0 sound it.1, it.2, it.3);
  crash = whole.spares;
  lasts = whole.outlasts;
}

pub run_whole : (laws : ListLaws) (k : Rules) (old new : Standing) (cs : List (ℕ × Command)) (i : ℕ) (held answers : List Answer) → length cs ≤ i → SoFar k old new (take i cs) held answers
    → AreCalled k cs held answers old new
run_whole laws k old new cs i held answers all far =
    called_so_far laws k old new cs held answers (subst (λ (xs : List (ℕ × Command)). SoFar k old new xs held answers) (take_all i cs all) far)
