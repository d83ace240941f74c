-- Commands that share a session, and what its end makes of them.
use Rattle.std.proofs.Common.{◌≡◌, inr, ℕ, ◌+◌, ◌<◌, ◌≤◌, List, [], ◌∷◌, ◌++◌, Bool, true, false, Option, Some, None, Result, Ok, Err, length, get_or, take, map, append-nil, append_assoc, refl, sym, ap, ap₂, ◌∙◌, subst, arith}
use Rattle.std.proofs.lemmas.List.{take_more, take_all}
use Rattle.std.specs.Prelude.{◌||◌, ⊤, IfSome, IsTrue, MatchBool, if◌then◌else◌, is_ok, vec_len, vec_capacity}
use Rattle.std.specs.Borrow.{MutBor}
use Rattle.std.specs.Global.{Vec}
use Rattle.std.specs.List.{AllByRecursion}
use Rattle.sqlite.specs.Held.{Held, state}
use Rattle.sqlite.specs.State.{State as Connected, HasCleanDisk}
use Rattle.sqlite.specs.Tree.{Trees}
use Rattle.sqlite.proofs.StateLemmas.{survives_then, survives_weaker}
use Rattle.sqlite_trees.specs.declared.store.Store.{Ghosts}
use Rattle.up_canon.specs.declared.refusal.Refusal.{Refusal}
use Rattle.up_canon.specs.declared.refusal.Refusal.TheVariants.{Memory, Store}
use Rattle.up_sign.specs.Schemes.{Rules}
use Rattle.up_machine.specs.declared.answer.Answer.{Answer}
use Rattle.up_machine.specs.declared.answer.Answer.TheVariants.{Already, Done, Refused}
use Rattle.up_machine.specs.declared.command.Command.{Command}
use Rattle.up_machine.specs.Commands.{is_command}
use Rattle.up_machine.specs.Deciding.{Outcome}
use Rattle.up_machine.specs.Laws.{EmptyIsSound}
use Rattle.up_machine.specs.Machine.{outcome_of}
use Rattle.up_machine.specs.RepeatLaws.{ServedStaysSound}
use Rattle.up_machine.specs.Repeats.{Sent, after, serve}
use Rattle.up_machine.specs.Sound.{IsSound}
use Rattle.up_machine.specs.State.{State}
use Rattle.up_rows.specs.StateRows.{rows_of_state}
use Rattle.up_tables.specs.Stands.{GoesOn, IfClean, IsInside}
use Rattle.up_tables.specs.Statements.{IsStep}
use Rattle.up_tables.specs.Tables.{up_schema}
use Rattle.up_tables.specs.declared.values.StoreFault.{StoreFault}
use Rattle.up_store.specs.Connections.{KeepsState}
use Rattle.up_store.specs.Listing.{ListsRows}
use Rattle.up_records.specs.declared.catalog.Catalog.{Catalog}
use Rattle.up_records.specs.Catalogs.{Fits}
use Rattle.up_records.specs.Connected.{is_fault}
use Rattle.up_records.specs.Sessions.{IsDecided, SeesOn}
use Rattle.up_records.specs.Standing.{HoldsState, ShowsState, Standing, over}
use Rattle.up_records.specs.Standing as standing
use Rattle.up_records.proofs.Sessions.{clean_on, seen_on, sees_both, steps_on}
use Rattle.up_desk.specs.declared.carried.Carried.{Carried}
use Rattle.up_desk.specs.declared.carried.Carried.TheVariants.{Put, Unchanged}
use Rattle.up_desk.specs.Carrying.{CarriesOn, EndsCarried, HasPut, LeavesIn}
use Rattle.up_desk.specs.Groups.{AreIdle, CarriesAll, EndsAll, IsIdle, IsUndone, LeavesAll, as_one, none_lost, told_by}
use Rattle.up_desk.specs.Runs.{AreCalled, AreOutright, IsAnsweredCommit, ServesEach, StaysOrComesTo, carried_out, outcome_behind, sent}
use Rattle.up_desk.specs.Serving.{CarriesOut, IsCommit, answer_written, is_failed, outcome_due, outright}
use Rattle.up_desk.proofs.Carrying.{finished, first, sees, sees_itself}
use Rattle.up_desk.proofs.Runs.{ListLaws, SoFar, after_unchanged, all_parts, behind_answered, called_so_far, item, outright_next, ran_next, ran_served}
use Rattle.up_desk.proofs.Serving.{clean_once, done_as, due_is}

-- ---- lists

all_snoc : {A : Type 0} (P : A → Type 0) (xs : List A) (x : A) → AllByRecursion P xs → P x → AllByRecursion P (xs ++ x ∷ [])
all_snoc P [] x all is = (is, tt)
all_snoc P (y ∷ xs) x all is = (all.0, all_snoc P xs x all.1 is)

-- whether or not answers are lost, the commands are these
carried_all : (k : Rules) (cs : List (ℕ × Command)) (told : List Answer) → AreOutright k cs told → map carried_out (sent cs told) ≡ none_lost cs
carried_all k [] [] due = refl
carried_all k [] (a ∷ told) due = absurd due
carried_all k (c ∷ cs) [] due = absurd due
carried_all k (c ∷ cs) (a ∷ told) due = ap (λ (ms : List Sent). item false c ∷ ms) (carried_all k cs told due.1)

unfailed_sent : (k : Rules) (cs : List (ℕ × Command)) (told : List Answer) → AreOutright k cs told → AllByRecursion (λ a. is_failed a ≡ false) told → sent cs told ≡ none_lost cs
unfailed_sent k [] [] due all = refl
unfailed_sent k [] (a ∷ told) due all = absurd due
unfailed_sent k (c ∷ cs) [] due all = absurd due
unfailed_sent k (c ∷ cs) (a ∷ told) due all = ap₂ (λ (b : Bool) (ms : List Sent). item b c ∷ ms) all.0 (unfailed_sent k cs told due.1 all.1)

idle_sent : (k : Rules) (s : State) (cs : List (ℕ × Command)) (told : List Answer) → AllByRecursion (λ c. IsIdle k s c.0 c.1) cs → AllByRecursion (λ n. IsIdle k s n.item.at n.item.command) (sent cs told)
idle_sent k s [] told all = tt
idle_sent k s (c ∷ cs) [] all = tt
idle_sent k s (c ∷ cs) (a ∷ told) all = (all.0, idle_sent k s cs told all.1)

idle_same : (k : Rules) (s : State) (ms : List Sent) → AllByRecursion (λ n. IsIdle k s n.item.at n.item.command) ms → AllByRecursion (λ n. (serve k s n.item.at n.item.command).next ≡ s) ms
idle_same k s [] all = tt
idle_same k s (m ∷ ms) all = (all.0.same, idle_same k s ms all.1)

-- none of them is a commit
none_commits : (k : Rules) (s : State) (ms before rest : List Sent) (m : Sent) → AllByRecursion (λ n. IsIdle k s n.item.at n.item.command) ms → IsAnsweredCommit k s ms before rest m → ⊥
none_commits k s ms before rest m all made =
    let P = λ (n : Sent). IsIdle k s n.item.at n.item.command in
    let parts = all_parts P before (m ∷ rest) (subst (λ (l : List Sent). AllByRecursion P l) made.list all) in
    let same : after k s before ≡ s = after_unchanged k s before (idle_same k s before parts.0) in
    let idle : IsIdle k s m.item.at m.item.command = parts.1.0 in
    let o = λ (t : State). serve k t m.item.at m.item.command in
    idle.none (subst (λ (t : State). IsCommit s (o s).answer t) idle.same (subst (λ (t : State). IsCommit t (o t).answer (o t).next) same made.commit))

-- ---- one more command

some_is : {A : Type 0} (x y : A) → Some x ≡ Some y → x ≡ y
some_is x y h = cc

due_told : (o : Option Refusal) (r : Result Carried Refusal) (a : Answer) (p : Bool) → told_by r ≡ Some (a, p) → IfSome o (λ q. r ≡ Err q) → IfSome o (λ q. a ≡ Refused q)
due_told None r a p told is = tt
due_told (Some q) r a p told is = by_fault (is_fault q) (sym (ap told_by is) ∙ told)
  where
    by_fault : (b : Bool) → if◌then◌else◌ {A = Option (Answer × Bool)} b None (Some (Refused q, false)) ≡ Some (a, p) → a ≡ Refused q
    by_fault true h = cc
    by_fault false h = sym (ap (λ (x : Answer × Bool). x.0) (some_is {A = Answer × Bool} (Refused q, false) (a, p) h))

decided : (r : Result Carried Refusal) (a : Answer) (p : Bool) → told_by r ≡ Some (a, p) → IsDecided r
decided (Ok x) a p is = tt
decided (Err q) a p is = by_fault (is_fault q) is
  where
    by_fault : (b : Bool) → if◌then◌else◌ {A = Option (Answer × Bool)} b None (Some (Refused q, false)) ≡ Some (a, p) → b ≡ false
    by_fault true h = cc
    by_fault false h = refl

put_rows : (b : Bool) (A B : Type 0) → A → MatchBool (b || true) A B
put_rows true A B h = h
put_rows false A B h = h

module _ (k : Rules) (stays : ServedStaysSound) (s : State) (cs : List (ℕ × Command)) (told : List Answer) (c : ℕ × Command) (fits : IsTrue (is_command c.1)) (old mid new : Connected) {left : Option Catalog} (put : Bool)
    (at : LeavesAll k s cs told old mid left put) where
  served_by : (a : Answer) (next : State) → is_failed a ≡ false → serve k at.next c.0 c.1 ≡ record { answer = a; next = next } → ServesEach k s (cs ++ c ∷ []) (told ++ a ∷ []) next
  served_by a next given is = ran_next k s cs told at.next c a next at.served (done_as k at.next next c.0 c.1 a is (is_failed a) given) fits

  put_next : {next_left : Option Catalog} (a : Answer) → HasPut k at.next new next_left a (outcome_due k at.next c.0 c.1) → LeavesAll k s (cs ++ c ∷ []) (told ++ a ∷ []) old new next_left (put || true)
  put_next a h =
      let is : serve k at.next c.0 c.1 ≡ record { answer = a; next = h.next } = due_is k at.next c.0 c.1 ∙ ap (outcome_of at.next) h.computed_is in
      record {
        next = h.next;
        served = served_by a h.next h.given is;
        unfailed = all_snoc (λ (x : Answer). is_failed x ≡ false) told a at.unfailed h.given;
        sound = subst (λ (o : Outcome). IsSound k o.next) is (stays k at.next c.0 c.1 fits at.sound);
        tables = record { mode = h.tables.mode; here = λ is_open. h.tables.here };
        memory = h.moved;
        rows = put_rows put _ _ h.tables.is_open;
      }

  same_next : {next_left : Option Catalog} (a : Answer) → is_failed a ≡ false → serve k at.next c.0 c.1 ≡ record { answer = a; next = at.next } → (IsCommit at.next a at.next → ⊥) → SeesOn mid new → Fits at.next next_left
      → LeavesAll k s (cs ++ c ∷ []) (told ++ a ∷ []) old new next_left (put || false)
  same_next a given is none on memory = record {
    next = at.next;
    served = served_by a at.next given is;
    unfailed = all_snoc (λ (x : Answer). is_failed x ≡ false) told a at.unfailed given;
    sound = at.sound;
    tables = seen_on k at.next on at.tables;
    memory = memory;
    rows = by_put put at.rows;
  }
    where
      idle : IsIdle k at.next c.0 c.1
      idle = record {
        same = ap (λ (o : Outcome). o.next) is;
        none = λ commit. none (subst (λ (x : Answer). IsCommit at.next x at.next) (ap (λ (o : Outcome). o.answer) is) commit);
      }

      by_put : (b : Bool) → MatchBool b (IsTrue mid.is_open) ((at.next ≡ s) × AreIdle k s cs old mid) → MatchBool (b || false) (IsTrue new.is_open) ((at.next ≡ s) × AreIdle k s (cs ++ c ∷ []) old new)
      by_put true h = on.still h
      by_put false h = (
        h.0,
        record {
          each = all_snoc (λ (x : ℕ × Command). IsIdle k s x.0 x.1) cs c h.1.each (subst (λ (t : State). IsIdle k t c.0 c.1) h.0 idle);
          sees = sees_both h.1.sees on;
        },
      )

  leaves_next : {next_left : Option Catalog} (r : Result Carried Refusal) (a : Answer) (p : Bool) → told_by r ≡ Some (a, p) → LeavesIn k at.next mid new next_left r (outcome_due k at.next c.0 c.1)
      → LeavesAll k s (cs ++ c ∷ []) (told ++ a ∷ []) old new next_left (put || p)
  leaves_next {next_left} (Ok (Put b)) a p is h =
      let same = some_is {A = Answer × Bool} (b, true) (a, p) is in
      subst (λ (x : Answer × Bool). LeavesAll k s (cs ++ c ∷ []) (told ++ x.0 ∷ []) old new next_left (put || x.1)) same (put_next b h)
  leaves_next {next_left} (Ok (Unchanged b)) a p is h =
      let same = some_is {A = Answer × Bool} (b, false) (a, p) is in
      subst (λ (x : Answer × Bool). LeavesAll k s (cs ++ c ∷ []) (told ++ x.0 ∷ []) old new next_left (put || x.1)) same
      (same_next b h.given (due_is k at.next c.0 c.1 ∙ ap (outcome_of at.next) h.computed_is) h.none h.sees h.memory)
  leaves_next {next_left} (Err q) a p is h = by_fault (is_fault q) refl is h.due
    where
      by_fault : (b : Bool) → is_fault q ≡ b → if◌then◌else◌ {A = Option (Answer × Bool)} b None (Some (Refused q, false)) ≡ Some (a, p) → MatchBool b ⊤ ((outcome_due k at.next c.0 c.1 ≡ Err q) × SeesOn mid new)
          → LeavesAll k s (cs ++ c ∷ []) (told ++ a ∷ []) old new next_left (put || p)
      by_fault true fault is due = cc
      by_fault false fault is due =
          let same = some_is {A = Answer × Bool} (Refused q, false) (a, p) is in
          subst (λ (x : Answer × Bool). LeavesAll k s (cs ++ c ∷ []) (told ++ x.0 ∷ []) old new next_left (put || x.1)) same
          (same_next (Refused q) fault (due_is k at.next c.0 c.1 ∙ ap (outcome_of at.next) due.0) (λ none. none) due.1 h.memory)

module _ {S : Type 0} (g : Ghosts S) (k : Rules) (held : Vec Answer) (old : MutBor (Held S)) (kept : Option Catalog) where
  pub none_so_far : IfClean IsInside (state g old.now) → IsStep g old old → CarriesAll g k [] held held old old kept kept (Some false)
  none_so_far inside step = record {
    told = [];
    appended = sym (append-nil held.items);
    room = omega arith;
    outright = tt;
    inside = inside;
    leaves = λ clean s sound seen fits. record {
      next = s;
      served = refl;
      unfailed = tt;
      sound = sound;
      tables = seen;
      memory = fits;
      rows = (refl, record { each = tt; sees = sees_itself (state g old.now) });
    };
    can = λ can. can;
    step = step;
  }

  module _ {cs : List (ℕ × Command)} {answers : Vec Answer} {mid new : MutBor (Held S)} {left next_left : Option Catalog} {put : Bool} (far : CarriesAll g k cs held answers old mid kept left (Some put)) where
    pub one_more : ServedStaysSound → (c : ℕ × Command) (r : Result Carried Refusal) (a : Answer) (p : Bool) (more : Vec Answer) → IsTrue (is_command c.1) → CarriesOn g k (λ s. outcome_due k s c.0 c.1) mid new left next_left r
        → IfSome (outright k c.0 c.1) (λ q. r ≡ Err q) → told_by r ≡ Some (a, p) → more.items ≡ answers.items ++ a ∷ [] → vec_capacity answers ≤ vec_capacity more
        → CarriesAll g k (cs ++ c ∷ []) held more old new kept next_left (Some (put || p))
    one_more stays c r a p more fits one due is pushed grown = record {
      told = far.told ++ a ∷ [];
      appended = pushed ∙ ap (λ (items : List Answer). items ++ a ∷ []) far.appended ∙ append_assoc held.items far.told (a ∷ []);
      room = omega (arith, far.room, grown);
      outright = outright_next k cs far.told c a far.outright (due_told (outright k c.0 c.1) r a p is due);
      inside = λ clean. one.goes clean (decided r a p is) (far.inside (clean_on g one.step clean));
      leaves = λ clean s sound seen memory.
          let at = far.leaves (clean_on g one.step clean) s sound seen memory in
          leaves_next k stays s cs far.told c fits (state g old.now) (state g mid.now) (state g new.now) put at r a p is (one.leaves clean at.next at.sound at.tables at.memory);
      can = λ can. one.can (far.can can);
      step = steps_on g far.step one.step;
    }

    -- one of them failed
    pub one_lost : (all : List (ℕ × Command)) {r : Result Carried Refusal} {rule : State → Result Outcome Refusal} → CarriesOn g k rule mid new left next_left r → CarriesAll g k all held answers old new kept next_left None
    one_lost all one = record {
      told = far.told;
      appended = far.appended;
      room = far.room;
      outright = tt;
      inside = tt;
      leaves = λ clean s sound seen memory. tt;
      can = λ can. one.can (far.can can);
      step = steps_on g far.step one.step;
    }

-- one more of a list
pub one_of_list : {S : Type 0} (g : Ghosts S) (k : Rules) (held : Vec Answer) (old : MutBor (Held S)) (kept : Option Catalog) {answers : Vec Answer} {mid new : MutBor (Held S)} {left next_left : Option Catalog} {put : Bool}
    → ServedStaysSound → (cs : List (ℕ × Command)) (i : ℕ) (c : ℕ × Command) (r : Result Carried Refusal) (a : Answer) (p : Bool) (more : Vec Answer) → i < length cs → c ≡ get_or cs i c → CarriesAll g k (take i cs) held answers old mid kept left (Some put)
    → IsTrue (is_command c.1) → CarriesOn g k (λ s. outcome_due k s c.0 c.1) mid new left next_left r → IfSome (outright k c.0 c.1) (λ q. r ≡ Err q) → told_by r ≡ Some (a, p) → more.items ≡ answers.items ++ a ∷ []
    → vec_capacity answers ≤ vec_capacity more → CarriesAll g k (take (i + 1) cs) held more old new kept next_left (Some (put || p))
one_of_list g k held old kept {new = new} {next_left = next_left} {put} stays cs i c r a p more within there far fits one due is pushed grown =
    let taken : take (i + 1) cs ≡ take i cs ++ c ∷ [] = take_more cs i c within ∙ ap (λ x. take i cs ++ x ∷ []) (sym there) in
    subst (λ (xs : List (ℕ × Command)). CarriesAll g k xs held more old new kept next_left (Some (put || p))) (sym taken) (one_more g k held old kept far stays c r a p more fits one due is pushed grown)

-- all of a list
pub all_carried : {S : Type 0} (g : Ghosts S) (k : Rules) {held answers : Vec Answer} {old new : MutBor (Held S)} {kept left : Option Catalog} {put : Option Bool} (cs : List (ℕ × Command)) (i : ℕ) → length cs ≤ i
    → CarriesAll g k (take i cs) held answers old new kept left put → CarriesAll g k cs held answers old new kept left put
all_carried g k {held} {answers} {old} {new} {kept} {left} {put} cs i all far = subst (λ (xs : List (ℕ × Command)). CarriesAll g k xs held answers old new kept left put) (take_all i cs all) far

-- ---- all of it as one command

-- what all of it comes to
abbrev pub whole_rule : Rules → List (ℕ × Command) → Option Bool → State → Result Outcome Refusal
whole_rule k cs (Some false) s = Ok (record { answer = Already; next = after k s (none_lost cs) })
whole_rule k cs (Some true) s = Ok (record { answer = Done; next = after k s (none_lost cs) })
whole_rule k cs None s = Ok (record { answer = Done; next = after k s (none_lost cs) })

rule_next : (k : Rules) (cs : List (ℕ × Command)) (put : Option Bool) (s : State) → (outcome_of s (whole_rule k cs put s)).next ≡ after k s (none_lost cs)
rule_next k cs (Some false) s = refl
rule_next k cs (Some true) s = refl
rule_next k cs None s = refl

whole_next : {k : Rules} {s : State} {cs : List (ℕ × Command)} {told : List Answer} {old new : Connected} {left : Option Catalog} {put : Bool} → AreOutright k cs told → (at : LeavesAll k s cs told old new left put)
    → at.next ≡ after k s (none_lost cs)
whole_next {k} {s} {cs} {told} due at = (ran_served k s cs told at.next at.served).state ∙ ap (λ (ms : List Sent). after k s ms) (unfailed_sent k cs told due at.unfailed)

pub carried_as_one : {S : Type 0} (g : Ghosts S) (k : Rules) (cs : List (ℕ × Command)) {held answers : Vec Answer} {old new : MutBor (Held S)} {kept left : Option Catalog} (put : Option Bool)
    → CarriesAll g k cs held answers old new kept left put → CarriesOn g k (whole_rule k cs put) old new kept None (as_one put)
carried_as_one g k cs {old = old} {new} (Some true) all = record {
  leaves = λ clean s sound seen memory.
      let at = all.leaves clean s sound seen memory in
      record {
        given = refl;
        next = after k s (none_lost cs);
        computed_is = refl;
        tables = subst (λ (t : State). GoesOn up_schema (ListsRows (rows_of_state t)) (state g new.now)) (whole_next all.outright at)
            (record { mode = at.tables.mode; is_open = at.rows; here = at.tables.here at.rows });
        moved = tt;
        same = tt;
      };
  goes = λ clean ok was. all.inside clean;
  blame = λ clean s sound seen memory next_sound. tt;
  can = λ can. tt;
  step = all.step;
}
carried_as_one g k cs {old = old} {new} (Some false) all = record {
  leaves = λ clean s sound seen memory.
      let at = all.leaves clean s sound seen memory in
      record {
        given = refl;
        none = λ commit. commit;
        computed_is = ap (λ (t : State). Ok (record { answer = Already; next = t })) (sym (whole_next all.outright at) ∙ at.rows.0);
        sees = at.rows.1.sees;
        memory = tt;
      };
  goes = λ clean ok was. all.inside clean;
  blame = λ clean s sound seen memory next_sound. tt;
  can = λ can. tt;
  step = all.step;
}
carried_as_one g k cs None all = record {
  leaves = λ clean s sound seen memory. record { due = tt; memory = tt };
  goes = λ clean no. absurd (let it : true ≡ false = no in cc);
  blame = λ clean s sound seen memory next_sound store. absurd (let no : Memory ≡ Store = store in cc);
  can = λ can. tt;
  step = all.step;
}

-- ---- its end

abbrev whole_answer : Bool → Answer
whole_answer true = Done
whole_answer false = Already

ended_ok : (p : Bool) (old new : Connected) (r : Result Answer Refusal) → EndsCarried (as_one (Some p)) old new r → is_ok r ≡ true → r ≡ Ok (whole_answer p)
ended_ok true old new r ends ok = by_commit ends.0 ends.2
  where
    by_commit : (w : Result ⊤ StoreFault) → r ≡ answer_written Done w → r ≡ Ok Done
    by_commit (Ok done) is = is
    by_commit (Err f) is = absurd (let no : true ≡ false = sym ok ∙ ap is_ok is in cc)
ended_ok false old new r ends ok = ends.1

clean_before : (put : Option Bool) (old new : Connected) (r : Result Answer Refusal) → EndsCarried (as_one put) old new r → HasCleanDisk new → HasCleanDisk old
clean_before (Some true) old new r ends clean = let it : HasCleanDisk old = omega (arith, ends.1.survives.clean) in it
clean_before (Some false) old new r ends clean = let it : HasCleanDisk old = omega (arith, ends.0.survives.clean) in it
clean_before None old new r ends clean = let it : HasCleanDisk old = omega (arith, ends.0.survives.clean) in it

module _ {S : Type 0} (g : Ghosts S) (k : Rules) (cs : List (ℕ × Command)) (old last : Held S) (kept : Option Catalog) where
  crashes : (put : Option Bool) {r : Result Answer Refusal} → CarriesOut k (whole_rule k cs put) (over g old kept) (over g last None) r → (s : State) → IsSound k s → standing.IfClean (ShowsState s) (over g old kept)
      → standing.Survives (over g old kept) (over g last None) (HoldsState (after k s (none_lost cs)))
  crashes put out s sound was = subst (λ (t : State). standing.Survives (over g old kept) (over g last None) (HoldsState t)) (rule_next k cs put s) (out.serves s sound was).crash

  cleaned : EmptyIsSound → (put : Option Bool) {r : Result Answer Refusal} → CarriesOut k (whole_rule k cs put) (over g old kept) (over g last None) r → HasCleanDisk (state g last) → HasCleanDisk (state g old)
  cleaned empty put out = clean_once k (over g old kept) (over g last None) (λ s. HoldsState (after k s (none_lost cs))) empty (λ s sound never. crashes put out s sound (λ now. absurd (never now)))

  -- a command failed, or the commit did
  pub undone : EmptyIsSound → (held answers : Vec Answer) → answers.items ≡ held.items → vec_len answers + length cs ≤ vec_capacity answers → (put : Option Bool) (r : Result Answer Refusal) → CarriesOut k (whole_rule k cs put) (over g old kept) (over g last None) r → is_ok r ≡ false
      → IsUndone k cs held answers (over g old kept) (over g last None)
  undone empty held answers untold room put (Ok a) out failed = absurd (let no : true ≡ false = failed in cc)
  undone empty held answers untold room put (Err q) out failed = record {
    untold = untold;
    room = room;
    shown = λ s sound was clean. ((out.serves s sound was).leaves clean).0;
    crash = crashes put out;
    clean = cleaned empty put out;
  }

  module _ (laws : ListLaws) (empty : EmptyIsSound) (tx mid : MutBor (Held S)) (left : Option Catalog) (begun : tx.now ≡ record old { in_transaction = true }) (held answers : Vec Answer) where
    module _ (p : Bool) (all : CarriesAll g k cs held answers tx mid kept left (Some p)) (before : HasCleanDisk (state g last) → HasCleanDisk (state g mid.now))
        (out : CarriesOut k (whole_rule k cs (Some p)) (over g old kept) (over g last None) (Ok (whole_answer p))) where
      one : CarriesOn g k (whole_rule k cs (Some p)) tx mid kept None (as_one (Some p))
      one = carried_as_one g k cs (Some p) all

      leaves : (s : State) → IsSound k s → standing.IfClean (ShowsState s) (over g old kept) → HasCleanDisk (state g last) → LeavesAll k s cs all.told (state g tx.now) (state g mid.now) left p
      leaves s sound was clean =
          all.leaves (before clean) s sound (sees g k old old tx mid last kept None (whole_rule k cs (Some p)) refl begun one s sound was (before clean))
          (was (first g k old old tx mid last kept None (whole_rule k cs (Some p)) refl begun one (before clean))).memory

      shown : (s : State) → IsSound k s → standing.IfClean (ShowsState s) (over g old kept) → HasCleanDisk (state g last) → (next : State) → next ≡ after k s (none_lost cs) → Fits next left → ShowsState next (over g last left)
      shown s sound was clean next is memory =
          let it = (out.serves s sound was).leaves clean in
          let same : it.1.0 ≡ next = sym (ap (λ (o : Result Outcome Refusal). (outcome_of s o).next) it.1.1) ∙ rule_next k cs (Some p) s ∙ sym is in
          record { tables = subst (λ (t : State). KeepsState t (state g last)) same it.1.2.tables; memory = memory }

      so_far : SoFar k (over g old kept) (over g last left) cs held.items answers.items
      so_far = record {
        given = all.told;
        items = all.appended;
        due = all.outright;
        runs = λ clean s sound was.
            let at = leaves s sound was clean in
            (at.next, at.served, at.sound, shown s sound was clean at.next (whole_next all.outright at) at.memory);
        spares = λ s sound was.
            survives_weaker (state g old) (state g last) (HoldsState (after k s (none_lost cs))) _
            (λ clean trees holds. (
              after k s (none_lost cs),
              ([], sent cs all.told, [], sym (append-nil (sent cs all.told)), ap (λ (ms : List Sent). after k s ms) (sym (carried_all k cs all.told all.outright))),
              holds,
            ))
            (crashes (Some p) out s sound was);
        outlasts = λ s sound was first_ones rest m made clean. by_put p refl s sound was first_ones rest m made clean;
        clean = cleaned empty (Some p) out;
      }
        where
          by_put : (b : Bool) → p ≡ b → (s : State) → IsSound k s → standing.IfClean (ShowsState s) (over g old kept) → (first_ones rest : List Sent) (m : Sent) → IsAnsweredCommit k s (sent cs all.told) first_ones rest m
              → HasCleanDisk (state g last) → standing.LeavesOnly (λ trees. (at : State) × StaysOrComesTo k (outcome_behind k s first_ones m).next rest at × HoldsState at trees) (over g last left)
          by_put true is s sound was first_ones rest m made clean = λ trees may.
              let at = leaves s sound was clean in
              let o = outcome_behind k s first_ones m in
              let rows = (out.serves s sound was).durable (subst (λ (b : Bool). IsCommit s (whole_answer b) (outcome_of s (whole_rule k cs (Some p) s)).next) (sym is) tt) clean trees may in
              let end : after k s (none_lost cs) ≡ after k o.next rest =
              ap (λ (ms : List Sent). after k s ms) (sym (unfailed_sent k cs all.told all.outright at.unfailed) ∙ made.list) ∙ behind_answered k s first_ones rest m made.answered in
              (after k s (none_lost cs), inr (rest, [], [], sym (append-nil rest) ∙ sym (append-nil (rest ++ [])), end), subst (λ (t : State). HoldsState t trees) (rule_next k cs (Some p) s) rows)
          by_put false is s sound was first_ones rest m made clean =
              let at = leaves s sound was clean in
              let quiet = subst (λ (b : Bool). MatchBool b (IsTrue (state g mid.now).is_open) ((at.next ≡ s) × AreIdle k s cs (state g tx.now) (state g mid.now))) is at.rows in
              absurd (none_commits k s (sent cs all.told) first_ones rest m (idle_sent k s cs all.told quiet.1.each) made)

      all_called : AreCalled k cs held.items answers.items (over g old kept) (over g last left)
      all_called = called_so_far laws k (over g old kept) (over g last left) cs held.items answers.items so_far

    -- what was put is committed, or there was nothing to commit
    pub called : (put : Option Bool) (r : Result Answer Refusal) → CarriesAll g k cs held answers tx mid kept left put → EndsCarried (as_one put) (state g mid.now) (state g last) r
        → CarriesOut k (whole_rule k cs put) (over g old kept) (over g last None) r → is_ok r ≡ true → AreCalled k cs held.items answers.items (over g old kept) (over g last left)
    called (Some p) r all ends out ok =
        all_called p all (clean_before (Some p) (state g mid.now) (state g last) r ends) (subst (λ q. CarriesOut k (whole_rule k cs (Some p)) (over g old kept) (over g last None) q) (ended_ok p (state g mid.now) (state g last) r ends ok) out)
    called None r all ends out ok = absurd (let no : true ≡ false = sym ok ∙ ap is_ok ends.1 in cc)

-- how the session ended
pub ended_all : {S : Type 0} (g : Ghosts S) (k : Rules) (cs : List (ℕ × Command)) (laws : ListLaws) (empty : EmptyIsSound) (old last : Held S) (kept left : Option Catalog) (held answers : Vec Answer) (done : Bool)
    → EndsAll g k cs held answers old last kept left done → (IsTrue (state g last).is_open → (trees : Trees) → (state g last).may_leave trees → trees ≡ (state g last).committed.trees)
    → (done ≡ true → AreCalled k cs held.items answers.items (over g old kept) (over g last left))
    × (done ≡ false → (behind : Vec Answer) → behind.items ≡ held.items → vec_len behind + length cs ≤ vec_capacity behind → IsUndone k cs held behind (over g old kept) (over g last None))
ended_all g k cs laws empty old last kept left held answers done it settled =
    let out = finished g k old old it.tx it.mid last kept None (whole_rule k cs it.put) refl it.begun (as_one it.put) (λ inside. carried_as_one g k cs it.put it.all) it.ends settled in (
      λ yes. called g k cs old last kept laws empty it.tx it.mid left it.begun held answers it.put it.told it.all it.ends out (sym it.done_is ∙ yes),
      λ no behind untold room. undone g k cs old last kept empty held behind untold room it.put it.told out (sym it.done_is ∙ no),
    )

-- ---- one by one behind it

pub called_behind : (k : Rules) (cs : List (ℕ × Command)) (held between : Vec Answer) (answers : List Answer) (old mid new : Standing) → IsUndone k cs held between old mid → AreCalled k cs between.items answers mid new
    → AreCalled k cs held.items answers old new
called_behind k cs held between answers old mid new undone called = record {
  told = called.told;
  appended = called.appended ∙ ap (λ (items : List Answer). items ++ called.told) undone.untold;
  outright = called.outright;
  ran = λ clean s sound was. called.ran clean s sound (undone.shown s sound was);
  crash = λ s sound was.
      survives_then old.connection mid.connection new.connection (HoldsState (after k s (none_lost cs))) _ _
      (λ clean trees holds. (
        after k s (none_lost cs),
        ([], sent cs called.told, [], sym (append-nil (sent cs called.told)), ap (λ (ms : List Sent). after k s ms) (sym (carried_all k cs called.told called.outright))),
        holds,
      ))
      (λ clean trees it. it) (undone.crash s sound was) (called.crash s sound (undone.shown s sound was));
  lasts = λ s sound was. called.lasts s sound (undone.shown s sound was);
}
