-- Items that are answered as a service says, and that ask commands: their texts tell a run of the plain machine.
use Rattle.std.proofs.Common.{◌≡◌, inl, inr, ℕ, suc, length, arith, List, [], ◌∷◌, Bool, true, false, Option, Some, None, refl, sym, ap, ◌∙◌, subst}
use Rattle.std.specs.Prelude.{◌⊎◌, ◌||◌, IsTrue, MatchBool, if◌then◌else◌, bytes_eq, filter_map}
use Rattle.std.specs.List.{AllByRecursion, cons_option}
use Rattle.std.specs.Cmp.Lexicographic.{bytes_decides}
use Rattle.up_canon.specs.declared.refusal.Refusal.{Refusal}
use Rattle.up_canon.specs.declared.refusal.Refusal.TheVariants.{Memory, Store}
use Rattle.up_machine.specs.declared.answer.Answer.{Answer}
use Rattle.up_machine.specs.declared.answer.Answer.TheVariants.{Refused}
use Rattle.up_machine.specs.declared.command.Command.{Command}
use Rattle.up_machine.specs.Commands.{is_command}
use Rattle.up_machine.specs.Deciding.{Outcome}
use Rattle.up_machine.specs.Repeats.{serve}
use Rattle.up_machine.specs.Sound.{IsSound}
use Rattle.up_machine.specs.State.{State}
use Rattle.up_records.specs.Standing.{Standing, HasCleanDisk}
use Rattle.up_lines.specs.Runs.{Run}
use Rattle.up_desk.specs.Serving.{is_failed, IsAnswered}
use Rattle.up_desk.specs.Runs.{ServesEach}
use Rattle.up_desk.proofs.Runs.{ListLaws, ran_all}
use Rattle.up_service.specs.Answers.{Answered, answered_as, IsFailed}
use Rattle.up_service.specs.Runs.{Service, Told, told, tells_fault, behind, after, AreDue, Lasts}
use Rattle.up_service.proofs.Failing.{failed_answer}
use Rattle.up_shipped.specs.Items.{Asking, commands_in, TellsNext, AreTold, IsShipped}

-- a service answers what the items ask
pub record Agrees {I : Type 0} (v : Service I) (q : Asking I) : Type 0 where
  pub tells : (i : I) (r : Refusal) → q.tell i (Refused r) ≡ v.tell i r
  pub quiet : (s : State) (i : I) → q.asks i ≡ None → (v.answer s i).next ≡ s
  pub asked : (s : State) (i : I) (c : ℕ × Command) → q.asks i ≡ Some c → v.answer s i ≡ answered_as (q.tell i) v.rules s c.0 c.1

-- the command that an item asks is within its limits
abbrev pub Fits : {I : Type 0} → Asking I → I → Type 0
Fits q i = (c : ℕ × Command) → q.asks i ≡ Some c → is_command c.1 ≡ true

-- ---- one item

or_true : (b c : Bool) → c ≡ true → (b || c) ≡ true
or_true true c h = refl
or_true false c h = h

failed_tells : {I : Type 0} (v : Service I) (m : Told I) → IsFailed (v.tell m.item) m.text → tells_fault v m ≡ true
failed_tells v m (inl same) = ap (λ b. b || bytes_eq m.text (v.tell m.item Store)) ((bytes_decides m.text (v.tell m.item Memory)).1 same)
failed_tells v m (inr same) = or_true (bytes_eq m.text (v.tell m.item Memory)) (bytes_eq m.text (v.tell m.item Store)) ((bytes_decides m.text (v.tell m.item Store)).1 same)

-- the answer that a text tells, and the state behind it
record IsCalledOnce {I : Type 0} (v : Service I) (q : Asking I) (s : State) (c : ℕ × Command) (m : Told I) : Type 0 where
  pub answer : Answer
  pub text : m.text ≡ q.tell m.item answer
  pub is : IsAnswered answer s (behind v s m) (serve v.rules s c.0 c.1)

behind_fault : {I : Type 0} (v : Service I) (s : State) (m : Told I) → tells_fault v m ≡ true → behind v s m ≡ s
behind_fault v s m h = ap (λ b. if b then s else (v.answer s m.item).next) h

behind_answer : {I : Type 0} (v : Service I) (s : State) (m : Told I) → tells_fault v m ≡ false → behind v s m ≡ (v.answer s m.item).next
behind_answer v s m h = ap (λ b. if b then s else (v.answer s m.item).next) h

-- a fault
lost : {I : Type 0} (v : Service I) (q : Asking I) → Agrees v q → (s : State) (c : ℕ × Command) (m : Told I) → tells_fault v m ≡ true → IsCalledOnce v q s c m
lost {I} v q agrees s c m h = by_first (bytes_eq m.text (v.tell m.item Memory)) refl
  where
    by_first : (b : Bool) → bytes_eq m.text (v.tell m.item Memory) ≡ b → IsCalledOnce v q s c m
    by_first true same = record {
      answer = Refused Memory;
      text = (bytes_decides m.text (v.tell m.item Memory)).0 same ∙ sym (agrees.tells m.item Memory);
      is = behind_fault v s m h;
    }
    by_first false same = record {
      answer = Refused Store;
      text = (bytes_decides m.text (v.tell m.item Store)).0 (sym (ap (λ b. b || bytes_eq m.text (v.tell m.item Store)) same) ∙ h) ∙ sym (agrees.tells m.item Store);
      is = behind_fault v s m h;
    }

-- what no text tells to have failed hasn't
not_failed : {I : Type 0} (v : Service I) (q : Asking I) → Agrees v q → (s next : State) (m : Told I) (o : Outcome) → m.text ≡ q.tell m.item o.answer → tells_fault v m ≡ false → next ≡ o.next
    → (b : Bool) → is_failed o.answer ≡ b → IsAnswered o.answer s next o
not_failed v q agrees s next m o text h is true failed =
    let tells : tells_fault v m ≡ true = failed_tells v m (failed_answer (v.tell m.item) (q.tell m.item) (λ r. agrees.tells m.item r) o.answer m.text failed text) in
    cc
not_failed v q agrees s next m o text h is false kept = subst (λ lost. MatchBool lost (next ≡ s) ((o.answer ≡ o.answer) × (next ≡ o.next))) (sym kept) (refl, is)

-- an answer
answered : {I : Type 0} (v : Service I) (q : Asking I) → Agrees v q → (s : State) (c : ℕ × Command) (m : Told I) → q.asks m.item ≡ Some c → m.text ≡ (v.answer s m.item).text → tells_fault v m ≡ false
    → IsCalledOnce v q s c m
answered v q agrees s c m asks due h =
    let o = serve v.rules s c.0 c.1 in
    let is : v.answer s m.item ≡ answered_as (q.tell m.item) v.rules s c.0 c.1 = agrees.asked s m.item c asks in
    let text : m.text ≡ q.tell m.item o.answer = due ∙ ap (λ (a : Answered). a.text) is in
    let next : behind v s m ≡ o.next = behind_answer v s m h ∙ ap (λ (a : Answered). a.next) is in
    record { answer = o.answer; text = text; is = not_failed v q agrees s (behind v s m) m o text h next (is_failed o.answer) refl }

once : {I : Type 0} (v : Service I) (q : Asking I) → Agrees v q → (s : State) (c : ℕ × Command) (m : Told I) → q.asks m.item ≡ Some c → (m.text ≡ (v.answer s m.item).text) ⊎ IsTrue (tells_fault v m)
    → IsCalledOnce v q s c m
once {I} v q agrees s c m asks due = by_fault (tells_fault v m) refl due
  where
    by_fault : (b : Bool) → tells_fault v m ≡ b → (m.text ≡ (v.answer s m.item).text) ⊎ IsTrue (tells_fault v m) → IsCalledOnce v q s c m
    by_fault true h due = lost v q agrees s c m h
    by_fault false h (inl is) = answered v q agrees s c m asks is h
    by_fault false h (inr is) = cc

-- an item that asks nothing changes nothing
unmoved : {I : Type 0} (v : Service I) (q : Asking I) → Agrees v q → (s : State) (m : Told I) → q.asks m.item ≡ None → behind v s m ≡ s
unmoved v q agrees s m none = by_fault (tells_fault v m) refl
  where
    by_fault : (b : Bool) → tells_fault v m ≡ b → behind v s m ≡ s
    by_fault true h = behind_fault v s m h
    by_fault false h = behind_answer v s m h ∙ agrees.quiet s m.item none

-- ---- all of them

pub record AreCalledAll {I : Type 0} (v : Service I) (q : Asking I) (s : State) (items : List I) (texts : List (List ℕ)) : Type 0 where
  pub answers : List Answer
  pub tell : AreTold q items texts answers
  pub ran : ServesEach v.rules s (commands_in q items) answers (after v s (told items texts))

one_more : {I : Type 0} (v : Service I) (q : Asking I) → Agrees v q → (s : State) (i : I) (items : List I) (text : List ℕ) (texts : List (List ℕ)) → Fits q i
    → (text ≡ (v.answer s i).text) ⊎ IsTrue (tells_fault v (record { item = i; text = text })) → AreCalledAll v q (behind v s (record { item = i; text = text })) items texts
    → (o : Option (ℕ × Command)) → q.asks i ≡ o → AreCalledAll v q s (i ∷ items) (text ∷ texts)
one_more {I} v q agrees s i items text texts fits due rest None asks =
    let m : Told I = record { item = i; text = text } in
    let end = after v (behind v s m) (told items texts) in
    let from : ServesEach v.rules s (filter_map q.asks items) rest.answers end = subst (λ (x : State). ServesEach v.rules x (filter_map q.asks items) rest.answers end) (unmoved v q agrees s m asks) rest.ran in
    record {
      answers = rest.answers;
      tell = subst (λ (o : Option (ℕ × Command)). TellsNext (AreTold q items texts) (q.tell i) text o rest.answers) (sym asks) rest.tell;
      ran = subst (λ (o : Option (ℕ × Command)). ServesEach v.rules s (cons_option o (filter_map q.asks items)) rest.answers end) (sym asks) from;
    }
one_more {I} v q agrees s i items text texts fits due rest (Some c) asks =
    let m : Told I = record { item = i; text = text } in
    let end = after v (behind v s m) (told items texts) in
    let one = once v q agrees s c m asks due in
    let from : ServesEach v.rules s (c ∷ filter_map q.asks items) (one.answer ∷ rest.answers) end = (behind v s m, one.is, fits c asks, rest.ran) in
    record {
      answers = one.answer ∷ rest.answers;
      tell = subst (λ (o : Option (ℕ × Command)). TellsNext (AreTold q items texts) (q.tell i) text o (one.answer ∷ rest.answers)) (sym asks) (one.text, rest.tell);
      ran = subst (λ (o : Option (ℕ × Command)). ServesEach v.rules s (cons_option o (filter_map q.asks items)) (one.answer ∷ rest.answers) end) (sym asks) from;
    }

pub all_called : {I : Type 0} (v : Service I) (q : Asking I) → Agrees v q → (s : State) (items : List I) (texts : List (List ℕ)) → AllByRecursion (Fits q) items
    → length texts ≡ length items → AreDue v s (told items texts) → AreCalledAll v q s items texts
all_called v q agrees s [] [] fits count due = record { answers = []; tell = refl; ran = refl }
all_called v q agrees s [] (text ∷ texts) fits count due = absurd (omega (arith, count))
all_called v q agrees s (i ∷ items) [] fits count due = absurd (omega (arith, count))
all_called v q agrees s (i ∷ items) (text ∷ texts) fits count due =
    one_more v q agrees s i items text texts fits.0 due.0
    (all_called v q agrees (behind v s (record { item = i; text = text })) items texts fits.1 (omega (arith, count)) due.1) (q.asks i) refl

-- as many texts as items
pub run_count : {I S : Type 0} (gives : S → I → List ℕ → S → Type 0) (items : List I) (texts : List (List ℕ)) (old new : S) → Run gives old items texts new → length texts ≡ length items
run_count gives [] [] old new run = refl
run_count gives [] (text ∷ texts) old new run = absurd run
run_count gives (i ∷ items) [] old new run = absurd run
run_count gives (i ∷ items) (text ∷ texts) old new run = ap suc (run_count gives items texts run.0 new run.2)

-- ---- what ships

pub shipped : {I : Type 0} → ListLaws → (v : Service I) (q : Asking I) → Agrees v q → (s : State) (items : List I) (texts : List (List ℕ)) (next : List I) (old new : Standing)
    → AllByRecursion (Fits q) items → length texts ≡ length items → IsSound v.rules s → HasCleanDisk new → Lasts v s (told items texts) next old new → IsShipped v q s items texts next old new
shipped laws v q agrees s items texts next old new fits count sound clean lasts =
    let all = all_called v q agrees s items texts fits count (lasts.due clean) in
    let shown = lasts.shown clean in
    record {
      behind = after v s (told items texts);
      run = record { answers = all.answers; told = all.tell; run = ran_all laws v.rules s (commands_in q items) all.answers (after v s (told items texts)) sound all.ran };
      at = shown.0;
      is_at = shown.1;
      sound = shown.2;
      shown = shown.3;
      lasts = lasts;
    }
