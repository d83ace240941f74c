-- What a line or a request is answered where memory or the database may refuse.
use Rattle.std.proofs.Common.{◌≡◌, inl, inr, ℕ, List, Bool, true, false, Result, Ok, Err, Some, refl, sym, subst, ap, ◌∙◌, arith}
use Rattle.std.specs.Prelude.{◌⊎◌, ⊤, IsTrue, MatchBool, OnErr}
use Rattle.sqlite.specs.Tree.{Trees}
use Rattle.sqlite_trees.specs.declared.store.Store.{Ghosts}
use Rattle.up_canon.specs.Names.{Name}
use Rattle.up_canon.specs.Refusals.{is_memory}
use Rattle.up_canon.specs.declared.refusal.Refusal.{Refusal}
use Rattle.up_canon.specs.declared.refusal.Refusal.TheVariants.{Memory, Store, UnknownVehicle}
use Rattle.up_sign.specs.Schemes.{Rules}
use Rattle.up_machine.specs.declared.answer.Answer.{Answer}
use Rattle.up_machine.specs.declared.answer.Answer.TheVariants.{Done, Already, Reply, File, Refused}
use Rattle.up_machine.specs.declared.command.Command.{Command}
use Rattle.up_machine.specs.Deciding.{Outcome}
use Rattle.up_machine.specs.Repeats.{serve}
use Rattle.up_machine.specs.Sound.{IsSound}
use Rattle.up_machine.specs.State.{State}
use Rattle.up_desk.specs.Serving.{is_failed, IsCommit}
use Rattle.up_records.specs.Connected.{is_fault}
use Rattle.up_records.specs.Reads.{DiskFailed}
use Rattle.up_records.specs.Standing.{Standing, HasCleanDisk, IfClean, ShowsState, Survives, state}
use Rattle.up_desk.specs.Desks.{DeskView}
use Rattle.up_script.specs.AskedLines.{asked_in}
use Rattle.up_script.specs.declared.asked.Asked.{Asked}
use Rattle.up_script.specs.declared.asked.What.{What}
use Rattle.up_script.specs.declared.asked.What.TheVariants.{Call, Show}
use Rattle.up_script.specs.PrintedLines.{answer_text, refused_text}
use Rattle.up_heads.specs.Responses.{refusal_response_of}
use Rattle.up_service.specs.Answers.{answered_as, HoldsNext, IsCommitted, IsAnswerOrFailed, AnswersAs}
use Rattle.up_desk.specs.Calls.{IsCalled}
use Rattle.up_service.specs.LineAnswers.{line_answer, answer_to, carried_out, command_answer, viewed, shown_in, shown_text, AnswersLine, IsViewText, IsTextOf, IsReadAs, Prints, Line}
use Rattle.up_service.specs.Responses.{answer_response, AnswersCall}
use Rattle.up_service.proofs.Showing.{Sees}
use Rattle.up_service.proofs.Failing.{AreApart, TellsApart, refused_by, not_committed, failed_refusal, failed_answer, lines_apart, responses_apart, lines_tell_apart, responses_tell_apart}

-- ---- commands

by_loss : (tell : Refusal → List ℕ) (tell_answer : Answer → List ℕ) → ((r : Refusal) → tell_answer (Refused r) ≡ tell r) → (lost : Bool) (a : Answer) (old new : State) (o : Outcome) (t : List ℕ)
    → is_failed a ≡ lost → MatchBool lost (new ≡ old) ((a ≡ o.answer) × (new ≡ o.next)) → t ≡ tell_answer a → IsAnswerOrFailed tell (record { text = tell_answer o.answer; called = Some o.answer; next = o.next }) old t new
by_loss tell tell_answer same true a old new o t is h e = inr (failed_answer tell tell_answer same a t is e, h)
by_loss tell tell_answer same false a old new o t is h e = inl (e ∙ ap tell_answer h.0, h.1)

-- where the answer to a commit is told, it was given
committed : (tell : Refusal → List ℕ) (tell_answer : Answer → List ℕ) → ((r : Refusal) → tell_answer (Refused r) ≡ tell r) → AreApart tell tell_answer → (lost : Bool) (a : Answer) (old new : State) (o : Outcome)
    → is_failed a ≡ lost → MatchBool lost (new ≡ old) ((a ≡ o.answer) × (new ≡ o.next)) → tell_answer a ≡ tell_answer o.answer → IsCommit old o.answer o.next → IsCommit old a o.next
committed tell tell_answer same apart false a old new o is h told commit = subst (λ x. IsCommit old x o.next) (sym h.0) commit
committed tell tell_answer same apart true Done old new o is h told commit = absurd (cc)
committed tell tell_answer same apart true Already old new o is h told commit = absurd (cc)
committed tell tell_answer same apart true (Reply r) old new o is h told commit = absurd (cc)
committed tell tell_answer same apart true (File f) old new o is h told commit = absurd (cc)
committed tell tell_answer same apart true (Refused r) old new o is h told commit = absurd (not_committed tell tell_answer apart r o.answer old o.next is commit (sym (same r) ∙ told))

-- a fault that is told as `Store` is that one
store_of : (tell : Refusal → List ℕ) (r : Refusal) → TellsApart tell → is_fault r ≡ true → tell r ≡ tell Store → r ≡ Store
store_of tell r apart fault same = by_case (refused_by r fault)
  where
    by_case : (r ≡ Memory) ⊎ (r ≡ Store) → r ≡ Store
    by_case (inl memory) = absurd (apart (sym (ap tell memory) ∙ same))
    by_case (inr store) = store

-- where another text than the due one tells `Store`, the desk answered that
store_answered : (tell : Refusal → List ℕ) (tell_answer : Answer → List ℕ) → ((r : Refusal) → tell_answer (Refused r) ≡ tell r) → TellsApart tell → (lost : Bool) (a : Answer) (old new : State) (o : Outcome)
    → is_failed a ≡ lost → MatchBool lost (new ≡ old) ((a ≡ o.answer) × (new ≡ o.next)) → (tell_answer a ≡ tell_answer o.answer → ⊥) → tell_answer a ≡ tell Store → a ≡ Refused Store
store_answered tell tell_answer same apart false a old new o is h other told = absurd (other (ap tell_answer h.0))
store_answered tell tell_answer same apart true Done old new o is h other told = absurd (cc)
store_answered tell tell_answer same apart true Already old new o is h other told = absurd (cc)
store_answered tell tell_answer same apart true (Reply r) old new o is h other told = absurd (cc)
store_answered tell tell_answer same apart true (File f) old new o is h other told = absurd (cc)
store_answered tell tell_answer same apart true (Refused r) old new o is h other told = ap Refused (store_of tell r apart is (sym (same r) ∙ told))

-- what is told of what the desk answered a command
called : (tell : Refusal → List ℕ) (tell_answer : Answer → List ℕ) → ((r : Refusal) → tell_answer (Refused r) ≡ tell r) → AreApart tell tell_answer → TellsApart tell
    → (k : Rules) (at : ℕ) (c : Command) (a : Answer) (t : List ℕ) (old new : Standing) → IsCalled k at c a old new
    → t ≡ tell_answer a → AnswersAs tell (λ s. answered_as tell_answer k s at c) k t old new
called tell tell_answer same apart faults_apart k at c a t old new it is = record {
  clean = it.clean;
  answered = λ now s sound was. let to = it.served now s sound was in (to.0, by_loss tell tell_answer same (is_failed a) a s to.0 (serve k s at c) t refl to.1 is, to.3, to.4);
  crash = it.crash;
  durable = λ s sound was told commit now.
      let to = it.served now s sound was in
      it.durable s sound was (committed tell tell_answer same apart (is_failed a) a s to.0 (serve k s at c) refl to.1 (sym is ∙ told) commit) now;
  blame = λ now s sound was other store.
      let to = it.served now s sound was in
      it.blame now
      (store_answered tell tell_answer same faults_apart (is_failed a) a s to.0 (serve k s at c) refl to.1 (λ due. other (is ∙ due)) (sym is ∙ store))
      s sound was;
}

-- as a line
pub printed : (k : Rules) (at : ℕ) (c : Command) (a : Answer) (t : List ℕ) (old new : Standing) → IsCalled k at c a old new → t ≡ answer_text a → AnswersLine (λ s. command_answer k s at c) k t old new
unfolding answer_text
printed k at c a t old new it is = called refused_text answer_text (λ r. refl) lines_apart lines_tell_apart k at c a t old new it is

-- as a response
pub responded : (k : Rules) (at : ℕ) (c : Command) (last head : Bool) (a : Answer) (t : List ℕ) (old new : Standing) → IsCalled k at c a old new
    → t ≡ answer_response a last head → AnswersCall k at c last head t old new
unfolding answer_response
responded k at c last head a t old new it is =
    called (λ r. refusal_response_of r last head) (λ answer. answer_response answer last head) (λ r. refl) (responses_apart last head) (responses_tell_apart last head) k at c a t old new it is

-- ---- lines that are refused, views, and fixed answers

-- nothing happens
pub survives_same : (P : Trees → Type 0) (s : Standing) → Survives s s P
survives_same P s = record { clean = omega arith; shield = λ h. h; counts = omega arith; limit = refl; closes = λ clean is_open. inl is_open; crash = λ clean db may. inl may }

-- a commit isn't told as want of memory
no_commit : (k : Rules) (s : State) (at : ℕ) (w : What) → refused_text Memory ≡ (carried_out k s at w).text → IsCommitted s (carried_out k s at w).called (carried_out k s at w).next → ⊥
no_commit k s at (Call c) told commit = not_committed refused_text answer_text lines_apart Memory (serve k s at c).answer s (serve k s at c).next refl commit told
no_commit k s at (Show vehicle) told commit = commit

nothing_committed : (k : Rules) (s : State) (a : Result Asked Refusal) → refused_text Memory ≡ (answer_to k s a).text → IsCommitted s (answer_to k s a).called (answer_to k s a).next → ⊥
nothing_committed k s (Ok asked) told commit = no_commit k s asked.at asked.what told commit
nothing_committed k s (Err r) told commit = commit

memory_by : (r : Refusal) → is_memory r ≡ true → r ≡ Memory
memory_by Memory h = refl
memory_by other h = cc

pub refused_line : {K D : Type 0} (rules : K → Rules) (g : Ghosts D) (line : List ℕ) (r : Refusal) (t : List ℕ) (desk : DeskView K D)
    → IsReadAs (rules desk.scheme) line (Err r) → t ≡ refused_text r → Line rules g desk line t desk
unfolding line_answer
refused_line rules g line r t desk read is = (
  refl,
  (Err r, read, (is, refl)),
  record {
    clean = λ now. now;
    answered = λ now q sound was. (q, answer_by q (is_memory r) refl read.0, sound, was now);
    crash = λ q sound was. survives_same (HoldsNext (answer_to k q (asked_in k line)).called (answer_to k q (asked_in k line)).next) (state g desk.store);
    durable = λ q sound was told commit. absurd (not_durable q (is_memory r) refl read.0 told commit);
    blame = λ now q sound was other store. absurd (not_blamed q (is_memory r) refl read.0 other store);
  },
)
  where
    k : Rules
    k = rules desk.scheme

    answer_by : (q : State) (b : Bool) → is_memory r ≡ b → MatchBool b ⊤ (asked_in k line ≡ Err r) → IsAnswerOrFailed refused_text (answer_to k q (asked_in k line)) q t q
    answer_by q true same due = inr (inl (is ∙ ap refused_text (memory_by r same)), refl)
    answer_by q false same due = inl (is ∙ sym (ap (λ a. (answer_to k q a).text) due), sym (ap (λ a. (answer_to k q a).next) due))

    not_durable : (q : State) (b : Bool) → is_memory r ≡ b → MatchBool b ⊤ (asked_in k line ≡ Err r) → t ≡ (answer_to k q (asked_in k line)).text
        → IsCommitted q (answer_to k q (asked_in k line)).called (answer_to k q (asked_in k line)).next → ⊥
    not_durable q true same due told commit = nothing_committed k q (asked_in k line) (sym (is ∙ ap refused_text (memory_by r same)) ∙ told) commit
    not_durable q false same due told commit = subst (λ a. IsCommitted q (answer_to k q a).called (answer_to k q a).next) due commit

    not_blamed : (q : State) (b : Bool) → is_memory r ≡ b → MatchBool b ⊤ (asked_in k line ≡ Err r) → (t ≡ (answer_to k q (asked_in k line)).text → ⊥) → t ≡ refused_text Store → ⊥
    not_blamed q true same due other store = lines_tell_apart (sym (is ∙ ap refused_text (memory_by r same)) ∙ store)
    not_blamed q false same due other store = other (is ∙ sym (ap (λ a. (answer_to k q a).text) due))

-- a line that is read as this is answered as that is
pub asked_line : {K D : Type 0} (rules : K → Rules) (g : Ghosts D) (line : List ℕ) (asked : Asked) (t : List ℕ) (old new : DeskView K D) → IsReadAs (rules old.scheme) line (Ok asked)
    → Prints rules g (λ k. IsTextOf k asked.at asked.what) (λ k s. carried_out k s asked.at asked.what) old t new → Line rules g old line t new
unfolding line_answer
asked_line rules g line asked t old new is h = (
  h.0,
  (Ok asked, is, h.1),
  subst (λ a. AnswersLine (λ s. answer_to (rules old.scheme) s a) (rules old.scheme) t (state g old.store) (state g new.store)) (sym is.0) h.2,
)

-- the text of a view's refusal
pub no_view : (r : Refusal) (t : List ℕ) → (r ≡ UnknownVehicle) ⊎ IsTrue (is_fault r) → t ≡ refused_text r → IsViewText t
no_view r t (inl unknown) is = inr (inl (is ∙ ap refused_text unknown))
no_view r t (inr fault) is = inr (inr (failed_refusal refused_text r t fault is))

-- a view is told, or its refusal
pub told_view : (k : Rules) (vehicle : Name) (t : List ℕ) (old new : Standing) → Sees (λ s. shown_in s vehicle ≡ Ok t) old new → AnswersLine (λ s. viewed s vehicle) k t old new
told_view k vehicle t old new sees = record {
  clean = sees.clean;
  answered = λ now s sound was. let it = sees.seen now k s sound was in (s, inl (sym (ap shown_text it.0), refl), sound, it.1);
  crash = λ s sound was. sees.crash;
  durable = λ s sound was told commit. absurd commit;
  blame = λ now s sound was other store. absurd (other (sym (ap shown_text (sees.seen now k s sound was).0)));
}

pub told_refusal : (k : Rules) (vehicle : Name) (r : Refusal) (t : List ℕ) (old new : Standing) → Sees (λ s. MatchBool (is_fault r) ⊤ (shown_in s vehicle ≡ Err r)) old new → t ≡ refused_text r
    → (r ≡ Store → HasCleanDisk new → (s : State) → IsSound k s → IfClean (ShowsState s) old → DiskFailed old new)
    → AnswersLine (λ s. viewed s vehicle) k t old new
told_refusal k vehicle r t old new sees is blame = record {
  clean = sees.clean;
  answered = λ now s sound was. let it = sees.seen now k s sound was in (s, by_loss_of s (is_fault r) refl it.0, sound, it.1);
  crash = λ s sound was. sees.crash;
  durable = λ s sound was told commit. absurd commit;
  blame = λ now s sound was other store. blame (store_by s (is_fault r) refl (sees.seen now k s sound was).0 other store) now s sound was;
}
  where
    by_loss_of : (s : State) (b : Bool) → is_fault r ≡ b → MatchBool b ⊤ (shown_in s vehicle ≡ Err r) → IsAnswerOrFailed refused_text (viewed s vehicle) s t s
    by_loss_of s true same due = inr (failed_refusal refused_text r t same is, refl)
    by_loss_of s false same due = inl (is ∙ sym (ap shown_text due), refl)

    store_by : (s : State) (b : Bool) → is_fault r ≡ b → MatchBool b ⊤ (shown_in s vehicle ≡ Err r) → (t ≡ shown_text (shown_in s vehicle) → ⊥) → t ≡ refused_text Store → r ≡ Store
    store_by s true same due other store = store_of refused_text r lines_tell_apart same (sym is ∙ store)
    store_by s false same due other store = absurd (other (is ∙ sym (ap shown_text due)))

-- ---- what holds after a fault

pub on_err : {T E P : Type 0} (r : Result T E) → P → OnErr r P
on_err (Ok x) p = tt
on_err (Err e) p = p
