-- What a call of a desk comes to, from what its command comes to over the records.
use Rattle.std.proofs.Common.{◌≡◌, ℕ, refl, sym, subst}
use Rattle.std.specs.Prelude.{IfSome, IsTrue, Result}
use Rattle.up_canon.specs.declared.refusal.Refusal.{Refusal}
use Rattle.up_sign.specs.Schemes.{Rules}
use Rattle.up_machine.specs.declared.command.Command.{Command}
use Rattle.up_machine.specs.declared.answer.Answer.{Answer}
use Rattle.up_machine.specs.Commands.{is_command}
use Rattle.up_machine.specs.Laws.{EmptyIsSound, KeptRepliesOutlastRuns}
use Rattle.up_machine.specs.RepeatLaws.{ServedIsThinned, ServedStaysSound}
use Rattle.up_machine.specs.Repeats.{serve}
use Rattle.up_records.specs.Senders.{RefusesUnread}
use Rattle.up_records.specs.Standing.{HasCleanDisk, HoldsState, Standing}
use Rattle.up_desk.specs.Calls.{IsCalled, ServesCall}
use Rattle.up_desk.specs.Serving.{CarriesOut, outcome_due, outright, told}
use Rattle.up_desk.proofs.Serving.{answered, blamed, crashed, committed, clean_once, told_outright}
use Rattle.up_desk.proofs.Outlasting.{answered_stays}

-- the laws of the machine that tell what a call comes to
pub record CallLaws : Type 0 where
  pub empty : EmptyIsSound
  pub sound : ServedStaysSound
  pub served : ServedIsThinned
  pub replies : KeptRepliesOutlastRuns

abbrev Obeys : Rules → ℕ → Command → Result Answer Refusal → Standing → Standing → Type 0
Obeys k at c r old new = CarriesOut k (λ s. outcome_due k s at c) old new r

cleaned : (laws : CallLaws) (k : Rules) (at : ℕ) (c : Command) (r : Result Answer Refusal) (old new : Standing) → Obeys k at c r old new → HasCleanDisk new → HasCleanDisk old
cleaned laws k at c r old new obeys =
    clean_once k old new (λ s. HoldsState (serve k s at c).next) laws.empty
    (λ s sound never. crashed k s old new at c r (obeys.serves s sound (λ now. absurd (never now))))

serves : (laws : CallLaws) (k : Rules) (at : ℕ) (c : Command) (r : Result Answer Refusal) (old new : Standing) → IsTrue (is_command c) → Obeys k at c r old new → ServesCall k at c (told r) old new
serves laws k at c r old new fits obeys = λ now s sound was.
    let it = answered k s new at c r laws.sound fits sound ((obeys.serves s sound was).leaves now) in
    (it.next, it.answered, answered_stays k s it.next at c (told r) laws.served laws.replies it.answered, it.sound, it.keeps)

told_call : {S : Type 0} (laws : CallLaws) (k : Rules) (at : ℕ) (c : Command) (r : Result Answer Refusal) (old new : Standing) (before after : S) → IsTrue (is_command c) → Obeys k at c r old new
    → IfSome (outright k at c) (RefusesUnread before after r) → IsCalled k at c (told r) old new
told_call laws k at c r old new before after fits obeys due = record {
  served = serves laws k at c r old new fits obeys;
  outright = told_outright (outright k at c) before after r (told r) refl due;
  crash = λ s sound was. crashed k s old new at c r (obeys.serves s sound was);
  durable = λ s sound was commit. committed k s old new at c r (obeys.serves s sound was) commit;
  blame = λ now is s sound was. blamed k s old new at c r laws.sound fits sound (obeys.serves s sound was) now is;
  clean = cleaned laws k at c r old new obeys;
}

pub called : {S : Type 0} (laws : CallLaws) (k : Rules) (at : ℕ) (c : Command) (r : Result Answer Refusal) (a : Answer) (old new : Standing) (before after : S) → IsTrue (is_command c) → Obeys k at c r old new
    → IfSome (outright k at c) (RefusesUnread before after r) → a ≡ told r → IsCalled k at c a old new
called laws k at c r a old new before after fits obeys due is = subst (λ (x : Answer). IsCalled k at c x old new) (sym is) (told_call laws k at c r old new before after fits obeys due)
