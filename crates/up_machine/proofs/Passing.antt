-- What a step refused, the decision refuses.
use Rattle.std.proofs.Common.{◌≡◌, Bool, true, false, Result, Err, sym, ap, ◌∙◌, subst}
use Rattle.std.specs.Prelude.{⊤, MatchBool, IsErrAnd}
use Rattle.std.proofs.lemmas.Result.{err_from_is_err_and}
use Rattle.up_canon.specs.Names.{Name}
use Rattle.up_canon.specs.Refusals.{is_memory}
use Rattle.up_canon.specs.declared.refusal.Refusal.{Refusal}
use Rattle.up_canon.specs.declared.refusal.Refusal.TheVariants.{Memory}
use Rattle.up_machine.specs.declared.decision.Decision.{Decision}
use Rattle.up_machine.specs.declared.decision.Delivered.{Delivered}
use Rattle.up_machine.specs.State.{State}
use Rattle.up_machine.specs.Deciding.{Outcome}
use Rattle.up_machine.specs.Decisions.{GivesDecision, GivesDelivered}

-- the refusal, unless it is of memory
abbrev pub Refuses : {A : Type 0} → Result A Refusal → Refusal → Type 0
Refuses computed e = MatchBool (is_memory e) ⊤ (computed ≡ Err e)

pub surely : {A : Type 0} (computed : Result A Refusal) (e : Refusal) → computed ≡ Err e → Refuses computed e
surely {A} computed e h = by_memory (is_memory e)
  where
    by_memory : (m : Bool) → MatchBool m ⊤ (◌≡◌ {A = Result A Refusal} computed (Err e))
    by_memory true = tt
    by_memory false = h

pub so_too : {A B : Type 0} (first : Result A Refusal) (computed : Result B Refusal) (e : Refusal) → (first ≡ Err e → computed ≡ Err e) → Refuses first e → Refuses computed e
so_too {A} {B} first computed e more h = by_memory (is_memory e) h
  where
    by_memory : (m : Bool) → MatchBool m ⊤ (◌≡◌ {A = Result A Refusal} first (Err e)) → MatchBool m ⊤ (◌≡◌ {A = Result B Refusal} computed (Err e))
    by_memory true h = tt
    by_memory false h = more h

-- what is refused for want of memory, its first step refused so
pub memory_first : {A B : Type 0} (result : Result A Refusal) (e : Refusal) (first : Result B Refusal) → IsErrAnd result (λ x. x ≡ e) → result ≡ Err Memory → first ≡ Err e
    → first ≡ Err Memory
memory_first {A} result e first is memory h =
    let (x, was, same) = err_from_is_err_and result is in
    let told : ◌≡◌ {A = Result A Refusal} (Err x) (Err Memory) = sym was ∙ memory in
    let is_memory : x ≡ Memory = cc in
    h ∙ ap (λ r. Err r) (sym same ∙ is_memory)

pub decision_refused : {R : Type 0} (has : R → Type 0) (s next : State) (result : Result (Decision R) Refusal) (e : Refusal) (computed : Result Outcome Refusal)
    → IsErrAnd result (λ x. x ≡ e) → Refuses computed e → GivesDecision has s next result computed
decision_refused has s next result e computed is h =
    let (x, was, same) = err_from_is_err_and result is in
    subst (λ r. GivesDecision has s next r computed) (sym (was ∙ ap (λ x. Err x) same)) h

pub delivery_refused : (s : State) (name : Name) (result : Result Delivered Refusal) (e : Refusal) (computed : Result Outcome Refusal)
    → IsErrAnd result (λ x. x ≡ e) → Refuses computed e → GivesDelivered s name result computed
delivery_refused s name result e computed is h =
    let (x, was, same) = err_from_is_err_and result is in
    subst (λ r. GivesDelivered s name r computed) (sym (was ∙ ap (λ x. Err x) same)) h
