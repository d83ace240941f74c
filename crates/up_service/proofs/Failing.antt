-- What says that memory or the database refused, that only a refusal is told so, and that the two are told apart.
use Rattle.std.proofs.Common.{◌≡◌, inl, inr, ℕ, List, Bool, true, refl, sym, subst, ap, ◌∙◌, arith, get_or}
use Rattle.std.specs.Prelude.{◌⊎◌, [], None}
use Rattle.std.specs.Fmt.{digits}
use Rattle.up_canon.specs.declared.refusal.Refusal.{Refusal}
use Rattle.up_canon.specs.declared.refusal.Refusal.TheVariants.{Memory, Store}
use Rattle.up_machine.specs.declared.answer.Answer.{Answer}
use Rattle.up_machine.specs.declared.answer.Answer.TheVariants.{Done, Already, Reply as Replied, File, Refused}
use Rattle.up_machine.specs.declared.answer.Reply.{Reply}
use Rattle.up_machine.specs.State.{State}
use Rattle.up_desk.specs.Serving.{is_failed, IsCommit}
use Rattle.up_records.specs.Connected.{is_fault}
use Rattle.up_script.specs.PrintedLines.{answer_text, refused_text}
use Rattle.up_heads.specs.Responses.{response_of, error_body, refusal_response_of}
use Rattle.up_service.specs.Answers.{IsFailed}
use Rattle.up_service.specs.Responses.{answer_response}

pub refused_by : (r : Refusal) → is_fault r ≡ true → (r ≡ Memory) ⊎ (r ≡ Store)
refused_by Memory h = inl refl
refused_by Store h = inr refl
refused_by other h = cc

pub failed_refusal : (tell : Refusal → List ℕ) (r : Refusal) (t : List ℕ) → is_fault r ≡ true → t ≡ tell r → IsFailed tell t
failed_refusal tell r t h is = by_case (refused_by r h)
  where
    by_case : (r ≡ Memory) ⊎ (r ≡ Store) → IsFailed tell t
    by_case (inl same) = inl (is ∙ ap tell same)
    by_case (inr same) = inr (is ∙ ap tell same)

pub failed_answer : (tell : Refusal → List ℕ) (tell_answer : Answer → List ℕ) → ((r : Refusal) → tell_answer (Refused r) ≡ tell r) → (a : Answer) (t : List ℕ) → is_failed a ≡ true → t ≡ tell_answer a → IsFailed tell t
failed_answer tell tell_answer same Done t h is = cc
failed_answer tell tell_answer same Already t h is = cc
failed_answer tell tell_answer same (Replied r) t h is = cc
failed_answer tell tell_answer same (File f) t h is = cc
failed_answer tell tell_answer same (Refused r) t h is = failed_refusal tell r t h (is ∙ same r)

-- ---- only a refusal is told so

-- what tells these refusals is told of a refusal alone
abbrev pub AreApart : (Refusal → List ℕ) → (Answer → List ℕ) → Type 0
AreApart tell tell_answer = (r : Refusal) (a : Answer) → is_fault r ≡ true → tell r ≡ tell_answer a → (q : Refusal) × (a ≡ Refused q)

-- so of no commit
pub not_committed : (tell : Refusal → List ℕ) (tell_answer : Answer → List ℕ) → AreApart tell tell_answer → (r : Refusal) (a : Answer) (s next : State) → is_fault r ≡ true → IsCommit s a next → tell r ≡ tell_answer a → ⊥
not_committed tell tell_answer apart r a s next fault commit same = let refused = apart r a fault same in subst (λ b. IsCommit s b next) refused.1 commit

-- lines, by their third byte
third : List ℕ → ℕ
third text = get_or text 2 0

third_refused : (r : Refusal) → third (refused_text r) ≡ 102
unfolding third
third_refused r = refl

third_done : third (answer_text Done) ≡ 110
unfolding third answer_text
third_done = refl

third_already : third (answer_text Already) ≡ 114
unfolding third answer_text
third_already = refl

third_reply : (reply : Reply) → third (answer_text (Replied reply)) ≡ 112
unfolding third answer_text
third_reply reply = refl

third_file : (text : List ℕ) → third (answer_text (File text)) ≡ 108
unfolding third answer_text
third_file text = refl

pub lines_apart : AreApart refused_text answer_text
lines_apart r Done fault same = absurd (let e : 102 ≡ 110 = sym (third_refused r) ∙ ap third same ∙ third_done in omega arith)
lines_apart r Already fault same = absurd (let e : 102 ≡ 114 = sym (third_refused r) ∙ ap third same ∙ third_already in omega arith)
lines_apart r (Replied reply) fault same = absurd (let e : 102 ≡ 112 = sym (third_refused r) ∙ ap third same ∙ third_reply reply in omega arith)
lines_apart r (File text) fault same = absurd (let e : 102 ≡ 108 = sym (third_refused r) ∙ ap third same ∙ third_file text in omega arith)
lines_apart r (Refused other) fault same = (other, refl)

-- responses, by the first digit of the status
digit : List ℕ → ℕ
digit text = get_or text 9 0

digit_ok : (body : List ℕ) (last head : Bool) → digit (response_of 200 None last head body) ≡ 50
unfolding digit response_of digits
digit_ok body last head = refl

digit_memory : (last head : Bool) → digit (refusal_response_of Memory last head) ≡ 53
unfolding digit response_of digits
digit_memory last head = refl

digit_store : (last head : Bool) → digit (refusal_response_of Store last head) ≡ 53
unfolding digit response_of digits
digit_store last head = refl

digit_failed : (r : Refusal) (last head : Bool) → is_fault r ≡ true → digit (refusal_response_of r last head) ≡ 53
digit_failed r last head fault = by_case (refused_by r fault)
  where
    by_case : (r ≡ Memory) ⊎ (r ≡ Store) → digit (refusal_response_of r last head) ≡ 53
    by_case (inl same) = ap (λ q. digit (refusal_response_of q last head)) same ∙ digit_memory last head
    by_case (inr same) = ap (λ q. digit (refusal_response_of q last head)) same ∙ digit_store last head

not_ok : (r : Refusal) (body : List ℕ) (last head : Bool) → is_fault r ≡ true → refusal_response_of r last head ≡ response_of 200 None last head body → ⊥
not_ok r body last head fault same = absurd (let e : 53 ≡ 50 = sym (digit_failed r last head fault) ∙ ap digit same ∙ digit_ok body last head in omega arith)

pub responses_apart : (last head : Bool) → AreApart (λ r. refusal_response_of r last head) (λ a. answer_response a last head)
unfolding answer_response
responses_apart last head r Done fault same = absurd (not_ok r [] last head fault same)
responses_apart last head r Already fault same = absurd (not_ok r [] last head fault same)
responses_apart last head r (Replied reply) fault same = absurd (not_ok r reply.text last head fault same)
responses_apart last head r (File text) fault same = absurd (not_ok r text last head fault same)
responses_apart last head r (Refused other) fault same = (other, refl)

-- ---- the two are told apart

-- want of memory is told otherwise than a fault of the database
abbrev pub TellsApart : (Refusal → List ℕ) → Type 0
TellsApart tell = tell Memory ≡ tell Store → ⊥

-- lines, by the digit of the refusal's number
ninth : List ℕ → ℕ
ninth text = get_or text 8 0

ninth_memory : ninth (refused_text Memory) ≡ 49
unfolding ninth digits
ninth_memory = refl

ninth_store : ninth (refused_text Store) ≡ 50
unfolding ninth digits
ninth_store = refl

pub lines_tell_apart : TellsApart refused_text
lines_tell_apart same = absurd (let e : 49 ≡ 50 = sym ninth_memory ∙ ap ninth same ∙ ninth_store in omega arith)

-- responses, by the last digit of the body's length
unit : List ℕ → ℕ
unit text = get_or text 83 0

unit_memory : (last head : Bool) → unit (refusal_response_of Memory last head) ≡ 55
unfolding unit response_of error_body digits
unit_memory last head = refl

unit_store : (last head : Bool) → unit (refusal_response_of Store last head) ≡ 54
unfolding unit response_of error_body digits
unit_store last head = refl

pub responses_tell_apart : (last head : Bool) → TellsApart (λ r. refusal_response_of r last head)
responses_tell_apart last head same = absurd (let e : 55 ≡ 54 = sym (unit_memory last head) ∙ ap unit same ∙ unit_store last head in omega arith)
