-- What clients are told of a group.
use Rattle.std.proofs.Common.{◌≡◌, ◌≢◌, inl, inr, ℕ, ◌+◌, ◌<◌, ◌≤◌, Bool, true, false, List, length, set, get_or-set_other, get_or-set_same, sym, ◌∙◌, subst, arith}
use Rattle.std.proofs.lemmas.Bool.{cases_eq}
use Rattle.std.proofs.lemmas.List.{get_or_default}
use Rattle.std.specs.Prelude.{◌⊎◌, slice_index_or}
use Rattle.up_machine.specs.declared.answer.Answer.{Answer}
use Rattle.up_machine.specs.declared.command.Command.{Command}
use Rattle.up_connections.specs.Lines.{IsTold}
use Rattle.up_connections.specs.declared.hub.Client.{Client}
use Rattle.up_sockets.specs.Apart.{Tells}
use Rattle.up_sockets.specs.Groups.{AnswersGroup, AreTold, IsAt, MayBeTold}
use Rattle.up_sockets.specs.Served.{Done, Group, IsServed}
use Rattle.up_sockets.proofs.Joined.{served_none, served_once}

-- a group is one step, or nothing was done
pub group_served : {S T : Type 0} (does : S → Done → S → Type 0) (tells : Tells) (old new : S) (before after : List (Client T)) (r : Bool) → AnswersGroup does tells old before new after r → IsServed does old new
group_served does tells old new before after true h = served_once does old new (Group h.0 h.1) h.2
group_served does tells old new before after false h = subst (IsServed does old) (sym h.0) (served_none does old)

-- it was told of the command at this place
pub told_at : {T : Type 0} (tells : Tells) (commands : List (ℕ × Command)) (answers : List Answer) (old new : Client T) (place : ℕ) (asked : ℕ × Command) (answer : Answer) (head last : Bool)
    → IsAt commands place asked → IsAt answers place answer → asked.0 ≡ old.at → (new.connection ≡ old.connection) ⊎ IsTold asked.1 head last (tells answer last head) old.connection new.connection true
    → MayBeTold tells commands answers old new
told_at tells commands answers old new place asked answer head last is_asked is_answered moment (inl same) = inl same
told_at tells commands answers old new place asked answer head last is_asked is_answered moment (inr told) = inr (record {
  place = place;
  command = asked.1;
  answer = answer;
  head = head;
  last = last;
  asked = subst (λ n. IsAt commands place (n, asked.1)) moment is_asked;
  answered = is_answered;
  told = told;
})

-- the same of lists that are equal
pub told_same : {T : Type 0} (tells : Tells) (cs ds : List (ℕ × Command)) (rs qs : List Answer) (old new : List (Client T)) → cs ≡ ds → rs ≡ qs → AreTold tells cs rs old new → AreTold tells ds qs old new
told_same tells cs ds rs qs old new commands answers told =
    subst (λ l. AreTold tells l qs old new) commands (subst (λ l. AreTold tells cs l old new) answers told)

-- those up to this place were looked at
pub record Sofar {T : Type 0} (tells : Tells) (commands : List (ℕ × Command)) (answers : List Answer) (first now : List (Client T)) (i : ℕ) : Type 0 where
  pub told : (k : ℕ) (d : Client T) → k < i → MayBeTold tells commands answers (slice_index_or first k d) (slice_index_or now k d)
  pub others : (k : ℕ) (d : Client T) → i ≤ k → slice_index_or now k d ≡ slice_index_or first k d

pub one_more : {T : Type 0} (tells : Tells) (commands : List (ℕ × Command)) (answers : List Answer) (first now : List (Client T)) (i : ℕ) (item new : Client T) → i < length now
    → Sofar tells commands answers first now i → MayBeTold tells commands answers (slice_index_or now i item) new → Sofar tells commands answers first (set now i new) (i + 1)
one_more {T} tells commands answers first now i item new within far here = record {
  told = λ k d less. by_place k d less (cases_eq k i);
  others = λ k d more. let apart : k ≢ i = omega arith in let later : i ≤ k = omega arith in get_or-set_other now i k new d apart ∙ far.others k d later;
}
  where
    by_place : (k : ℕ) (d : Client T) → k < i + 1 → (k ≡ i) ⊎ (k ≡ i → ⊥) → MayBeTold tells commands answers (slice_index_or first k d) (slice_index_or (set now i new) k d)
    by_place k d less (inl same) =
        let at_first : slice_index_or now i item ≡ slice_index_or first i d = get_or_default now i item d within ∙ far.others i d (let it : i ≤ i = omega arith in it) in
        subst (λ n. MayBeTold tells commands answers (slice_index_or first n d) (slice_index_or (set now i new) n d)) (sym same)
        (subst (λ (c : Client T). MayBeTold tells commands answers c (slice_index_or (set now i new) i d)) at_first
        (subst (λ (c : Client T). MayBeTold tells commands answers (slice_index_or now i item) c) (sym (get_or-set_same now i new d within)) here))
    by_place k d less (inr apart) =
        let before : k < i = omega (arith, less, apart) in
        subst (λ (c : Client T). MayBeTold tells commands answers (slice_index_or first k d) c) (sym (get_or-set_other now i k new d apart)) (far.told k d before)
