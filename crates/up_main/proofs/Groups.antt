-- Commands that are called together, and what they come to.
use Rattle.std.proofs.Common.{◌≡◌, inl, inr, ℕ, suc, ◌+◌, List, [], ◌∷◌, ◌++◌, Bool, true, false, Option, Some, None, length, map, refl, sym, subst, ap, ◌∙◌, arith}
use Rattle.std.specs.Prelude.{◌⊎◌, ⊤, if◌then◌else◌}
use Rattle.sqlite.specs.Tree.{Trees}
use Rattle.sqlite.proofs.StateLemmas.{survives_weaker}
use Rattle.up_canon.specs.declared.refusal.Refusal.{Refusal}
use Rattle.up_sign.specs.Schemes.{Rules}
use Rattle.up_heads.specs.Responses.{refusal_response_of}
use Rattle.up_machine.specs.declared.answer.Answer.{Answer}
use Rattle.up_machine.specs.declared.answer.Answer.TheVariants.{Refused}
use Rattle.up_machine.specs.declared.command.Command.{Command}
use Rattle.up_machine.specs.Repeats.{Met, Sent, expected, meet, serve}
use Rattle.up_machine.specs.Repeats as machine
use Rattle.up_machine.specs.RepeatLaws.{ServedIsThinned}
use Rattle.up_machine.specs.Sound.{IsSound}
use Rattle.up_machine.specs.State.{State}
use Rattle.up_records.specs.Standing.{HoldsState, Standing, HasCleanDisk, IfClean, ShowsState, LeavesOnly}
use Rattle.up_desk.specs.Runs.{AreCalled, AreOutright, ComesTo, StaysOrComesTo, carried_out, outcome_behind, sent, timed, unless_failed}
use Rattle.up_desk.specs.Runs as desk
use Rattle.up_desk.specs.Serving.{is_failed}
use Rattle.up_service.specs.Answers.{Answered, IsAnswerOrFailed, IsCommitted, answered_as}
use Rattle.up_service.specs.Responses.{answer_response}
use Rattle.up_service.specs.Runs.{HoldsSome, IsAnsweredCommit, IsMadeBySome, IsMadeTogether, Lasts, Service, Told, AreDue, after, behind, items_of, made, tells_fault, told}
use Rattle.up_service.proofs.Failing.{failed_answer}
use Rattle.up_service.proofs.Lasting.{FaultsChangeNothing, behind_is, due, failed_tells}
use Rattle.up_main.specs.Clients.{command_service}

-- a command and its moment
abbrev Timely : Type 0
Timely = ℕ × Command

-- the text that tells an answer to a command of a group, and a refusal
abbrev as_text : Bool → Bool → Answer → List ℕ
as_text last head answer = answer_response answer last head

abbrev as_refusal : Bool → Bool → Refusal → List ℕ
as_refusal last head r = refusal_response_of r last head

-- what a command was told, in the state in which it was met
record Follows (last head : Bool) (k : Rules) (s : State) (m : Told Timely) (x : Sent) : Type 0 where
  as_command : (t : State) → answered_as (as_text last head) k t m.item.0 m.item.1 ≡ answered_as (as_text last head) k t x.item.at x.item.command
  told_is : IsAnswerOrFailed (as_refusal last head) (answered_as (as_text last head) k s m.item.0 m.item.1) s m.text (meet k s x).next
  failed : x.lost ≡ true → tells_fault (command_service last head k) m ≡ true

-- so is each of a list
abbrev Walk : Bool → Bool → Rules → State → List (Told Timely) → List Sent → Type 0
Walk last head k s [] [] = ⊤
Walk last head k s [] (x ∷ xs) = ⊥
Walk last head k s (m ∷ ms) [] = ⊥
Walk last head k s (m ∷ ms) (x ∷ xs) = Follows last head k s m x × Walk last head k (meet k s x).next ms xs

tells_refusal : (last head : Bool) (r : Refusal) → answer_response (Refused r) last head ≡ refusal_response_of r last head
unfolding answer_response
tells_refusal last head r = refl

parts_of : {A : Type 0} (x y : A) (xs ys : List A) → x ∷ xs ≡ y ∷ ys → (x ≡ y) × (xs ≡ ys)
parts_of x y xs ys h = (cc, cc)

some_is : {A : Type 0} (x y : A) → Some x ≡ Some y → x ≡ y
some_is x y h = cc

module _ (ends heads : Bool) (k : Rules) (calm : FaultsChangeNothing (command_service ends heads k)) where
  abbrev v : Service Timely
  v = command_service ends heads k

  follows : (s : State) (c : Timely) (a : Answer) → unless_failed a ≡ (meet k s (record { item = timed c; lost = is_failed a })).answer
      → Follows ends heads k s (record { item = c; text = as_text ends heads a }) (record { item = timed c; lost = is_failed a })
  follows s c a same = by_loss (is_failed a) refl
    where
      x : Sent
      x = record { item = timed c; lost = is_failed a }

      m : Told Timely
      m = record { item = c; text = as_text ends heads a }

      met : Bool → Met
      met b = meet k s (record { item = timed c; lost = b })

      by_loss : (b : Bool) → is_failed a ≡ b → Follows ends heads k s m x
      by_loss true is = record {
        as_command = λ t. refl;
        told_is = inr (failed_answer (as_refusal ends heads) (as_text ends heads) (tells_refusal ends heads) a (as_text ends heads a) is refl, ap (λ b. (met b).next) is);
        failed = λ lost. failed_tells v m (failed_answer (as_refusal ends heads) (as_text ends heads) (tells_refusal ends heads) a (as_text ends heads a) is refl);
      }
      by_loss false is =
          let given : Some a ≡ Some (serve k s c.0 c.1).answer = sym (ap (λ (b : Bool). if◌then◌else◌ {A = Option Answer} b None (Some a)) is) ∙ same ∙ ap (λ b. (met b).answer) is in
          let told_so : a ≡ (serve k s c.0 c.1).answer = some_is a (serve k s c.0 c.1).answer given in
          record {
            as_command = λ t. refl;
            told_is = inl (ap (as_text ends heads) told_so, ap (λ b. (met b).next) is);
            failed = λ lost. absurd (let no : true ≡ false = sym lost ∙ is in cc);
          }

  walk_of : (s : State) (cs : List Timely) (answers : List Answer) → AreOutright k cs answers
      → map unless_failed answers ≡ expected k s (sent cs answers) → Walk ends heads k s (told cs (map (as_text ends heads) answers)) (sent cs answers)
  walk_of s [] [] due exp = tt
  walk_of s [] (a ∷ answers) due exp = absurd due
  walk_of s (c ∷ cs) [] due exp = absurd due
  walk_of s (c ∷ cs) (a ∷ answers) due exp =
      let x : Sent = record { item = timed c; lost = is_failed a } in
      let same = parts_of (unless_failed a) (meet k s x).answer (map unless_failed answers) (expected k (meet k s x).next (sent cs answers)) exp in
      (follows s c a same.0, walk_of (meet k s x).next cs answers due.1 same.1)

  next_is : (s : State) (m : Told Timely) (x : Sent) → Follows ends heads k s m x → (meet k s x).next ≡ behind v s m
  next_is s m x f = behind_is v calm s (meet k s x).next m f.told_is

  due_of : (s : State) (ms : List (Told Timely)) (xs : List Sent) → Walk ends heads k s ms xs → AreDue v s ms
  due_of s [] xs walk = tt
  due_of s (m ∷ ms) [] walk = absurd walk
  due_of s (m ∷ ms) (x ∷ xs) walk =
      (due v s (meet k s x).next m walk.0.told_is, subst (λ t. AreDue v t ms) (next_is s m x walk.0) (due_of (meet k s x).next ms xs walk.1))

  after_of : (s : State) (ms : List (Told Timely)) (xs : List Sent) → Walk ends heads k s ms xs → after v s ms ≡ machine.after k s xs
  after_of s [] [] walk = refl
  after_of s [] (x ∷ xs) walk = absurd walk
  after_of s (m ∷ ms) [] walk = absurd walk
  after_of s (m ∷ ms) (x ∷ xs) walk = ap (λ t. after v t ms) (sym (next_is s m x walk.0)) ∙ after_of (meet k s x).next ms xs walk.1

  -- ---- what a crash leaves

  -- commands that were all carried out
  carried : (at s : State) (ms : List (Told Timely)) (xs lost rest : List Sent) → Walk ends heads k at ms xs → xs ≡ lost ++ rest → IsMadeTogether v s (items_of ms) (machine.after k s (map carried_out lost))
  carried at s ms xs [] rest walk is = record { some = []; others = items_of ms; first_ones = refl; makes = refl }
  carried at s [] [] (y ∷ lost) rest walk is = absurd (let no : 0 ≡ suc (length (lost ++ rest)) = ap length is in omega (arith, no))
  carried at s [] (x ∷ xs) (y ∷ lost) rest walk is = absurd walk
  carried at s (m ∷ ms) [] (y ∷ lost) rest walk is = absurd walk
  carried at s (m ∷ ms) (x ∷ xs) (y ∷ lost) rest walk is =
      let head : x ≡ y = cc in
      let tail : xs ≡ lost ++ rest = cc in
      let one : (answered_as (as_text ends heads) k s m.item.0 m.item.1).next ≡ (meet k s (carried_out y)).next = ap (λ (z : Answered). z.next) (walk.0.as_command s) ∙ ap (λ (z : Sent). (serve k s z.item.at z.item.command).next) head in
      let more = carried (meet k at x).next (meet k s (carried_out y)).next ms xs lost rest walk.1 tail in
      record {
        some = m.item ∷ more.some;
        others = more.others;
        first_ones = ap (λ l. m.item ∷ l) more.first_ones;
        makes = more.makes ∙ ap (λ t. made v t more.some) (sym one);
      }

  comes : (s : State) (ms : List (Told Timely)) (xs before lost rest : List Sent) (at : State) → Walk ends heads k s ms xs → xs ≡ before ++ lost ++ rest → at ≡ machine.after k (machine.after k s before) (map carried_out lost)
      → IsMadeBySome v s ms [] at
  comes s [] [] [] [] rest at walk is there = record { some = []; others = []; first_ones = refl; makes = there }
  comes s [] [] [] (y ∷ lost) rest at walk is there = absurd (let no : 0 ≡ suc (length (lost ++ rest)) = ap length is in omega (arith, no))
  comes s [] [] (b ∷ before) lost rest at walk is there = absurd (let no : 0 ≡ suc (length (before ++ lost ++ rest)) = ap length is in omega (arith, no))
  comes s [] (x ∷ xs) before lost rest at walk is there = absurd walk
  comes s (m ∷ ms) [] before lost rest at walk is there = absurd walk
  comes s (m ∷ ms) (x ∷ xs) [] lost rest at walk is there =
      inl (subst (λ t. IsMadeTogether v s (items_of (m ∷ ms)) t) (sym there) (carried s s (m ∷ ms) (x ∷ xs) lost rest walk is))
  comes s (m ∷ ms) (x ∷ xs) (b ∷ before) lost rest at walk is there =
      let head : x ≡ b = cc in
      let tail : xs ≡ before ++ lost ++ rest = cc in
      let here : at ≡ machine.after k (machine.after k (meet k s x).next before) (map carried_out lost) =
      there ∙ ap (λ (z : Sent). machine.after k (machine.after k (meet k s z).next before) (map carried_out lost)) (sym head) in
      inr (subst (λ t. IsMadeBySome v t ms [] at) (next_is s m x walk.0) (comes (meet k s x).next ms xs before lost rest at walk.1 tail here))

  -- ---- a commit that was answered

  record Cut (s : State) (xs : List Sent) (before rest : List (Told Timely)) (m : Told Timely) : Type 0 where
    first : List Sent
    x : Sent
    last : List Sent
    list : xs ≡ first ++ x ∷ last
    here : after v s before ≡ machine.after k s first
    one : Follows ends heads k (machine.after k s first) m x
    last_walk : Walk ends heads k (meet k (machine.after k s first) x).next rest last

  cut : (s : State) (ms : List (Told Timely)) (xs : List Sent) (before rest : List (Told Timely)) (m : Told Timely) → Walk ends heads k s ms xs → ms ≡ before ++ m ∷ rest → Cut s xs before rest m
  cut s [] xs [] rest m walk is = absurd (let no : 0 ≡ suc (length rest) = ap length is in omega (arith, no))
  cut s [] xs (b ∷ before) rest m walk is = absurd (let no : 0 ≡ suc (length (before ++ m ∷ rest)) = ap length is in omega (arith, no))
  cut s (n ∷ ms) [] before rest m walk is = absurd walk
  cut s (n ∷ ms) (x ∷ xs) [] rest m walk is =
      let head : n ≡ m = cc in
      let tail : ms ≡ rest = cc in
      record {
        first = [];
        x = x;
        last = xs;
        list = refl;
        here = refl;
        one = subst (λ (q : Told Timely). Follows ends heads k s q x) head walk.0;
        last_walk = subst (λ (l : List (Told Timely)). Walk ends heads k (meet k s x).next l xs) tail walk.1;
      }
  cut s (n ∷ ms) (x ∷ xs) (b ∷ before) rest m walk is =
      let both = parts_of n b ms (before ++ m ∷ rest) is in
      let c : Cut (meet k s x).next xs before rest m = cut (meet k s x).next ms xs before rest m walk.1 both.1 in
      record {
        first = x ∷ c.first;
        x = c.x;
        last = c.last;
        list = ap (λ l. x ∷ l) c.list;
        here = ap (λ (q : Told Timely). after v (behind v s q) before) (sym both.0) ∙ ap (λ t. after v t before) (sym (next_is s n x walk.0)) ∙ c.here;
        one = c.one;
        last_walk = c.last_walk;
      }

  unlost : (x : Sent) (b : Bool) → x.lost ≡ b → (x.lost ≡ true → b ≡ true → ⊥) → x.lost ≡ false
  unlost x true is never = absurd (never is refl)
  unlost x false is never = is

  stays : (s : State) (ms : List (Told Timely)) (xs : List Sent) (before rest : List (Told Timely)) (m : Told Timely) (new : Standing) → Walk ends heads k s ms xs → IsAnsweredCommit v s ms before rest m
      → ((first last : List Sent) (x : Sent) → desk.IsAnsweredCommit k s xs first last x
      → LeavesOnly (λ trees. (at : State) × StaysOrComesTo k (outcome_behind k s first x).next last at × HoldsState at trees) new)
      → LeavesOnly (λ trees. HoldsState (behind v (after v s before) m) trees ⊎ HoldsSome v (behind v (after v s before) m) rest [] trees) new
  stays s ms xs before rest m new walk commit outlasts = λ trees may. by_state trees (outlasts c.first c.last c.x made_it trees may)
    where
      c : Cut s xs before rest m
      c = cut s ms xs before rest m walk commit.list

      t : State
      t = machine.after k s c.first

      answered : c.x.lost ≡ false
      answered = unlost c.x c.x.lost refl (λ lost _. let it : true ≡ false = sym (c.one.failed lost) ∙ commit.answered in cc)

      committed : IsCommitted t (answered_as (as_text ends heads) k t m.item.0 m.item.1).called (answered_as (as_text ends heads) k t m.item.0 m.item.1).next
      committed = subst (λ q. IsCommitted q (answered_as (as_text ends heads) k q m.item.0 m.item.1).called (answered_as (as_text ends heads) k q m.item.0 m.item.1).next) c.here commit.commit

      made_it : desk.IsAnsweredCommit k s xs c.first c.last c.x
      made_it = record {
        list = c.list;
        answered = answered;
        commit = subst (λ (z : Answered). IsCommitted t z.called z.next) (c.one.as_command t) committed;
      }

      next : State
      next = (meet k t c.x).next

      next_made : next ≡ (outcome_behind k s c.first c.x).next
      next_made = ap (λ (b : Bool). (meet k t (record { item = c.x.item; lost = b })).next) answered

      next_behind : next ≡ behind v (after v s before) m
      next_behind = next_is t m c.x c.one ∙ ap (λ q. behind v q m) (sym c.here)

      by_state : (trees : Trees) → (at : State) × StaysOrComesTo k (outcome_behind k s c.first c.x).next c.last at × HoldsState at trees
          → HoldsState (behind v (after v s before) m) trees ⊎ HoldsSome v (behind v (after v s before) m) rest [] trees
      by_state trees (at, inl same, holds) = inl (subst (λ q. HoldsState q trees) (same ∙ sym next_made ∙ next_behind) holds)
      by_state trees (at, inr (first, lost, others, list, is), holds) = inr (
        at,
        subst (λ q. IsMadeBySome v q rest [] at) next_behind
            (comes next rest c.last first lost others at c.last_walk list (is ∙ ap (λ q. machine.after k (machine.after k q first) (map carried_out lost)) (sym next_made))),
        holds,
      )

  -- ---- all of it

  pub group_lasts : ServedIsThinned → (s : State) (cs : List (ℕ × Command)) (answers : List Answer) (old new : Standing) → AreCalled k cs [] answers old new
      → IsSound k s → IfClean (ShowsState s) old
      → Lasts (command_service ends heads k) s (told cs (map (λ answer. answer_response answer ends heads) answers)) [] old new
  group_lasts thin s cs answers old new called sound was =
      subst (λ (l : List Answer). Lasts v s (told cs (map (as_text ends heads) l)) [] old new) (sym called.appended) (record {
        due = λ clean. due_of s ms xs (walk clean);
        shown = λ clean.
            let it = called.ran clean s sound was in
            (it.0, it.1.state ∙ sym (thin k s xs) ∙ sym (after_of s ms xs (walk clean)), it.2, it.3);
        crash = survives_weaker old.connection new.connection (λ trees. (at : State) × ComesTo k s xs at × HoldsState at trees) (HoldsSome v s ms [])
            (λ clean trees held. (held.0, comes s ms xs held.1.0 held.1.1 held.1.2 held.0 (walk clean) held.1.3 held.1.4, held.2)) (called.crash s sound was);
        durable = λ before rest m made_it clean.
            stays s ms xs before rest m new (walk clean) made_it (λ first last x it. called.lasts s sound was first last x it clean);
      })
    where
      ms : List (Told Timely)
      ms = told cs (map (as_text ends heads) called.told)

      xs : List Sent
      xs = sent cs called.told

      walk : HasCleanDisk new → Walk ends heads k s ms xs
      walk clean = walk_of s cs called.told called.outright (called.ran clean s sound was).1.told
