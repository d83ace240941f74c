-- What a command comes to within a session, and what its end makes of it.
use Rattle.std.proofs.Common.{◌≡◌, ◌⊎◌, Bool, true, false, List, ℕ, Option, None, Result, Ok, Err, IsTrue, inl, inr, refl, sym, ap, ◌∙◌, subst, arith}
use Rattle.std.specs.Prelude.{◌||◌, ⊤, IfErr, IfSome, MatchBool}
use Rattle.std.specs.Borrow.{MutBor}
use Rattle.sqlite_disk.specs.Disk.{MoreFaults}
use Rattle.sqlite.specs.Effect.{Database}
use Rattle.sqlite.specs.Held.{Held, state}
use Rattle.sqlite.specs.Order.{Row}
use Rattle.sqlite.specs.State.{State as Connected, HasCleanDisk, IsRolledBack, Survives}
use Rattle.sqlite.specs.Tree.{Trees}
use Rattle.sqlite.proofs.Callers.{survives_begin}
use Rattle.sqlite.proofs.StateLemmas.{survives_then}
use Rattle.sqlite_trees.specs.declared.store.Store.{Ghosts}
use Rattle.up_canon.specs.Refusals.{is_memory}
use Rattle.up_canon.specs.Steps.{and_then}
use Rattle.up_canon.specs.declared.refusal.Refusal.{Refusal}
use Rattle.up_canon.specs.declared.refusal.Refusal.TheVariants.{Memory, Store}
use Rattle.up_canon.proofs.Steps.{bind-err}
use Rattle.up_sign.specs.Schemes.{Rules}
use Rattle.up_machine.specs.declared.answer.Answer.{Answer}
use Rattle.up_machine.specs.Deciding.{Outcome}
use Rattle.up_machine.specs.Machine.{outcome_of}
use Rattle.up_machine.specs.Sound.{IsSound}
use Rattle.up_machine.specs.State.{State}
use Rattle.up_rows.specs.StateRows.{StateRows, rows_of_state}
use Rattle.up_tables.specs.Stands.{GoesOn, IfClean, IsInside, Steps}
use Rattle.up_tables.specs.Statements.{IsStep, WhereInside}
use Rattle.up_tables.specs.Tables.{up_schema}
use Rattle.up_tables.specs.Tried.{RefusesOne}
use Rattle.up_tables.specs.declared.values.StoreFault.{StoreFault}
use Rattle.up_tables.specs.declared.values.StoreFault.TheVariants as fault
use Rattle.up_tables.proofs.TransactionLemmas.{as_held, durable_after, stands_after, stands_kept}
use Rattle.up_store.specs.Connections.{KeepsState, PutsRows}
use Rattle.up_store.specs.Listing.{ListsRows}
use Rattle.up_store.specs.Within.{EndsWrite}
use Rattle.up_store.proofs.ColumnFound.{has_tables}
use Rattle.up_store.proofs.Ended.{Puts, as_before, within}
use Rattle.up_records.specs.declared.catalog.Catalog.{Catalog}
use Rattle.up_records.specs.Catalogs.{CanDecide, Fits}
use Rattle.up_records.specs.Connected.{DiskFailed, is_fault, is_store, refusal_told}
use Rattle.up_records.specs.Sessions.{DecidesOn, SeesOn, SeesState}
use Rattle.up_records.specs.Standing.{HoldsState, ShowsState, over}
use Rattle.up_records.specs.Standing as standing
use Rattle.up_records.proofs.NeverStore.{NeverStore}
use Rattle.up_records.proofs.Reading.{failed_told}
use Rattle.up_records.proofs.SentBy.{due}
use Rattle.up_records.proofs.Sessions.{clean_on, none_on, seen_on, steps_on}
use Rattle.up_records.proofs.Writing.{WillWrite}
use Rattle.up_desk.specs.declared.carried.Carried.{Carried}
use Rattle.up_desk.specs.declared.carried.Carried.TheVariants.{Put, Unchanged}
use Rattle.up_desk.specs.Carrying.{CarriesOn, EndsCarried, HasPut, IsDropped, LeavesIn, carried_put}
use Rattle.up_desk.specs.Serving.{CarriesOut, IsBlamed, IsCommit, RefusesOutcome, Serves, answer_written, is_failed}

told_fault : (f : StoreFault) → is_fault (refusal_told f) ≡ true
told_fault fault.Memory = refl
told_fault fault.Store = refl

store_told : (f : StoreFault) → refusal_told f ≡ Store → f ≡ fault.Store
store_told fault.Memory is = cc
store_told fault.Store is = refl

-- ---- within a session

-- what is kept in memory is of the state of which it was, and can be used, if it could be
pub record KeepsFit {S : Type 0} (g : Ghosts S) (k : Rules) (old new : MutBor (Held S)) (kept left : Option Catalog) : Type 0 where
  pub fits : HasCleanDisk (state g new.now) → (s : State) → SeesState s (state g old.now) → Fits s kept → Fits s left
  pub can : IfSome kept (CanDecide k) → IfSome left (CanDecide k)

module _ {S R : Type 0} (g : Ghosts S) (k : Rules) {known : State → Type 0} {gives : State → Result R Refusal → Result Outcome Refusal → Type 0} {rule : State → Result Outcome Refusal} {old new : MutBor (Held S)} {kept left : Option Catalog}
    (knows : (s : State) → Fits s kept → known s) (fit : KeepsFit g k old new kept left) where
  -- what was decided is answered, and nothing is put
  pub unchanged_with : {x : R} (answer : Answer) → DecidesOn g k known gives rule old new (Ok x) → is_failed answer ≡ false → ((s : State) → IsCommit s answer s → ⊥)
      → ((s : State) → gives s (Ok x) (rule s) → rule s ≡ Ok (record { answer = answer; next = s })) → CarriesOn g k rule old new kept left (Ok (Unchanged answer))
  unchanged_with answer it given none is = record {
    leaves = λ clean s sound sees fits. record {
      given = given;
      none = none s;
      computed_is = is s (it.decided clean s sound (knows s fits) sees);
      sees = it.sees clean tt;
      memory = fit.fits clean s sees fits;
    };
    goes = λ clean ok was. (it.sees clean tt).mode ∙ was;
    blame = λ clean s sound sees fits next_sound. tt;
    can = fit.can;
    step = it.step;
  }

  -- it is refused, or lost
  pub refused_with : {r : Refusal} → DecidesOn g k known gives rule old new (Err r) → CarriesOn g k rule old new kept left (Err r)
  refused_with {r} it = record {
    leaves = λ clean s sound sees fits. record { due = told_due s (is_fault r) (it.sees clean) (it.decided clean s sound (knows s fits) sees); memory = fit.fits clean s sees fits };
    goes = λ clean no was. (it.sees clean no).mode ∙ was;
    blame = λ clean s sound sees fits next_sound store is_open unlimited. inl (failed s (is_fault r) refl store (it.decided clean s sound (knows s fits) sees) is_open unlimited);
    can = fit.can;
    step = it.step;
  }
    where
      told_due : (s : State) (b : Bool) → (b ≡ false → SeesOn (state g old.now) (state g new.now)) → MatchBool b (r ≡ Store → DiskFailed (state g old.now) (state g new.now)) (rule s ≡ Err r)
          → MatchBool b ⊤ ((rule s ≡ Err r) × SeesOn (state g old.now) (state g new.now))
      told_due s true sees h = tt
      told_due s false sees h = (h, sees refl)

      failed : (s : State) (b : Bool) → is_fault r ≡ b → r ≡ Store → MatchBool b (r ≡ Store → DiskFailed (state g old.now) (state g new.now)) (rule s ≡ Err r) → DiskFailed (state g old.now) (state g new.now)
      failed s true is store h = h store
      failed s false is store h = absurd (let no : true ≡ false = sym (ap is_fault store) ∙ is in cc)

  -- it was decided, and then memory was refused
  pub lost_with : {x : R} → DecidesOn g k known gives rule old new (Ok x) → CarriesOn g k rule old new kept left (Err Memory)
  lost_with it = record {
    leaves = λ clean s sound sees fits. record { due = tt; memory = fit.fits clean s sees fits };
    goes = λ clean no. absurd (let it : true ≡ false = no in cc);
    blame = λ clean s sound sees fits next_sound store. absurd (let no : Memory ≡ Store = store in cc);
    can = fit.can;
    step = it.step;
  }

-- where what is kept stays
stays : {S : Type 0} (g : Ghosts S) (k : Rules) (old new : MutBor (Held S)) (kept : Option Catalog) → KeepsFit g k old new kept kept
stays g k old new kept = record { fits = λ clean s sees fits. fits; can = λ can. can }

module _ {S R : Type 0} (g : Ghosts S) (k : Rules) {gives : State → Result R Refusal → Result Outcome Refusal → Type 0} {rule : State → Result Outcome Refusal} {old new : MutBor (Held S)} (kept : Option Catalog) where
  pub unchanged_on : {x : R} (answer : Answer) → DecidesOn g k (λ _. ⊤) gives rule old new (Ok x) → is_failed answer ≡ false → ((s : State) → IsCommit s answer s → ⊥)
      → ((s : State) → gives s (Ok x) (rule s) → rule s ≡ Ok (record { answer = answer; next = s })) → CarriesOn g k rule old new kept kept (Ok (Unchanged answer))
  unchanged_on answer it given none is = unchanged_with g k (λ s fits. tt) (stays g k old new kept) answer it given none is

  pub refused_on : {r : Refusal} → DecidesOn g k (λ _. ⊤) gives rule old new (Err r) → CarriesOn g k rule old new kept kept (Err r)
  refused_on it = refused_with g k (λ s fits. tt) (stays g k old new kept) it

-- by another rule that comes to the same
pub of_rule : {S : Type 0} (g : Ghosts S) (k : Rules) {rule other : State → Result Outcome Refusal} {old new : MutBor (Held S)} {kept left : Option Catalog} {r : Result Carried Refusal} → ((s : State) → rule s ≡ other s)
    → CarriesOn g k rule old new kept left r → CarriesOn g k other old new kept left r
of_rule g k {rule} {other} {old} {new} {kept} {left} {r} same it = record {
  leaves = λ clean s sound sees fits. subst (LeavesIn k s (state g old.now) (state g new.now) left r) (same s) (it.leaves clean s sound sees fits);
  goes = it.goes;
  blame = λ clean s sound sees fits. subst (λ o. IsSound k (outcome_of s o).next → IfErr r (λ q. q ≡ Store → IsBlamed k s (state g old.now) (state g new.now) (outcome_of s o))) (same s) (it.blame clean s sound sees fits);
  can = it.can;
  step = it.step;
}

pub sees_itself : (s : Connected) → SeesOn s s
sees_itself s = record { mode = refl; same = λ is_open. (is_open, refl); still = λ was_open. was_open }

-- what is refused with nothing asked of the session
pub refused_unread_in : {S : Type 0} (g : Ghosts S) (k : Rules) (kept : Option Catalog) {rule : State → Result Outcome Refusal} {old : MutBor (Held S)} {r : Refusal} → IfClean IsInside (state g old.now) → ((s : State) → rule s ≡ Err r) → is_fault r ≡ false
    → CarriesOn g k rule old old kept kept (Err r)
refused_unread_in g k kept {rule} {old} {r} inside is fault = record {
  leaves = λ clean s sound sees fits. record { due = due (is_fault r) _ (is s, sees_itself (state g old.now)); memory = fits };
  goes = λ clean no was. was;
  blame = λ clean s sound sees fits next_sound store. absurd (let no : true ≡ false = sym (ap is_fault store) ∙ fault in cc);
  can = λ can. can;
  step = (none_on g {rules = λ _. ⊤} inside).step;
}

-- what a first step refuses that reads nothing, unless memory was refused
pub refused_early : {S A : Type 0} (g : Ghosts S) (k : Rules) (kept : Option Catalog) (m : Result A Refusal) (f : State → A → Result Outcome Refusal) {old : MutBor (Held S)} {r : Refusal} → IsStep g old old → NeverStore m
    → MatchBool (is_memory r) ⊤ (m ≡ Err r) → CarriesOn g k (λ s. and_then m (f s)) old old kept kept (Err r)
refused_early g k kept m f {old} {r} step never is = record {
  leaves = λ clean s sound sees fits. record { due = by_memory s (is_memory r) refl is; memory = fits };
  goes = λ clean no was. was;
  blame = λ clean s sound sees fits next_sound store. absurd (by_store (is_memory r) refl is store);
  can = λ can. can;
  step = step;
}
  where
    by_memory : (s : State) → (b : Bool) → is_memory r ≡ b → MatchBool b ⊤ (m ≡ Err r) → MatchBool (is_fault r) ⊤ ((and_then m (f s) ≡ Err r) × SeesOn (state g old.now) (state g old.now))
    by_memory s true memory h = subst (λ b. MatchBool b ⊤ ((and_then m (f s) ≡ Err r) × SeesOn (state g old.now) (state g old.now))) (sym (ap (λ (b : Bool). b || is_store r) memory)) tt
    by_memory s false memory h = due (is_fault r) _ (bind-err m (f s) r h, sees_itself (state g old.now))

    by_store : (b : Bool) → is_memory r ≡ b → MatchBool b ⊤ (m ≡ Err r) → r ≡ Store → ⊥
    by_store true memory h store = let no : true ≡ false = sym memory ∙ ap is_memory store in cc
    by_store false memory h store = never (h ∙ ap (λ (q : Refusal). Err q) store)

-- what a decision comes to: rows that fit, which take those of the state to those of the next
pub record WillPut (k : Rules) (s : State) (answer : Answer) (computed : Result Outcome Refusal) (these : List (List ℕ × Row)) (held fits : StateRows → Type 0) (change : StateRows → StateRows) : Type 0 where
  pub next : State
  pub computed_is : computed ≡ Ok (record { answer = answer; next = next })
  pub commit : IsCommit s answer next
  pub write : WillWrite k s next these held fits change

-- the rows are put
module _ {S R : Type 0} (g : Ghosts S) (k : Rules) {known : State → Type 0} {gives : State → Result R Refusal → Result Outcome Refusal → Type 0} {rule : State → Result Outcome Refusal} (old mid new : MutBor (Held S))
    (kept left : Option Catalog) (these : List (List ℕ × Row)) (held fits : StateRows → Type 0) (change : StateRows → StateRows) (P : Connected → Type 0) {x : R} (answer : Answer) (d : DecidesOn g k known gives rule old mid (Ok x))
    (given : is_failed answer ≡ false) (so : (rows : StateRows) → ListsRows rows (state g mid.now).now.trees → held rows → P (state g mid.now)) (knows : (s : State) → Fits s kept → known s) (fit : KeepsFit g k old mid kept left)
    (wills : (s : State) → IsSound k s → gives s (Ok x) (rule s) → WillPut k s answer (rule s) these held fits change)
    (moves : (s : State) (sound : IsSound k s) (given : gives s (Ok x) (rule s)) → Fits s left → Fits (wills s sound given).next left) where
  seen : HasCleanDisk (state g mid.now) → (s : State) → SeesState s (state g old.now) → SeesState s (state g mid.now)
  seen then s sees = seen_on k s (d.sees then tt) sees

  module _ {p : Result ⊤ StoreFault} (two : Puts g (PutsRows fits change) these P mid new p) where
    before : HasCleanDisk (state g new.now) → HasCleanDisk (state g mid.now)
    before clean = let it : HasCleanDisk (state g mid.now) = omega (arith, two.step.steps.survives.clean) in it

    step : IsStep g old new
    step = steps_on g d.step (record { same_reference = two.step.same_reference; steps = two.step.steps })

  -- a part was refused
  refused_one : (f : StoreFault) → Puts {A = ⊤} g (PutsRows fits change) these P mid new (Err f) → HasCleanDisk (state g new.now) → (s : State) → IsSound k s → SeesState s (state g old.now) → Fits s kept → IsSound k (outcome_of s (rule s)).next
      → f ≡ fault.Store → IsBlamed k s (state g old.now) (state g new.now) (outcome_of s (rule s))
  refused_one f two clean s sound sees fitting next_sound store is_open unlimited = by_closing (d.step.steps.survives.closes then is_open)
    where
      then : HasCleanDisk (state g mid.now)
      then = before two clean

      it : WillPut k s answer (rule s) these held fits change
      it = wills s sound (d.decided then s sound (knows s fitting) sees)

      by_part : IsTrue (state g mid.now).is_open → MoreFaults (state g mid.now).faults (state g new.now).faults ⊎ RefusesOne (state g mid.now).step_limit these (state g mid.now).now
          → MoreFaults (state g old.now).faults (state g new.now).faults ⊎ RefusesOutcome k s (state g old.now).step_limit (state g old.now).now (outcome_of s (rule s))
      by_part still (inl more) = inl (omega (arith, d.step.steps.survives.counts, more))
      by_part still (inr one) = inr (
          subst (λ c. RefusesOutcome k s (state g old.now).step_limit (state g old.now).now (outcome_of s c)) (sym it.computed_is) (record {
            commit = it.commit;
            refused = record {
              these = these;
              write = it.write.write;
              refused = subst (λ (l : Option ℕ). RefusesOne l these (state g old.now).now) d.step.steps.survives.limit
                  (subst (λ (db : Database). RefusesOne (state g mid.now).step_limit these db) ((d.sees then tt).same still).1 one);
            };
          })
          )

      by_closing : IsTrue (state g mid.now).is_open ⊎ MoreFaults (state g old.now).faults (state g mid.now).faults
          → MoreFaults (state g old.now).faults (state g new.now).faults ⊎ RefusesOutcome k s (state g old.now).step_limit (state g old.now).now (outcome_of s (rule s))
      by_closing (inl still) =
          let sees_mid = seen then s sees in
          by_part still (two.blame clean store still (has_tables (rows_of_state s) (state g mid.now) sees_mid)
          (so (rows_of_state s) (sees_mid.here still).rows (it.write.holds (subst (λ c. IsSound k (outcome_of s c).next) it.computed_is next_sound))))
      by_closing (inr more) = inl (omega (arith, two.step.steps.survives.counts, more))

  by_put : (p : Result ⊤ StoreFault) → Puts g (PutsRows fits change) these P mid new p → CarriesOn g k rule old new kept left (carried_put answer p)
  by_put (Ok done) two = record {
    leaves = λ clean s sound sees fitting.
        let then = before two clean in
        let gave = d.decided then s sound (knows s fitting) sees in
        let it = wills s sound gave in
        let same = fit.fits then s sees fitting in
        record {
          given = given;
          next = it.next;
          computed_is = it.computed_is;
          tables = subst (λ rows. GoesOn up_schema (ListsRows rows) (state g new.now)) it.write.rows (two.put clean (rows_of_state s) (seen then s sees) it.write.fit);
          moved = moves s sound gave same;
          same = same;
        };
    goes = λ clean ok was. two.step.inside clean;
    blame = λ clean s sound sees fitting next_sound. tt;
    can = fit.can;
    step = step two;
  }
  by_put (Err f) two = record {
    leaves = λ clean s sound sees fitting. record { due = failed_told (refusal_told f) f _ refl; memory = fit.fits (before two clean) s sees fitting };
    goes = λ clean no. absurd (let it : true ≡ false = sym (told_fault f) ∙ no in cc);
    blame = λ clean s sound sees fitting next_sound store. refused_one f two clean s sound sees fitting next_sound (store_told f store);
    can = fit.can;
    step = step two;
  }

  pub put_with : (p : Result ⊤ StoreFault) {r : Result Carried Refusal} → r ≡ carried_put answer p → IfClean IsInside (state g old.now) → WhereInside g mid (Puts g (PutsRows fits change) these P mid new p)
      → CarriesOn g k rule old new kept left r
  put_with p is inside puts = subst (CarriesOn g k rule old new kept left) (sym is) (by_put p (puts (λ then. (d.sees then tt).mode ∙ inside (clean_on g d.step then))))

-- where what was kept is dropped
pub put_on : {S R : Type 0} (g : Ghosts S) (k : Rules) {gives : State → Result R Refusal → Result Outcome Refusal → Type 0} {rule : State → Result Outcome Refusal} {old mid new : MutBor (Held S)} (kept : Option Catalog) {left : Option Catalog}
    (these : List (List ℕ × Row)) (held fits : StateRows → Type 0) (change : StateRows → StateRows) {P : Connected → Type 0} {x : R} (answer : Answer) → DecidesOn g k (λ _. ⊤) gives rule old mid (Ok x) → is_failed answer ≡ false → left ≡ None
    → ((s : State) → IsSound k s → gives s (Ok x) (rule s) → WillPut k s answer (rule s) these held fits change) → (p : Result ⊤ StoreFault) {r : Result Carried Refusal} → r ≡ carried_put answer p
    → IfClean IsInside (state g old.now) → WhereInside g mid (Puts g (PutsRows fits change) these P mid new p) → ((rows : StateRows) → ListsRows rows (state g mid.now).now.trees → held rows → P (state g mid.now))
    → CarriesOn g k rule old new kept left r
put_on g k {old = old} {mid} {new} kept {left} these held fits change {P} answer d given none wills p is inside puts so =
    put_with g k old mid new kept left these held fits change P answer d given so (λ s fitting. tt) (record { fits = λ clean s sees fitting. subst (Fits s) (sym none) tt; can = λ can. subst (λ c. IfSome c (CanDecide k)) (sym none) tt }) wills
    (λ s sound gave same. subst (Fits (wills s sound gave).next) (sym none) tt) p is inside puts

-- ---- its end

module _ {S : Type 0} (g : Ghosts S) (k : Rules) (viewed old : Held S) (tx mid : MutBor (Held S)) (last : Held S) (kept left : Option Catalog) (rule : State → Result Outcome Refusal) (same : viewed ≡ old)
    (begun : tx.now ≡ record viewed { in_transaction = true }) where
  began : tx.now ≡ record old { in_transaction = true }
  began = subst (λ h. tx.now ≡ record h { in_transaction = true }) same begun

  module _ {c : Result Carried Refusal} (it : CarriesOn g k rule tx mid kept left c) where
    went : Steps (state g (record old { in_transaction = true })) (state g mid.now)
    went = subst (λ h. Steps (state g h) (state g mid.now)) began it.step.steps

    pub first : HasCleanDisk (state g mid.now) → HasCleanDisk (state g old)
    first then = let is : HasCleanDisk (state g old) = omega (arith, went.survives.clean) in is

    survived : (P Q : Trees → Type 0) → Survives (state g mid.now) (state g last) Q → (HasCleanDisk (state g last) → (db : Trees) → Q db → P db) → Survives (state g old) (state g last) P
    survived P Q ends so = survives_then (state g old) (state g mid.now) (state g last) (λ _. ⊥) Q P (λ _ db none. absurd none) so (survives_begin g old (state g mid.now) (λ _. ⊥) went.survives) ends

    -- more faults behind the session were none before it
    blamed : (s : State) (o : Outcome) → Survives (state g mid.now) (state g last) (λ _. ⊥) → IsBlamed k s (state g tx.now) (state g mid.now) o → IsBlamed k s (state g old) (state g last) o
    blamed s o ends h is_open unlimited = by_cause ((subst (λ h. IsBlamed k s (state g h) (state g mid.now) o) began h) is_open unlimited)
      where
        by_cause : MoreFaults (state g old).faults (state g mid.now).faults ⊎ RefusesOutcome k s (state g old).step_limit (state g old).now o
            → MoreFaults (state g old).faults (state g last).faults ⊎ RefusesOutcome k s (state g old).step_limit (state g old).now o
        by_cause (inl more) = inl (omega (arith, ends.counts, more))
        by_cause (inr refuses) = inr refuses

    module _ (s : State) (sound : IsSound k s) (was : standing.IfClean (ShowsState s) (over g old kept)) where
      pub sees : HasCleanDisk (state g mid.now) → SeesState s (state g tx.now)
      sees then = subst (λ h. SeesState s (state g h)) (sym began) (record { mode = refl; here = (was (first then)).tables.here })

      comes : HasCleanDisk (state g mid.now) → LeavesIn k s (state g tx.now) (state g mid.now) left c (rule s)
      comes then = it.leaves then s sound (sees then) (was (first then)).memory

      -- where the transaction is undone the tables show the state
      back : (HasCleanDisk (state g last) → HasCleanDisk (state g mid.now)) → IfClean (IsRolledBack (state g mid.now)) (state g last) → HasCleanDisk (state g last) → KeepsState s (state g last)
      back before rolled = stands_kept up_schema (ListsRows (rows_of_state s)) (state g old) (state g last) (λ clean. (was clean).tables) (λ clean. first (before clean)) (as_before g old mid.now (state g last) went before rolled)

  -- nothing was put
  unchanged : (answer : Answer) → CarriesOn g k rule tx mid kept left (Ok (Unchanged answer)) → IsDropped (state g mid.now) (state g last) → (s : State) → IsSound k s → standing.IfClean (ShowsState s) (over g old kept)
      → Serves k s (over g old kept) (over g last left) (Ok answer) (rule s)
  unchanged answer it ends s sound was =
      let before : HasCleanDisk (state g last) → HasCleanDisk (state g mid.now) = λ clean. omega (arith, clean, ends.survives.clean) in
      record {
        leaves = λ clean. let left_is = comes it s sound was (before clean) in (left_is.given, (s, left_is.computed_is, record { tables = back it s sound was before ends.undone clean; memory = left_is.memory }));
        crash = survived it (HoldsState (outcome_of s (rule s)).next) (λ _. ⊥) ends.survives (λ clean db none. absurd none);
        durable = λ commit clean. let left_is = comes it s sound was (before clean) in absurd (left_is.none (subst (λ o. IsCommit s answer (outcome_of s o).next) left_is.computed_is commit));
        blame = λ clean next_sound. tt;
      }

  -- it is refused, or lost
  refused : (r : Refusal) → CarriesOn g k rule tx mid kept left (Err r) → IsDropped (state g mid.now) (state g last) → (s : State) → IsSound k s → standing.IfClean (ShowsState s) (over g old kept)
      → Serves k s (over g old kept) (over g last left) (Err r) (rule s)
  refused r it ends s sound was =
      let before : HasCleanDisk (state g last) → HasCleanDisk (state g mid.now) = λ clean. omega (arith, clean, ends.survives.clean) in
      record {
        leaves = λ clean. let left_is = comes it s sound was (before clean) in (record { tables = back it s sound was before ends.undone clean; memory = left_is.memory }, alone (is_fault r) left_is.due);
        crash = survived it (HoldsState (outcome_of s (rule s)).next) (λ _. ⊥) ends.survives (λ clean db none. absurd none);
        durable = λ commit. absurd commit;
        blame = λ clean next_sound store.
            let then = before clean in
            blamed it s (outcome_of s (rule s)) ends.survives (it.blame then s sound (sees it s sound was then) (was (first it then)).memory next_sound store);
      }
    where
      alone : (b : Bool) → MatchBool b ⊤ ((rule s ≡ Err r) × SeesOn (state g tx.now) (state g mid.now)) → MatchBool b ⊤ (rule s ≡ Err r)
      alone true h = tt
      alone false h = h.0

  -- rows were put, and are committed, unless that fails
  put : (answer : Answer) → CarriesOn g k rule tx mid kept left (Ok (Put answer)) → (w : Result ⊤ StoreFault) → EndsWrite (Ok tt) (state g mid.now) (state g last) w
      → (IsTrue (state g last).is_open → (trees : Trees) → (state g last).may_leave trees → trees ≡ (state g last).committed.trees) → (s : State) → IsSound k s → standing.IfClean (ShowsState s) (over g old kept)
      → Serves k s (over g old kept) (over g last left) (answer_written answer w) (rule s)
  put answer it w ends settled s sound was = by_commit w ends
    where
      before : HasCleanDisk (state g last) → HasCleanDisk (state g mid.now)
      before clean = let then : HasCleanDisk (state g mid.now) = omega (arith, clean, ends.survives.clean) in then

      has : HasCleanDisk (state g mid.now) → HasPut k s (state g mid.now) left answer (rule s)
      has then = comes it s sound was then

      next : State
      next = (outcome_of s (rule s)).next

      next_is : (then : HasCleanDisk (state g mid.now)) → (has then).next ≡ next
      next_is then = sym (ap (λ (o : Result Outcome Refusal). (outcome_of s o).next) (has then).computed_is)

      goes : (then : HasCleanDisk (state g mid.now)) → GoesOn up_schema (ListsRows (rows_of_state next)) (state g mid.now)
      goes then = subst (λ n. GoesOn up_schema (ListsRows (rows_of_state n)) (state g mid.now)) (next_is then) (has then).tables

      inside : IfClean IsInside (state g mid.now)
      inside then = (has then).tables.mode

      crash : Survives (state g old) (state g last) (HoldsState next)
      crash = survived it (HoldsState next) (λ trees. trees ≡ (state g mid.now).now.trees) ends.survives
          (λ clean trees is. as_held up_schema (ListsRows (rows_of_state next)) (state g mid.now).now trees (goes (before clean)).here is)

      by_commit : (w : Result ⊤ StoreFault) → EndsWrite (Ok tt) (state g mid.now) (state g last) w → Serves k s (over g old kept) (over g last left) (answer_written answer w) (rule s)
      by_commit (Ok done) ends = record {
        leaves = λ clean. let then = before clean in (
          (has then).given,
          (
            next,
            (has then).computed_is ∙ ap (λ (n : State). Ok (record { answer = answer; next = n })) (next_is then),
            record {
              tables = stands_after up_schema (ListsRows (rows_of_state next)) (state g mid.now) (state g last) (goes then) (ends.committed clean);
              memory = subst (λ n. Fits n left) (next_is then) (has then).moved;
            },
          ),
        );
        crash = crash;
        durable = λ commit clean. durable_after up_schema (ListsRows (rows_of_state next)) (state g mid.now) (state g last) settled (goes (before clean)) (ends.committed clean);
        blame = λ clean next_sound. tt;
      }
      by_commit (Err f) ends = record {
        leaves = λ clean. (record { tables = back it s sound was before (ends.undone inside) clean; memory = (has (before clean)).same }, failed_told (refusal_told f) f _ refl);
        crash = crash;
        durable = λ commit. absurd commit;
        blame = λ clean next_sound store is_open unlimited. inl (elim (ends.cause inside clean (store_told f store)) [
          | inl shut ↦ absurd (let no : false ≡ true = sym shut ∙ (goes (before clean)).is_open in cc)
          | inr more ↦ omega (arith, (went it).survives.counts, more)
        ]);
      }

  pub finished : (c : Result Carried Refusal) {r : Result Answer Refusal} → WhereInside g tx (CarriesOn g k rule tx mid kept left c) → EndsCarried c (state g mid.now) (state g last) r
      → (IsTrue (state g last).is_open → (trees : Trees) → (state g last).may_leave trees → trees ≡ (state g last).committed.trees) → CarriesOut k rule (over g old kept) (over g last left) r
  finished (Ok (Put answer)) {r} carries ends settled =
      let it = carries (within g viewed begun) in
      record {
        serves = λ s sound was. subst (λ q. Serves k s (over g old kept) (over g last left) q (rule s)) (sym ends.2) (put answer it ends.0 ends.1 settled s sound was);
        can = it.can;
      }
  finished (Ok (Unchanged answer)) {r} carries ends settled =
      let it = carries (within g viewed begun) in
      record { serves = λ s sound was. subst (λ q. Serves k s (over g old kept) (over g last left) q (rule s)) (sym ends.1) (unchanged answer it ends.0 s sound was); can = it.can }
  finished (Err e) {r} carries ends settled =
      let it = carries (within g viewed begun) in
      record { serves = λ s sound was. subst (λ q. Serves k s (over g old kept) (over g last left) q (rule s)) (sym ends.1) (refused e it ends.0 s sound was); can = it.can }
