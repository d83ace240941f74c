-- Reads within a session, one after another, and what is decided by them.
use Rattle.std.proofs.Common.{◌≡◌, true, false, Bool, Option, Some, Result, Ok, Err, IfErr, IfOk, IsTrue, inl, refl, sym, ap, subst, ◌∙◌, arith}
use Rattle.std.specs.Prelude.{◌||◌, ⊤, IsErrAnd, IsSomeAnd, MatchBool}
use Rattle.std.specs.Borrow.{MutBor}
use Rattle.sqlite.specs.Effect.{Database}
use Rattle.sqlite.specs.Held.{Held, state}
use Rattle.sqlite.specs.State.{State as Connected, HasCleanDisk}
use Rattle.sqlite_trees.specs.declared.store.Store.{Ghosts}
use Rattle.up_canon.specs.Refusals.{is_memory}
use Rattle.up_canon.specs.declared.refusal.Refusal.{Refusal}
use Rattle.up_canon.specs.declared.refusal.Refusal.TheVariants as refusal
use Rattle.up_sign.specs.Schemes.{Rules}
use Rattle.up_machine.specs.Sound.{IsSound}
use Rattle.up_machine.specs.State.{State}
use Rattle.up_rows.specs.StateRows.{StateRows, rows_of_state}
use Rattle.up_tables.specs.Stands.{IfClean, IsInside, IsWith, Steps}
use Rattle.up_tables.specs.Statements.{IsStep, WhereInside}
use Rattle.up_tables.specs.Tables.{up_schema}
use Rattle.up_tables.specs.declared.values.StoreFault.{StoreFault}
use Rattle.up_tables.specs.declared.values.StoreFault.TheVariants as fault
use Rattle.up_tables.proofs.StepLemmas.{steps_then}
use Rattle.up_store.specs.Listing.{ListsRows}
use Rattle.up_store.specs.Within.{FoundWithin}
use Rattle.up_records.specs.Connected.{DiskFailed, GivesOrFails, IsDueOrFails, is_fault, is_store, refusal_told}
use Rattle.up_records.specs.Sessions.{DecidesOn, FindsOn, SeesOn, SeesState}
use Rattle.up_records.proofs.Blamed.{memory_blamed, misfit_blamed}
use Rattle.up_records.proofs.NeverStore.{NeverStore}
use Rattle.up_records.proofs.Reading.{failed_behind, fault_told, gives_behind}

-- ---- steps

pub clean_on : {S : Type 0} (g : Ghosts S) {old new : MutBor (Held S)} → IsStep g old new → HasCleanDisk (state g new.now) → HasCleanDisk (state g old.now)
clean_on g {old} {new} step now = let before : HasCleanDisk (state g old.now) = omega (arith, step.steps.survives.clean) in before

pub steps_on : {S : Type 0} (g : Ghosts S) {old mid new : MutBor (Held S)} → IsStep g old mid → IsStep g mid new → IsStep g old new
steps_on g {old} {mid} {new} one two = record {
  same_reference = two.same_reference ∙ one.same_reference;
  steps = steps_then (state g old.now) (state g mid.now) (state g new.now) one.steps two.steps;
}

stays : (s : Connected) → Steps s s
stays s = record {
  survives = record { clean = omega arith; shield = λ h. h; counts = omega arith; limit = refl; closes = λ clean is_open. inl is_open; crash = λ clean db may. inl may };
  kept = λ clean. record { was_open = λ is_open. is_open; committed = λ is_open. refl };
}

pub sees_both : {a b c : Connected} → SeesOn a b → SeesOn b c → SeesOn a c
sees_both one two = record {
  mode = two.mode ∙ one.mode;
  same = λ is_open. let second = two.same is_open in let first = one.same second.0 in (first.0, second.1 ∙ first.1);
  still = λ was_open. two.still (one.still was_open);
}

-- what goes on sees the state that was seen
pub seen_on : (k : Rules) (s : State) {old new : Connected} → SeesOn old new → SeesState s old → SeesState s new
seen_on k s on sees = record {
  mode = subst IsTrue (sym on.mode) sees.mode;
  here = λ is_open. let was = on.same is_open in subst (λ (db : Database). IsWith up_schema (ListsRows (rows_of_state s)) db) (sym was.1) (sees.here was.0);
}

-- a refusal that is due, or want of memory
gives_due : {R O : Type 0} (old new : Connected) (gives : Result R Refusal → Result O Refusal → Type 0) (result : Result R Refusal) (computed : Result O Refusal) → NeverStore computed
    → ((r : Refusal) → gives (Err r) computed → MatchBool (is_memory r) ⊤ (computed ≡ Err r)) → gives result computed → GivesOrFails gives old new result computed
gives_due old new gives (Ok x) computed never is_due h = h
gives_due old new gives (Err r) computed never is_due h = by_memory (is_memory r) refl (is_due r h)
  where
    by_fault : (b : Bool) → computed ≡ Err r → MatchBool b (r ≡ refusal.Store → DiskFailed old new) (computed ≡ Err r)
    by_fault true is = λ store. absurd (never (is ∙ ap (λ (q : Refusal). Err q) store))
    by_fault false is = is

    by_memory : (b : Bool) → is_memory r ≡ b → MatchBool b ⊤ (computed ≡ Err r) → IsDueOrFails old new r computed
    by_memory true memory due =
        let fails : is_fault r ≡ true = ap (λ (m : Bool). m || is_store r) memory in
        subst (λ (b : Bool). MatchBool b (r ≡ refusal.Store → DiskFailed old new) (computed ≡ Err r)) (sym fails)
        (λ store. absurd (let both : true ≡ false = sym memory ∙ ap is_memory store in cc))
    by_memory false memory due = by_fault (is_fault r) due

-- ---- reads one after another

-- what the reads so far found, under such rules
pub record Chain {S : Type 0} (g : Ghosts S) (rules : Rules → Type 0) (old : MutBor (Held S)) (holds : Rules → State → Type 0) (mid : MutBor (Held S)) : Type 0 where
  pub told : HasCleanDisk (state g mid.now) → (k : Rules) → rules k → (s : State) → SeesState s (state g old.now) → holds k s
  pub sees : HasCleanDisk (state g mid.now) → SeesOn (state g old.now) (state g mid.now)
  pub step : IsStep g old mid
  pub inside : IfClean IsInside (state g mid.now)

module _ {S : Type 0} (g : Ghosts S) {rules : Rules → Type 0} where
  -- nothing is read yet
  pub none_on : {old : MutBor (Held S)} → IfClean IsInside (state g old.now) → Chain g rules old (λ _ _. ⊤) old
  none_on {old} inside = record {
    told = λ clean k of s sees. tt;
    sees = λ clean. record { mode = refl; same = λ is_open. (is_open, refl); still = λ was_open. was_open };
    step = record { same_reference = refl; steps = stays (state g old.now) };
    inside = inside;
  }

  -- what a step of the store found in the rows
  pub rows_on : {A : Type 0} {tells : StateRows → A → Type 0} {finds : Connected → Connected → Result A StoreFault → Type 0} {holds : Rules → State → A → Type 0} {old new : MutBor (Held S)} (r : Result A StoreFault)
      → ((k : Rules) (s : State) (x : A) → tells (rows_of_state s) x → holds k s x) → WhereInside g old (FoundWithin g tells finds (λ _. ⊤) old new r) → WhereInside g old (FindsOn g rules holds old new r)
  rows_on (Ok x) go read inside = let it = read inside in record {
    told = λ clean k of s sees. go k s x (it.found clean (rows_of_state s) sees);
    blame = λ k of s sound sees clean. tt;
    sees = λ clean. let on = it.reads clean in record { mode = on.mode; same = λ is_open. (on.was_open, on.now_is); still = λ was_open. on.is_open };
    step = it.step;
  }
  rows_on (Err f) go read inside = let it = read inside in record {
    told = λ clean. tt;
    blame = λ k of s sound sees clean store is_open unlimited. it.blame clean store is_open unlimited (rows_of_state s) sees tt;
    sees = λ clean. tt;
    step = it.step;
  }

  -- what is found under any rules
  pub under : {A : Type 0} {holds : Rules → State → A → Type 0} {old new : MutBor (Held S)} {r : Result A StoreFault} → WhereInside g old (FindsOn g (λ _. ⊤) holds old new r) → WhereInside g old (FindsOn g rules holds old new r)
  under {r = Ok x} read inside = let it = read inside in record { told = λ clean k of s sees. it.told clean k tt s sees; blame = λ k of s sound sees clean. tt; sees = it.sees; step = it.step }
  under {r = Err f} read inside = let it = read inside in record { told = λ clean. tt; blame = λ k of s sound sees. it.blame k tt s sound sees; sees = it.sees; step = it.step }

  module _ {A : Type 0} {before : Rules → State → Type 0} {more : Rules → State → A → Type 0} {old mid new : MutBor (Held S)} (so_far : Chain g rules old before mid) where
    -- one more read went through
    pub then_on : {x : A} → WhereInside g mid (FindsOn g rules more mid new (Ok x)) → Chain g rules old (λ k s. before k s × more k s x) new
    then_on read =
        let it = read so_far.inside in
        let first : HasCleanDisk (state g new.now) → HasCleanDisk (state g mid.now) = clean_on g it.step in
        record {
          told = λ clean k of s sees. (so_far.told (first clean) k of s sees, it.told clean k of s (seen_on k s (so_far.sees (first clean)) sees));
          sees = λ clean. sees_both (so_far.sees (first clean)) (it.sees clean);
          step = steps_on g so_far.step it.step;
          inside = λ clean. (it.sees clean).mode ∙ so_far.inside (first clean);
        }

    -- it failed
    lost : (k : Rules) → rules k → (s : State) → IsSound k s → SeesState s (state g old.now) → (f : StoreFault) → FindsOn g rules more mid new (Err f) → HasCleanDisk (state g new.now) → f ≡ fault.Store
        → DiskFailed (state g old.now) (state g new.now)
    lost k of s sound sees f it clean store =
        failed_behind so_far.step.steps.survives it.step.steps.survives clean (it.blame k of s sound (seen_on k s (so_far.sees (clean_on g it.step clean)) sees) clean store)

    pub lost_on : {B : Type 0} (holds : Rules → State → B → Type 0) {f : StoreFault} (r : Result B StoreFault) → IsErrAnd r (λ e. e ≡ f) → WhereInside g mid (FindsOn g rules more mid new (Err f))
        → FindsOn g rules holds old new r
    lost_on holds (Ok y) is read = absurd is
    lost_on holds {f} (Err e) is read = let it = read so_far.inside in record {
      told = λ clean. tt;
      blame = λ k of s sound sees clean store. lost k of s sound sees f it clean (sym is ∙ store);
      sees = λ clean. tt;
      step = steps_on g so_far.step it.step;
    }

    -- and so did the decision
    pub fails_on : {R O : Type 0} (k : Rules) → rules k → {is_known : State → Type 0} {gives : State → Result R Refusal → Result O Refusal → Type 0} {rule : State → Result O Refusal} {f : StoreFault} {r : Refusal} → r ≡ refusal_told f
        → WhereInside g mid (FindsOn g rules more mid new (Err f)) → DecidesOn g k is_known gives rule old new (Err r)
    fails_on k of {rule = rule} {f} {r} is read = let it = read so_far.inside in let step = steps_on g so_far.step it.step in record {
      decided = λ clean s sound known sees. fault_told step.steps.survives r f (rule s) is (lost k of s sound sees f it clean);
      sees = λ clean due. absurd (let no : true ≡ false = sym (told f) ∙ subst (λ q. is_fault q ≡ false) is due in cc);
      step = step;
    }
      where
        told : (f : StoreFault) → is_fault (refusal_told f) ≡ true
        told fault.Memory = refl
        told fault.Store = refl

  module _ {before : Rules → State → Type 0} {old new : MutBor (Held S)} (so_far : Chain g rules old before new) where
    -- the session sees the state still
    pub seen_then : HasCleanDisk (state g new.now) → (k : Rules) (s : State) → SeesState s (state g old.now) → SeesState s (state g new.now)
    seen_then clean k s sees = seen_on k s (so_far.sees clean) sees

    -- one more read, whichever way it ended
    pub behind_on : {B : Type 0} {reads : Rules → State → B → Type 0} (holds : Rules → State → B → Type 0) {last : MutBor (Held S)} {r : Result B StoreFault} → WhereInside g new (FindsOn g rules reads new last r)
        → ((k : Rules) → rules k → (s : State) (y : B) → before k s → reads k s y → holds k s y) → FindsOn g rules holds old last r
    behind_on {B} {reads} holds {last} {r} read go = by_result r (read so_far.inside)
      where
        by_result : (r : Result B StoreFault) → FindsOn g rules reads new last r → FindsOn g rules holds old last r
        by_result (Ok y) it =
            let first : HasCleanDisk (state g last.now) → HasCleanDisk (state g new.now) = clean_on g it.step in
            record {
              told = λ clean k of s sees. go k of s y (so_far.told (first clean) k of s sees) (it.told clean k of s (seen_then (first clean) k s sees));
              blame = λ k of s sound sees clean. tt;
              sees = λ clean. sees_both (so_far.sees (first clean)) (it.sees clean);
              step = steps_on g so_far.step it.step;
            }
        by_result (Err f) it = record {
          told = λ clean. tt;
          blame = λ k of s sound sees clean store.
              failed_behind so_far.step.steps.survives it.step.steps.survives clean (it.blame k of s sound (seen_then (clean_on g it.step clean) k s sees) clean store);
          sees = λ clean. tt;
          step = steps_on g so_far.step it.step;
        }

    -- what is decided behind them
    pub then_decides : {R O : Type 0} {last : MutBor (Held S)} (k : Rules) → rules k → {is_known more : State → Type 0} {gives : State → Result R Refusal → Result O Refusal → Type 0} {rule : State → Result O Refusal} {r : Result R Refusal}
        → WhereInside g new (DecidesOn g k more gives rule new last r) → ((s : State) → IsSound k s → is_known s → before k s → more s) → DecidesOn g k is_known gives rule old last r
    then_decides {last = last} k of {gives = gives} {rule} {r} decides so =
        let two = decides so_far.inside in
        let first : HasCleanDisk (state g last.now) → HasCleanDisk (state g new.now) = clean_on g two.step in
        record {
          decided = λ clean s sound known sees.
              gives_behind (gives s) r (rule s) so_far.step.steps.survives two.step.steps.survives clean
              (two.decided clean s sound (so s sound known (so_far.told (first clean) k of s sees)) (seen_then (first clean) k s sees));
          sees = λ clean due. sees_both (so_far.sees (first clean)) (two.sees clean due);
          step = steps_on g so_far.step two.step;
        }

    -- that was all
    pub all_on : {A : Type 0} (holds : Rules → State → A → Type 0) (x : A) → ((k : Rules) → rules k → (s : State) → before k s → holds k s x) → FindsOn g rules holds old new (Ok x)
    all_on holds x go = record { told = λ clean k of s sees. go k of s (so_far.told clean k of s sees); blame = λ k of s sound sees clean. tt; sees = so_far.sees; step = so_far.step }

    -- what it says besides
    pub as_on : {more : Rules → State → Type 0} → ((k : Rules) → rules k → (s : State) → before k s → more k s) → Chain g rules old more new
    as_on go = record { told = λ clean k of s sees. go k of s (so_far.told clean k of s sees); sees = so_far.sees; step = so_far.step; inside = so_far.inside }

    -- memory was refused behind them
    pub refused_on : {A : Type 0} (holds : Rules → State → A → Type 0) (r : Result A StoreFault) → IsErrAnd r (λ e. e ≡ fault.Memory) → FindsOn g rules holds old new r
    refused_on holds (Ok x) is = absurd is
    refused_on holds (Err f) is = record { told = λ clean. tt; blame = λ k of s sound sees clean. memory_blamed {A = ⊤} _ (Err f) is; sees = λ clean. tt; step = so_far.step }

    -- what is made of what was found
    pub made_on : {A : Type 0} (holds : Rules → State → A → Type 0) (r : Result A StoreFault) → IfErr r (λ e. e ≡ fault.Memory) → IfOk r (λ x. (k : Rules) → rules k → (s : State) → before k s → holds k s x) → FindsOn g rules holds old new r
    made_on holds (Ok x) memory made = all_on holds x made
    made_on holds (Err f) memory made = refused_on holds (Err f) memory

    -- a row that was found, if it fits, as each of a sound state does
    pub fitting_on : {A : Type 0} (row : State → Option A) (fits : A → Bool) {found : Option A} (r : Result (Option A) StoreFault) → ((k : Rules) → rules k → (s : State) → before k s → found ≡ row s)
        → ((k : Rules) → rules k → (s : State) (x : A) → IsSound k s → row s ≡ Some x → IsTrue (fits x)) → IfOk r (λ same. same ≡ found)
        → IfErr r (λ e. (e ≡ fault.Store) × IsSomeAnd found (λ x. fits x ≡ false)) → FindsOn g rules (λ k s x. x ≡ row s) old new r
    fitting_on row fits {found} (Ok x) told each went misfit = all_on _ x (λ k of s was. went ∙ told k of s was)
    fitting_on {A} row fits {found} (Err f) told each went misfit = record {
      told = λ clean. tt;
      blame = λ k of s sound sees clean. misfit_blamed {B = A} _ fits found (row s) (Err f) (told k of s (so_far.told clean k of s sees)) (λ x is. each k of s x sound is) misfit;
      sees = λ clean. tt;
      step = so_far.step;
    }

    -- what is refused by it, unless memory was
    pub due_on : {R O : Type 0} (k : Rules) → rules k → {is_known : State → Type 0} {gives : State → Result R Refusal → Result O Refusal → Type 0} {rule : State → Result O Refusal} {r : Refusal} → ((s : State) → NeverStore (rule s))
        → ((s : State) → IsSound k s → is_known s → before k s → MatchBool (is_memory r) ⊤ (rule s ≡ Err r)) → DecidesOn g k is_known gives rule old new (Err r)
    due_on {R} k of {rule = rule} {r} never due = record {
      decided = λ clean s sound known sees. gives_due {R = R} (state g old.now) (state g new.now) (λ q o. (IfErr q (λ e. MatchBool (is_memory e) ⊤ (o ≡ Err e)))) (Err r) (rule s) (never s) (λ e h. h) (due s sound known (so_far.told clean k of s sees));
      sees = λ clean due. so_far.sees clean;
      step = so_far.step;
    }

    -- what is decided by it: what is refused is due, or lost in memory
    pub decides_on : {R O : Type 0} (k : Rules) → rules k → {is_known : State → Type 0} {gives : State → Result R Refusal → Result O Refusal → Type 0} {rule : State → Result O Refusal} (result : Result R Refusal)
        → ((s : State) → NeverStore (rule s)) → ((s : State) (r : Refusal) → gives s (Err r) (rule s) → MatchBool (is_memory r) ⊤ (rule s ≡ Err r))
        → ((s : State) → IsSound k s → is_known s → before k s → gives s result (rule s)) → DecidesOn g k is_known gives rule old new result
    decides_on k of {gives} {rule} result never is_due decides = record {
      decided = λ clean s sound known sees. gives_due (state g old.now) (state g new.now) (gives s) result (rule s) (never s) (is_due s) (decides s sound known (so_far.told clean k of s sees));
      sees = λ clean due. so_far.sees clean;
      step = so_far.step;
    }

-- ---- decisions one after another

-- behind a decision the transaction is under way
pub inside_then : {S Q O : Type 0} (g : Ghosts S) {k : Rules} {known : State → Type 0} {first : State → Result Q Refusal → Result O Refusal → Type 0} {rule : State → Result O Refusal} {old mid : MutBor (Held S)} {x : Q}
    → DecidesOn g k known first rule old mid (Ok x) → IfClean IsInside (state g old.now) → IfClean IsInside (state g mid.now)
inside_then g one inside then = (one.sees then tt).mode ∙ inside (clean_on g one.step then)

-- what is decided by what was decided before
pub decided_then : {S Q R O P : Type 0} (g : Ghosts S) (k : Rules) {old mid new : MutBor (Held S)} {known more : State → Type 0} {first : State → Result Q Refusal → Result O Refusal → Type 0} {rule : State → Result O Refusal}
    {gives : State → Result R Refusal → Result P Refusal → Type 0} {computed : State → Result P Refusal} {x : Q} {r : Result R Refusal} → DecidesOn g k known first rule old mid (Ok x)
    → (HasCleanDisk (state g mid.now) → (s : State) → IsSound k s → known s → SeesState s (state g old.now) → first s (Ok x) (rule s) → more s) → IfClean IsInside (state g old.now)
    → WhereInside g mid (DecidesOn g k more gives computed mid new r) → DecidesOn g k known gives computed old new r
decided_then g k {old} {mid} {new} {gives = gives} {computed} {r = r} one so inside read =
    let two = read (inside_then g one inside) in
    let before : HasCleanDisk (state g new.now) → HasCleanDisk (state g mid.now) = clean_on g two.step in
    record {
      decided = λ clean s sound known sees.
          let then = before clean in
          gives_behind (gives s) r (computed s) one.step.steps.survives two.step.steps.survives clean
          (two.decided clean s sound (so then s sound known sees (one.decided then s sound known sees)) (seen_on k s (one.sees then tt) sees));
      sees = λ clean due. sees_both (one.sees (before clean) tt) (two.sees clean due);
      step = steps_on g one.step two.step;
    }

-- what refused it refuses the rest
pub refused_then : {S Q R O P : Type 0} (g : Ghosts S) (k : Rules) {old new : MutBor (Held S)} {known : State → Type 0} {first : State → Result Q Refusal → Result O Refusal → Type 0} {rule : State → Result O Refusal}
    {gives : State → Result R Refusal → Result P Refusal → Type 0} {computed : State → Result P Refusal} {r : Refusal} → DecidesOn g k known first rule old new (Err r) → ((s : State) → rule s ≡ Err r → computed s ≡ Err r)
    → DecidesOn g k known gives computed old new (Err r)
refused_then g k {old} {new} {rule = rule} {computed = computed} {r = r} one so = record { decided = λ clean s sound known sees. by_fault s (is_fault r) (one.decided clean s sound known sees); sees = one.sees; step = one.step }
  where
    by_fault : (s : State) (b : Bool) → MatchBool b (r ≡ refusal.Store → DiskFailed (state g old.now) (state g new.now)) (rule s ≡ Err r) → MatchBool b (r ≡ refusal.Store → DiskFailed (state g old.now) (state g new.now)) (computed s ≡ Err r)
    by_fault s true h = h
    by_fault s false h = so s h

-- of what is known besides
pub known_on : {S R O : Type 0} (g : Ghosts S) (k : Rules) {known more : State → Type 0} {gives : State → Result R Refusal → Result O Refusal → Type 0} {rule : State → Result O Refusal} {old new : MutBor (Held S)} {r : Result R Refusal}
    → DecidesOn g k more gives rule old new r → ((s : State) → known s → more s) → DecidesOn g k known gives rule old new r
known_on g k it so = record { decided = λ clean s sound known sees. it.decided clean s sound (so s known) sees; sees = it.sees; step = it.step }
