-- A statement, and those that are carried out behind it.
use Rattle.std.proofs.Common.{◌≡◌, inl, inr, ℕ, List, [], ◌∷◌, Ok, Err, Result, IsTrue, sym, subst, ◌∙◌, arith}
use Rattle.std.specs.Prelude.{⊤}
use Rattle.std.specs.Result.{IsErrAnd}
use Rattle.std.specs.Borrow.{MutBor}
use Rattle.sqlite_trees.specs.declared.store.Store.{Ghosts}
use Rattle.sqlite.specs.Held.{Held, state}
use Rattle.sqlite.specs.Order.{Row}
use Rattle.sqlite.specs.State.{State, HasCleanDisk}
use Rattle.up_tables.specs.Stands.{HasTables, IsOpen, IfClean, Steps}
use Rattle.up_tables.specs.Statements.{WhereOpen}
use Rattle.up_tables.specs.Stored.{AreWritten, IsWritten}
use Rattle.up_tables.specs.Tried.{BlamesOne, Makes, Ran, RefusesOne}
use Rattle.up_tables.specs.declared.values.StoreFault.{StoreFault}
use Rattle.up_tables.proofs.CallLemmas.{clean_before}
use Rattle.up_tables.proofs.StepLemmas.{steps_then}
use Rattle.up_tables.proofs.TriedLemmas.{makes_then, refuses_then}
use Rattle.up_tables.proofs.UndoneLemmas.{undoes_next}

module _ (it : List ℕ × Row) (these : List (List ℕ × Row)) where
  blames_rest : {B : Type 0} (r : Result B StoreFault) (old mid new : State) → Steps old mid → Steps mid new → IfClean IsOpen mid → (HasCleanDisk mid → IsTrue old.is_open × Makes old.step_limit (it ∷ []) old.now mid.now × (HasTables old → HasTables mid))
      → BlamesOne these (λ _. ⊤) mid new r → BlamesOne (it ∷ these) (λ _. ⊤) old new r
  blames_rest (Ok x) old mid new first second opened ran blame clean = tt
  blames_rest (Err e) old mid new first second opened ran blame clean = λ is is_open has _.
      let between : HasCleanDisk mid = clean_before mid new second clean in
      let before = ran between in
      elim (blame clean is (opened between) (before.2 has) tt) [
        | inl more ↦ inl (omega (arith, first.survives.counts, more))
        | inr refused ↦ inr (refuses_then old.step_limit (it ∷ []) these old.now mid.now before.1 (subst (λ l. RefusesOne l these mid.now) first.survives.limit refused))
      ]

  ran_both : {B : Type 0} (r : Result B StoreFault) (old mid new : State) → Steps old mid → Steps mid new → (HasCleanDisk mid → IsTrue old.is_open × Makes old.step_limit (it ∷ []) old.now mid.now × (HasTables old → HasTables mid))
      → Ran these mid new r → Ran (it ∷ these) old new r
  ran_both (Err e) old mid new first second ran rest clean = tt
  ran_both (Ok x) old mid new first second ran rest clean =
      let before = ran (clean_before mid new second clean) in
      let after = rest clean in
      (before.0, makes_then old.step_limit (it ∷ []) these old.now mid.now new.now before.1 (subst (λ l. Makes l these mid.now new.now) first.survives.limit after.1), λ has. after.2 (before.2 has))

  -- the first went through
  pub first_then : {S A B : Type 0} (g : Ghosts S) (one : State → State → Result A StoreFault → Type 0) (rest alters : State → State → Result B StoreFault → Type 0) (old mid new : MutBor (Held S)) (x : A) (r : Result B StoreFault)
      → IsWritten g it.0 it.1 one old mid (Ok x) → WhereOpen g mid (AreWritten g these (λ _. ⊤) rest mid new r)
      → ((HasCleanDisk (state g new.now) → HasCleanDisk (state g mid.now)) → one (state g old.now) (state g mid.now) (Ok x) → rest (state g mid.now) (state g new.now) r → alters (state g old.now) (state g new.now) r)
      → WhereOpen g old (AreWritten g (it ∷ these) (λ _. ⊤) alters old new r)
  first_then g one rest alters old mid new x r first second both is_open inside =
      let a = first inside in
      let b = second a.step.is_open a.step.inside in
      record {
        altered = both (clean_before (state g mid.now) (state g new.now) b.step.steps) a.altered b.altered;
        blame = blames_rest r (state g old.now) (state g mid.now) (state g new.now) a.step.steps b.step.steps a.step.is_open a.ran b.blame;
        ran = ran_both r (state g old.now) (state g mid.now) (state g new.now) a.step.steps b.step.steps a.ran b.ran;
        memory = b.memory;
        step = record {
          same_reference = b.step.same_reference ∙ a.step.same_reference;
          steps = steps_then (state g old.now) (state g mid.now) (state g new.now) a.step.steps b.step.steps;
          inside = b.step.inside;
          is_open = b.step.is_open;
        };
      }

  -- the first fails, and its fault is handed on
  pub first_fails : {S A B : Type 0} (g : Ghosts S) (one : State → State → Result A StoreFault → Type 0) (alters : State → State → Result B StoreFault → Type 0) (old new : MutBor (Held S)) (r : Result B StoreFault) (f : StoreFault)
      → IsErrAnd r (λ e. e ≡ f) → ((e : StoreFault) → alters (state g old.now) (state g new.now) (Err e)) → IsWritten g it.0 it.1 one old new (Err f) → WhereOpen g old (AreWritten g (it ∷ these) (λ _. ⊤) alters old new r)
  first_fails g one alters old new (Ok x) f fails none first is_open inside = absurd fails
  first_fails {S} {A} {B} g one alters old new (Err e) f fails none first is_open inside =
      let last = first inside in
      record {
        altered = none e;
        blame = λ clean. λ is is_open has _.
            elim (last.blame clean (sym fails ∙ is) is_open has) [
              | inl more ↦ inl more
              | inr refused ↦ inr (inl refused)
            ];
        ran = λ clean. tt;
        memory = undoes_next {T = B} (Err e) (state g new.now) f fails last.memory;
        step = record { same_reference = last.step.same_reference; steps = last.step.steps; inside = tt; is_open = tt };
      }
