-- A loop that carries out statements, one after another: what they made, and why it tells `Store`.
use Rattle.std.proofs.Common.{◌≡◌, inl, inr, ℕ, zero, suc, ◌+◌, List, [], ◌∷◌, map, take, length, slice_get, Option, Some, Ok, Err, Result, IsTrue, refl, sym, ap, subst, ◌∙◌, arith}
use Rattle.std.specs.Prelude.{⊤}
use Rattle.std.specs.Result.{IsErrAnd}
use Rattle.sqlite.specs.Effect.{Database}
use Rattle.std.specs.Borrow.{MutBor}
use Rattle.sqlite_trees.specs.declared.store.Store.{Ghosts}
use Rattle.sqlite.specs.Held.{Held, state}
use Rattle.sqlite.specs.Order.{Row}
use Rattle.sqlite.specs.State.{State, HasCleanDisk}
use Rattle.up_tables.specs.Stands.{HasTables, IsInside, IsOpen, Steps}
use Rattle.up_tables.specs.Statements.{WhereInside, WhereOpen}
use Rattle.up_tables.specs.Stored.{AreWritten, IsWritten}
use Rattle.up_tables.specs.Tried.{BlamesOne, BlamesRefusal, IsRefused, Makes, MakesOf, RefusesOne}
use Rattle.up_tables.specs.declared.values.StoreFault.{StoreFault}
use Rattle.up_tables.proofs.CallLemmas.{GoOn, KeepsOn, clean_before, keeps_on}
use Rattle.up_tables.proofs.EcuInserts.{take_whole}
use Rattle.up_tables.proofs.StepLemmas.{steps_then}
use Rattle.up_tables.proofs.UndoneLemmas.{undoes_next}

-- ---- statements in their order

-- the next one goes through, too
makes_next : (limit : Option ℕ) (these : List (List ℕ × Row)) (i : ℕ) (it : List ℕ × Row) (db mid after : Database) → slice_get these i ≡ Some it → Makes limit (take i these) db mid → MakesOf limit it.0 it.1 mid after
    → Makes limit (take (suc i) these) db after
makes_next limit [] i it db mid after there so_far one = absurd (let e = there in cc)
makes_next limit (x ∷ more) zero it db mid after there so_far one =
    let is : x ≡ it = cc in
    (after, subst (λ d. MakesOf limit x.0 x.1 d after) so_far (subst (λ (y : List ℕ × Row). MakesOf limit y.0 y.1 mid after) (sym is) one), refl)
makes_next limit (x ∷ more) (suc i) it db mid after there so_far one = (so_far.0, so_far.1, makes_next limit more i it so_far.0 mid after there so_far.2 one)

-- the next one is refused
refuses_next : (limit : Option ℕ) (these : List (List ℕ × Row)) (i : ℕ) (it : List ℕ × Row) (db mid : Database) → slice_get these i ≡ Some it → Makes limit (take i these) db mid → IsRefused limit it.0 it.1 mid → RefusesOne limit these db
refuses_next limit [] i it db mid there so_far refused = absurd (let e = there in cc)
refuses_next limit (x ∷ more) zero it db mid there so_far refused =
    let is : x ≡ it = cc in
    inl (subst (λ d. IsRefused limit x.0 x.1 d) so_far (subst (λ (y : List ℕ × Row). IsRefused limit y.0 y.1 mid) (sym is) refused))
refuses_next limit (x ∷ more) (suc i) it db mid there so_far refused = inr (so_far.0, so_far.1, refuses_next limit more i it so_far.0 mid there so_far.2 refused)

-- ---- a loop

-- what the loop has carried out when it comes to one of them
pub record RanSoFar (these : List (List ℕ × Row)) (i : ℕ) (old new : State) : Type 0 where
  pub told : IsTrue old.is_open × Makes old.step_limit (take i these) old.now new.now × (HasTables old → HasTables new)

pub statement_at : {X : Type 0} (f : X → List ℕ × Row) (xs : List X) (i : ℕ) (x : X) → slice_get xs i ≡ Some x → slice_get (map f xs) i ≡ Some (f x)
statement_at f [] i x there = absurd (let e = there in cc)
statement_at f (y ∷ xs) zero x there = let is : y ≡ x = cc in ap (λ z. Some (f z)) is
statement_at f (y ∷ xs) (suc i) x there = statement_at f xs i x there

pub next_ran : (these : List (List ℕ × Row)) (i : ℕ) (it : List ℕ × Row) (old mid new : State) → slice_get these i ≡ Some it → Steps old mid → RanSoFar these i old mid
    → IsTrue mid.is_open × Makes mid.step_limit (it ∷ []) mid.now new.now × (HasTables mid → HasTables new) → RanSoFar these (i + 1) old new
next_ran these i it old mid new there steps so_far next = record {
  told =
      let before = so_far.told in
      let made : MakesOf old.step_limit it.0 it.1 mid.now new.now = subst (λ d. MakesOf old.step_limit it.0 it.1 mid.now d) (sym next.1.2) (subst (λ l. MakesOf l it.0 it.1 mid.now next.1.0) steps.survives.limit next.1.1) in
      let same : suc i ≡ i + 1 = omega arith in
      (before.0, subst (λ n. Makes old.step_limit (take n these) old.now new.now) same (makes_next old.step_limit these i it old.now mid.now new.now there before.1 made), λ has. next.2 (before.2 has));
}

pub all_ran : (these : List (List ℕ × Row)) (i : ℕ) (old new : State) → i ≡ length these → RanSoFar these i old new → IsTrue old.is_open × Makes old.step_limit these old.now new.now × (HasTables old → HasTables new)
all_ran these i old new end so_far =
    let it = so_far.told in
    (it.0, subst (λ xs. Makes old.step_limit xs old.now new.now) (ap (λ k. take k these) end ∙ take_whole these) it.1, it.2)

-- the next one fails, and its fault is handed on
pub blames_next : {T : Type 0} (r : Result T StoreFault) (these : List (List ℕ × Row)) (i : ℕ) (it : List ℕ × Row) (old mid new : State) (f : StoreFault) → IsErrAnd r (λ e. e ≡ f) → slice_get these i ≡ Some it → GoOn old mid → Steps mid new
    → (HasCleanDisk mid → RanSoFar these i old mid) → BlamesRefusal {A = Unit {0}} it.0 it.1 mid new (Err f) → BlamesOne these (λ _. ⊤) old new r
blames_next (Ok x) these i it old mid new f fails there on steps so_far blame clean = absurd fails
blames_next (Err e) these i it old mid new f fails there on steps so_far blame clean = λ is is_open has _.
    let between : HasCleanDisk mid = clean_before mid new steps clean in
    let before = (so_far between).told in
    elim (blame clean (sym fails ∙ is) (on.opened between) (before.2 has)) [
      | inl more ↦ inl (omega (arith, on.steps.survives.counts, more))
      | inr refused ↦ inr (refuses_next old.step_limit these i it old.now mid.now there before.1 (subst (λ l. IsRefused l it.0 it.1 mid.now) on.steps.survives.limit refused))
    ]

-- ---- the loop as a whole

-- what a loop over these statements keeps when it comes to one of them, where this holds of what it wrote so far
abbrev pub KeepsWriting : {S : Type 0} → Ghosts S → List (List ℕ × Row) → (ℕ → State → State → Type 0) → ℕ → MutBor (Held S) → MutBor (Held S) → Type 0
KeepsWriting g these so_far i old now =
    WhereOpen g old (WhereInside g old (KeepsOn (λ was is. so_far i was is × RanSoFar these i was is) old.ghost_name now.ghost_name (state g old.now) (state g now.now)))

no_steps : (s : State) → Steps s s
no_steps s = record {
  survives = record { clean = omega arith; shield = λ h. h; counts = omega arith; limit = refl; closes = λ clean is_open. inl is_open; crash = λ clean db may. inl may };
  kept = λ clean. record { was_open = λ is_open. is_open; committed = λ is_open. refl };
}

module _ {S : Type 0} (g : Ghosts S) (these : List (List ℕ × Row)) (so_far : ℕ → State → State → Type 0) where
  pub each_starts : (old : MutBor (Held S)) → (IsInside (state g old.now) → IsOpen (state g old.now) → so_far 0 (state g old.now) (state g old.now)) → KeepsWriting g these so_far 0 old old
  each_starts old none is_open inside = record {
    same_reference = refl;
    on = record { inside = inside; opened = is_open; steps = no_steps (state g old.now) };
    written = λ clean. (none (inside clean) (is_open clean), record { told = (is_open clean, refl, λ has. has) });
  }

  pub each_next : {A : Type 0} (i : ℕ) (it : List ℕ × Row) (alters : State → State → Result A StoreFault → Type 0) (old mid new : MutBor (Held S)) (x : A) → slice_get these i ≡ Some it → IsWritten g it.0 it.1 alters mid new (Ok x)
      → (HasCleanDisk (state g new.now) → so_far i (state g old.now) (state g mid.now) → alters (state g mid.now) (state g new.now) (Ok x) → so_far (i + 1) (state g old.now) (state g new.now))
      → KeepsWriting g these so_far i old mid → KeepsWriting g these so_far (i + 1) old new
  each_next i it alters old mid new x there writes next so is_open inside =
      let on = so is_open inside in
      let one = writes on.on.inside in
      keeps_on _ _ _ _ _ _ _ _ on one.step.same_reference one.step.inside one.step.is_open one.step.steps
      (λ clean before. (next clean before.0 one.altered, next_ran these i it _ _ _ there on.on.steps before.1 (one.ran clean)))

  pub each_ends : {A : Type 0} (i : ℕ) (alters : State → State → Result A StoreFault → Type 0) (old new : MutBor (Held S)) (x : A) → i ≡ length these
      → ((HasCleanDisk (state g new.now) → so_far i (state g old.now) (state g new.now)) → alters (state g old.now) (state g new.now) (Ok x)) → KeepsWriting g these so_far i old new
      → WhereOpen g old (AreWritten g these (λ _. ⊤) alters old new (Ok x))
  each_ends i alters old new x end all so is_open inside =
      let on = so is_open inside in
      record {
        altered = all (λ clean. (on.written clean).0);
        blame = λ clean. tt;
        ran = λ clean. all_ran these i _ _ end (on.written clean).1;
        memory = λ clean. tt;
        step = record { same_reference = on.same_reference; steps = on.on.steps; inside = on.on.inside; is_open = on.on.opened };
      }

  -- the next one fails
  pub each_fails : {A X : Type 0} (i : ℕ) (it : List ℕ × Row) (one : State → State → Result X StoreFault → Type 0) (alters : State → State → Result A StoreFault → Type 0) (old mid new : MutBor (Held S)) (r : Result A StoreFault) (f : StoreFault)
      → IsErrAnd r (λ e. e ≡ f) → slice_get these i ≡ Some it → ((e : StoreFault) → alters (state g old.now) (state g new.now) (Err e)) → IsWritten g it.0 it.1 one mid new (Err f) → KeepsWriting g these so_far i old mid
      → WhereOpen g old (AreWritten g these (λ _. ⊤) alters old new r)
  each_fails {A} {X} i it one alters old mid new (Ok x) f fails there none writes so is_open inside = absurd fails
  each_fails {A} {X} i it one alters old mid new (Err e) f fails there none writes so is_open inside =
      let on = so is_open inside in
      let last = writes on.on.inside in
      record {
        altered = none e;
        blame = blames_next {T = A} (Err e) these i it _ _ _ f fails there on.on last.step.steps (λ between. (on.written between).1) last.blame;
        ran = λ clean. tt;
        memory = undoes_next {T = A} (Err e) (state g new.now) f fails last.memory;
        step = record { same_reference = last.step.same_reference ∙ on.same_reference; steps = steps_then _ _ _ on.on.steps last.step.steps; inside = tt; is_open = tt };
      }
