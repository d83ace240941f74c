-- Steps within a transaction, one after another.
use Rattle.std.proofs.Common.{◌≡◌, ◌++◌, ◌∙◌, inl, inr, ℕ, List, [], ◌∷◌, Ok, Err, Result, IsTrue, refl, subst, arith}
use Rattle.std.specs.Result.{IsErrAnd}
use Rattle.up_tables.proofs.StepLemmas.{steps_then}
use Rattle.up_tables.proofs.UndoneLemmas.{undoes_next}
use Rattle.up_store.specs.Within.{FoundWithin, MadeAndPut, PutWithin}
use Rattle.up_store.proofs.Common.{⊤, MutBor, Ghosts, Held, state, Row, Connected, HasCleanDisk, StateRows, HasTables, Steps, BlamesDisk, IsOpenStep, AllWritten, Written, StoreFault, Store, blames_first, blames_only, blames_so, ListsRows}
use Rattle.up_store.proofs.Blamed.{by_statement}
use Rattle.up_store.proofs.PutBlames.{told_on}
use Rattle.up_store.proofs.WentOn.{WentOn, blames_on, never_store, ran_on}

abbrev Puts : Type 0 → Type 1
Puts A = Connected → Connected → Result A StoreFault → Type 0

module _ {S A : Type 0} (g : Ghosts S) (these : List (List ℕ × Row)) (may : Connected → Type 0) (old new : MutBor (Held S)) (r : Result A StoreFault) where
  -- a statement, or some, that put what is asked for
  pub puts_one : (text : List ℕ) (row : Row) (alters puts : Puts A) → (text, row) ∷ [] ≡ these → (alters (state g old.now) (state g new.now) r → IsOpenStep g old new r → puts (state g old.now) (state g new.now) r)
      → Written g text row alters old new r → PutWithin g puts these may old new r
  puts_one text row alters puts same so c =
      subst (λ these. PutWithin g puts these may old new r) same
      (record { put = so c.altered c.step; ran = c.ran; blame = blames_only may text row (state g old.now) (state g new.now) r c.blame; memory = c.memory; step = c.step })

  pub puts_many : (these' : List (List ℕ × Row)) (alters puts : Puts A) → these' ≡ these → (alters (state g old.now) (state g new.now) r → IsOpenStep g old new r → puts (state g old.now) (state g new.now) r)
      → AllWritten g these' may alters old new r → PutWithin g puts these may old new r
  puts_many these' alters puts same so c =
      subst (λ these. PutWithin g puts these may old new r) same (record { put = so c.altered c.step; ran = c.ran; blame = c.blame; memory = c.memory; step = c.step })

  -- after what was made
  pub makes_puts : (puts : Puts A) (may' : Connected → Type 0) → (may (state g old.now) → may' (state g old.now)) → PutWithin g puts these may' old new r → MadeAndPut g puts these may old new r
  makes_puts puts may' so c =
      record { put = c.put; ran = c.ran; blame = blames_so these may' may (state g old.now) (state g new.now) r (λ is_open has holds. so holds) c.blame; memory = inr c.memory; step = c.step }

module _ {S A : Type 0} (g : Ghosts S) (puts : Puts A) (these more : List (List ℕ × Row)) (may : Connected → Type 0) where
  -- a step that went through, and the next
  pub then_puts : {X : Type 0} (x : X) (first : Puts X) (next : Puts A) (may' may'' : Connected → Type 0) (old mid new : MutBor (Held S)) (r : Result A StoreFault)
      → (HasCleanDisk (state g mid.now) → IsTrue (state g old.now).is_open → HasTables (state g old.now) → may (state g old.now) → may'' (state g mid.now)) → puts (state g old.now) (state g new.now) r
      → PutWithin {A = X} g first these may' old mid (Ok x) → PutWithin g next more may'' mid new r → PutWithin g puts (these ++ more) may old new r
  then_puts x first next may' may'' old mid new r so put one two =
      let s0 = state g old.now in
      let s1 = state g mid.now in
      let s2 = state g new.now in
      let on : WentOn these s0 s1 = record { steps = one.step.steps; went = one.ran; opened = one.step.is_open } in
      record {
        put = put;
        ran = ran_on these more s0 s1 s2 r on two.step.steps two.ran;
        blame = blames_on these more may may'' s0 s1 s2 r on two.step.steps so two.blame;
        memory = two.memory;
        step = record {
          same_reference = two.step.same_reference ∙ one.step.same_reference;
          steps = steps_then s0 s1 s2 one.step.steps two.step.steps;
          inside = two.step.inside;
          is_open = two.step.is_open;
        };
      }

  -- a step that failed, where there was more to be done
  pub puts_first : {X : Type 0} (first : Puts X) (may' : Connected → Type 0) (old new : MutBor (Held S)) (r : Result A StoreFault) (f : StoreFault) → IsErrAnd r (λ e. e ≡ f) → (may (state g old.now) → may' (state g old.now))
      → ((e : StoreFault) → puts (state g old.now) (state g new.now) (Err e)) → PutWithin {A = X} g first these may' old new (Err f) → PutWithin g puts (these ++ more) may old new r
  puts_first first may' old new (Ok x) f told so fails c = absurd told
  puts_first first may' old new (Err e) f told so fails c =
      let s0 = state g old.now in
      let s1 = state g new.now in
      record {
        put = fails e;
        ran = λ clean. tt;
        blame = told_on {A = A} (Err e) f (these ++ more) may s0 s1 told (blames_first {T = ⊤} these more may s0 s1 (Err f) (blames_so {T = ⊤} these may' may s0 s1 (Err f) (λ is_open has holds. so holds) c.blame));
        memory = undoes_next {T = A} (Err e) s1 f told c.memory;
        step = record { same_reference = c.step.same_reference; steps = c.step.steps; inside = tt; is_open = tt };
      }

no_steps : (s : Connected) → Steps s s
no_steps s = record {
  survives = record { clean = omega arith; shield = λ h. h; counts = omega arith; limit = refl; closes = λ clean is_open. inl is_open; crash = λ clean db may. inl may };
  kept = λ clean. record { was_open = λ is_open. is_open; committed = λ is_open. refl };
}

-- nothing was asked of the connection, for a fault that isn't `Store` where what is given may be written
pub makes_none : {S A : Type 0} (g : Ghosts S) (puts : Puts A) (these : List (List ℕ × Row)) (may : Connected → Type 0) (old : MutBor (Held S)) (r : Result A StoreFault) (f : StoreFault) → IsErrAnd r (λ e. e ≡ f)
    → ((e : StoreFault) → puts (state g old.now) (state g old.now) (Err e)) → (f ≡ Store → may (state g old.now) → ⊥) → MadeAndPut g puts these may old old r
makes_none {S} {A} g puts these may old (Ok x) f told none never = absurd told
makes_none {S} {A} g puts these may old (Err e) f told none never = record {
  put = none e;
  ran = λ clean. tt;
  blame = never_store {A = A} these may (state g old.now) (state g old.now) (Err e) f told never;
  memory = inl refl;
  step = record { same_reference = refl; steps = no_steps (state g old.now); inside = tt; is_open = tt };
}

-- ---- reads

-- a fault of a statement, whose table has the rows that it shows
pub finds_fault : {S A B : Type 0} (g : Ghosts S) (tells : StateRows → A → Type 0) (finds : Puts A) (fits : StateRows → Type 0) (old new : MutBor (Held S)) (r : Result B StoreFault) (f : StoreFault) (P : Type 0) → finds (state g old.now) (state g new.now) (Err f)
    → ((rows : StateRows) → ListsRows rows (state g old.now).now.trees → fits rows → P) → BlamesDisk {A = ⊤} (λ s. P) (state g old.now) (state g new.now) (Err f) → IsOpenStep g old new r → FoundWithin g tells finds fits old new (Err f)
finds_fault g tells finds fits old new r f P none holds blame step = record {
  found = λ clean. tt;
  shown = none;
  reads = λ clean. tt;
  «open» = λ clean. tt;
  blame = by_statement fits P (state g old.now) (state g new.now) (Err f) holds blame;
  step = record { same_reference = step.same_reference; steps = step.steps };
}
