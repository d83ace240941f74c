-- Why the tables were not made or raised, said of the connection before the transaction and behind it.
use Rattle.std.proofs.Common.{◌≡◌, ◌↔◌, inl, inr, ◌⊎◌, ℕ, List, Bool, true, false, Option, Ok, Err, Result, IfErr, OnOk, IsTrue, sym, ap, subst, ◌∙◌, arith}
use Rattle.std.proofs.lemmas.Bool.{cases_Bool}
use Rattle.std.specs.Result.{IsOk}
use Rattle.sqlite.specs.declared.error.Error.{Error}
use Rattle.sqlite.specs.Effect.{Database}
use Rattle.sqlite.specs.Held.{Held, state}
use Rattle.sqlite.specs.Order.{Row}
use Rattle.sqlite.specs.State.{State, HasCleanDisk, Survives}
use Rattle.sqlite.specs.Steps.{FailsToCommit}
use Rattle.sqlite.specs.Tree.{Trees}
use Rattle.sqlite_trees.specs.declared.store.Store.{Ghosts}
use Rattle.up_tables.specs.declared.open.OpenFault.{OpenFault}
use Rattle.up_tables.specs.declared.open.OpenFault.TheVariants as opening
use Rattle.up_tables.specs.Faults.{open_fault}
use Rattle.up_tables.specs.Making.{FailsToMake, TriesTill, making}
use Rattle.up_tables.specs.Ours.{HasFailed}
use Rattle.up_tables.specs.Stands.{HasNoTables, IfClean, IsInside}
use Rattle.up_tables.specs.Tables.{no_schema}
use Rattle.up_tables.specs.Tried.{RefusesOne}
use Rattle.up_tables.proofs.MakingLemmas.{by_cause, failed_later}

-- outside a transaction an open connection sees what was committed
abbrev pub IsSettled : State → Type 0
IsSettled s = s.in_transaction ≡ false → IsTrue s.is_open → s.now ≡ s.committed

-- there are tables
pub has_tables : (s : State) (b : Bool) → (IsTrue b ↔ (s.now.schema ≡ no_schema)) → b ≡ false → IsSettled s → s.in_transaction ≡ false → ¬ HasNoTables s
has_tables s b empty none settled idle h =
    let found : IsTrue b = empty.1 (ap (λ (d : Database). d.schema) (settled idle h.is_open) ∙ h.schema_is) in
    absurd (let no = sym found ∙ none in cc)

module _ {S : Type 0} (g : Ghosts S) (old first mid last : Held S) (begun : first ≡ record old { in_transaction = true }) where
  -- what failed within the transaction, and what failed later
  failed_within : (P : Trees → Type 0) → Survives (state g mid) (state g last) P → HasFailed (state g first) (state g mid) → HasFailed (state g old) (state g last)
  failed_within P ends h = go (subst (λ s. HasFailed (state g s) (state g mid)) begun h)
    where
      go : HasFailed (state g (record old { in_transaction = true })) (state g mid) → HasFailed (state g old) (state g last)
      go (inl shut) = inl shut
      go (inr more) = inr (omega (arith, more, ends.counts))

  from_first : HasFailed (state g first) (state g last) → HasFailed (state g old) (state g last)
  from_first h = subst (λ s. HasFailed (state g s) (state g last)) begun h

  -- a statement wasn't carried out
  pub refused : (Stops : Option ℕ → List (List ℕ × Row) → Database → Type 0) (these : List (List ℕ × Row)) (dropped : Held S) → last ≡ dropped → Survives (state g mid) (state g dropped) (λ _. ⊥)
      → (step : Result ℕ Error) (r : Result (Unit {0}) OpenFault) → (HasCleanDisk (state g mid) → TriesTill Stops these (state g first) (state g mid) step) → OnOk step (IsOk r) → IfErr step (λ e. r ≡ Err (open_fault e))
      → HasCleanDisk (state g last) → IfErr r (λ f. f ≡ opening.Store → HasFailed (state g old) (state g last) ⊎ Stops (state g old).step_limit these (state g old).now)
  refused Stops these dropped is survives step (Ok x) tried went fault clean = tt
  refused Stops these dropped is survives (Ok n) (Err f) tried went fault clean = absurd (let no = went in cc)
  refused Stops these dropped is survives (Err e) (Err f) tried went fault clean = λ store.
      let ends : Survives (state g mid) (state g last) (λ _. ⊥) = subst (λ s. Survives (state g mid) (state g s) (λ _. ⊥)) (sym is) survives in
      let same : open_fault e ≡ f = (let it = fault in cc) in
      let before : HasCleanDisk (state g mid) = omega (arith, clean, ends.clean) in
      elim (tried before (same ∙ store)) [
        | inl failed ↦ inl (failed_within (λ _. ⊥) ends failed)
        | inr stops ↦ inr (subst (λ s. Stops (state g s).step_limit these (state g s).now) begun stops)
      ]

  -- nor was the commit
  pub uncommitted : (P Q : Trees → Type 0) → Survives (state g first) (state g mid) P → Survives (state g mid) (state g last) Q → IfClean IsInside (state g mid) → (commit : Result (Unit {0}) Error) (r : Result (Unit {0}) OpenFault)
      → (HasCleanDisk (state g last) → IfErr commit (FailsToCommit (state g mid) (state g last))) → OnOk commit (IsOk r) → IfErr commit (λ e. r ≡ Err (open_fault e)) → HasCleanDisk (state g last)
      → IfErr r (λ f. f ≡ opening.Store → HasFailed (state g old) (state g last))
  uncommitted P Q runs ends inside commit (Ok x) err went fault clean = tt
  uncommitted P Q runs ends inside (Ok n) (Err f) err went fault clean = absurd (let no = went in cc)
  uncommitted P Q runs ends inside (Err e) (Err f) err went fault clean = λ store.
      let same : open_fault e ≡ f = (let it = fault in cc) in
      let before : HasCleanDisk (state g mid) = omega (arith, clean, ends.clean) in
      from_first (failed_later (state g first) (state g mid) (state g last) P Q runs ends before (why before (same ∙ store) (err clean)))
    where
      why : HasCleanDisk (state g mid) → open_fault e ≡ opening.Store → FailsToCommit (state g mid) (state g last) e → HasFailed (state g mid) (state g last)
      why before told (inl h) = elim (by_cause (state g mid) (state g last) e told ⊥ h.0 h.1 h.2) [ inl failed ↦ failed | inr never ↦ absurd never ]
      why before told (inr h) = absurd (let no = sym h.1 ∙ inside before in cc)

-- ---- tables that are made

-- the database refuses one of the statements that make them
pub unmade : (old new : State) → IsSettled old → old.in_transaction ≡ false → (r : Result (Unit {0}) OpenFault) → IfErr r (λ f. f ≡ opening.Store → HasFailed old new ⊎ RefusesOne old.step_limit making old.now)
    → IfErr r (λ f. f ≡ opening.Store → FailsToMake old new)
unmade old new settled idle (Ok x) h = tt
unmade old new settled idle (Err f) h = λ store. elim (h store) [ inl failed ↦ inl failed | inr refuses ↦ go refuses ]
  where
    go : RefusesOne old.step_limit making old.now → FailsToMake old new
    go refuses = elim (cases_Bool old.is_open) [
      | inl is_open ↦ inr (inr (subst (RefusesOne old.step_limit making) (settled idle is_open) refuses))
      | inr shut ↦ inl (inl shut)
    ]

-- the connection was shut, or the disk failed
pub failed : (old new : State) (R : Type 0) (r : Result (Unit {0}) OpenFault) → IfErr r (λ f. f ≡ opening.Store → HasFailed old new) → IfErr r (λ f. f ≡ opening.Store → HasFailed old new ⊎ R)
failed old new R (Ok x) h = tt
failed old new R (Err f) h = λ store. inl (h store)
