-- What a view finds, which is a session that is dropped.
use Rattle.std.proofs.Common.{◌≡◌, true, Result, Ok, Err, IfOk, refl, sym, subst, arith}
use Rattle.std.specs.Prelude.{⊤, IfSome}
use Rattle.std.specs.Borrow.{MutBor}
use Rattle.sqlite.specs.Held.{Held, state}
use Rattle.sqlite.specs.State.{HasCleanDisk, IsRolledBack, Survives}
use Rattle.sqlite.proofs.Callers.{survives_begin}
use Rattle.sqlite.proofs.StateLemmas.{survives_then}
use Rattle.sqlite_trees.specs.declared.store.Store.{Ghosts}
use Rattle.up_sign.specs.Schemes.{Rules}
use Rattle.up_machine.specs.Sound.{IsSound}
use Rattle.up_machine.specs.State.{State}
use Rattle.up_rows.specs.StateRows.{rows_of_state}
use Rattle.up_tables.specs.Stands.{IfClean, Steps}
use Rattle.up_tables.specs.Statements.{WhereInside}
use Rattle.up_tables.specs.declared.values.StoreFault.{StoreFault}
use Rattle.up_tables.specs.declared.values.StoreFault.TheVariants as fault
use Rattle.up_store.specs.Connections.{KeepsState}
use Rattle.up_store.proofs.Ended.{as_before, within}
use Rattle.up_records.specs.Catalogs.{CanDecide, Fits}
use Rattle.up_records.specs.Connected as connected
use Rattle.up_records.specs.Reads.{Finds, Reads}
use Rattle.up_records.specs.Sessions.{FindsOn, SeesState}
use Rattle.up_records.specs.Standing as standing
use Rattle.up_records.specs.Standing.{ShowsState, Standing, Stored}
use Rattle.up_records.proofs.Reading as reading

module _ {S A : Type 0} (g : Ghosts S) {viewed old : Held S} (tx mid : MutBor (Held S)) (last : Held S) (of_state : Rules → State → A) (same : viewed ≡ old) (begun : tx.now ≡ record viewed { in_transaction = true })
    (rolled : IfClean (IsRolledBack (state g mid.now)) (state g last)) (ends : Survives (state g mid.now) (state g last) (λ _. ⊥)) where
  began : tx.now ≡ record old { in_transaction = true }
  began = subst (λ h. tx.now ≡ record h { in_transaction = true }) same begun

  before : HasCleanDisk (state g last) → HasCleanDisk (state g mid.now)
  before clean = let then : HasCleanDisk (state g mid.now) = omega (arith, ends.clean, clean) in then

  module _ {r : Result A StoreFault} (it : FindsOn g (λ _. ⊤) (λ k s x. x ≡ of_state k s) tx mid r) where
    went : Steps (state g (record old { in_transaction = true })) (state g mid.now)
    went = subst (λ h. Steps (state g h) (state g mid.now)) began it.step.steps

    sees : (k : Rules) (s : State) → HasCleanDisk (state g mid.now) → IfClean (KeepsState s) (state g old) → SeesState s (state g tx.now)
    sees k s then was =
        let first : HasCleanDisk (state g old) = omega (arith, went.survives.clean) in
        subst (λ h. SeesState s (state g h)) (sym began) (record { mode = refl; here = (was first).here })

    reads : connected.Reads (state g old) (state g last)
    reads = reading.store_reads (as_before g old mid.now (state g last) went before rolled)
        (survives_then (state g old) (state g mid.now) (state g last) (λ _. ⊥) (λ _. ⊥) (λ _. ⊥) (λ _ db none. none) (λ _ db none. none) (survives_begin g old (state g mid.now) (λ _. ⊥) went.survives) ends)

  told : (r : Result A StoreFault) → FindsOn g (λ _. ⊤) (λ k s x. x ≡ of_state k s) tx mid r → HasCleanDisk (state g last) → IfOk r (λ found. (k : Rules) (s : State) → IfClean (KeepsState s) (state g old) → found ≡ of_state k s)
  told (Ok x) it clean = λ k s was. it.told (before clean) k tt s (sees it k s (before clean) was)
  told (Err f) it clean = tt

  blame : (r : Result A StoreFault) → FindsOn g (λ _. ⊤) (λ k s x. x ≡ of_state k s) tx mid r → (k : Rules) (s : State) → IsSound k s → IfClean (KeepsState s) (state g old)
      → connected.BlamesDisk fault.Store (state g old) (state g last) r
  blame (Ok x) it k s sound was clean = tt
  blame (Err f) it k s sound was clean = λ store is_open unlimited.
      let then = before clean in
      let failed = subst (λ h. connected.DiskFailed (state g h) (state g mid.now)) began (it.blame k tt s sound (sees it k s then was) then store) in
      let more = failed is_open unlimited in
      omega (arith, ends.counts, more)

  -- what was found in it
  pub dropped_finds : (r : Result A StoreFault) → WhereInside g tx (FindsOn g (λ _. ⊤) (λ k s x. x ≡ of_state k s) tx mid r) → connected.Finds of_state (state g old) (state g last) r
  dropped_finds r read = let it = read (within g viewed begun) in record { told = told r it; blame = blame r it; reads = reads it }

-- while what is kept in memory stays
reads_over : (k : Rules) {old new : Standing} → connected.Reads old.connection new.connection → new.catalog ≡ old.catalog → Reads k old new
reads_over k {old} {new} reads kept = record {
  keeps = λ s was now.
      let before : standing.HasCleanDisk old = reading.clean_before reads now in
      record {
        tables = reading.keeps_after k s (λ clean. (was clean).tables) reads now;
        memory = subst (Fits s) (sym kept) (was before).memory;
      };
  same = λ s was now is_open. reads.same (rows_of_state s) (λ clean. (was clean).tables) now is_open;
  survives = reads.survives;
  can = λ can. subst (λ c. IfSome c (CanDecide k)) (sym kept) can;
}

-- over records that were opened
pub read_over : {D A : Type 0} (g : Ghosts D) (of_state : Rules → State → A) (opened old new : Stored D) (result : Result A StoreFault) → opened ≡ old → new.catalog ≡ opened.catalog
    → connected.Finds of_state (state g opened.held) (state g new.held) result → Finds g of_state old new result
read_over {A = A} g of_state opened old new result is kept it k =
    subst (λ (r : Stored _). Rattle.up_records.specs.Reads.ReadsState k (of_state k) (standing.state g r) (standing.state g new) result) is (record {
      told = λ now. found result (it.told now);
      blame = λ now s sound was. it.blame k s sound (λ clean. (was clean).tables) now;
      reads = reads_over k it.reads kept;
    })
  where
    found : (r : Result A StoreFault) → IfOk r (λ found. (j : Rules) (s : State) → IfClean (KeepsState s) (state g opened.held) → found ≡ of_state j s)
        → IfOk r (λ found. (s : State) → standing.IfClean (ShowsState s) (standing.state g opened) → found ≡ of_state k s)
    found (Ok x) told = λ s was. told k s (λ clean. (was clean).tables)
    found (Err f) told = tt
