-- Reads over a connection one after another, and what is decided by them.
use Rattle.std.proofs.Common.{◌≡◌, ◌⊎◌, ◌≤◌, Bool, true, false, Result, Ok, Err, IsTrue, inl, inr, refl, sym, ◌∙◌, subst, arith}
use Rattle.std.specs.Prelude.{⊤, MatchBool, IfOk}
use Rattle.sqlite_disk.specs.Disk.{MoreFaults}
use Rattle.sqlite.specs.Tree.{Trees}
use Rattle.sqlite.specs.State.{State as Connected, HasCleanDisk, Survives}
use Rattle.up_canon.specs.declared.refusal.Refusal.{Refusal}
use Rattle.up_canon.specs.declared.refusal.Refusal.TheVariants.{Store}
use Rattle.up_sign.specs.Schemes.{Rules}
use Rattle.up_machine.specs.State.{State}
use Rattle.up_rows.specs.StateRows.{rows_of_state}
use Rattle.up_tables.specs.declared.values.StoreFault.{StoreFault}
use Rattle.up_tables.specs.declared.values.StoreFault.TheVariants as fault
use Rattle.up_tables.specs.Stands.{IfClean, IsAsCommitted}
use Rattle.up_tables.specs.Tables.{up_schema}
use Rattle.up_tables.proofs.TransactionLemmas.{stands_kept}
use Rattle.up_store.specs.Connections.{KeepsState}
use Rattle.up_store.specs.Listing.{ListsRows}
use Rattle.up_records.specs.Connected.{DiskFailed, GivesOrFails, IsDueOrFails, Reads, is_fault, refusal_told}

-- ---- reads

pub clean_under : {old new : Connected} → Survives old new (λ _. ⊥) → HasCleanDisk new → HasCleanDisk old
clean_under {old} {new} survives now = let before : HasCleanDisk old = omega (arith, survives.clean) in before

pub clean_before : {old new : Connected} → Reads old new → HasCleanDisk new → HasCleanDisk old
clean_before reads now = clean_under reads.survives now

pub survives_same : (P : Trees → Type 0) (s : Connected) → Survives s s P
survives_same P s = record { clean = omega arith; shield = λ h. h; counts = omega arith; limit = refl; closes = λ clean is_open. inl is_open; crash = λ clean db may. inl may }

pub keeps_after : (k : Rules) (s : State) {old new : Connected} → IfClean (KeepsState s) old → Reads old new → IfClean (KeepsState s) new
keeps_after k s was reads = reads.kept (rows_of_state s) was

-- a fault of the disk behind a read, or one that shut the connection in it
blamed_over : {old mid : Connected} (new : Connected) → Survives old mid (λ _. ⊥) → mid.faults ≤ new.faults → HasCleanDisk mid → (IsTrue mid.is_open → MoreFaults mid.faults new.faults) → IsTrue old.is_open → MoreFaults old.faults new.faults
blamed_over {old} {mid} new first counts clean later is_open = by_closing (first.closes clean is_open)
  where
    by_closing : IsTrue mid.is_open ⊎ MoreFaults old.faults mid.faults → MoreFaults old.faults new.faults
    by_closing (inl still) = let more = later still in omega (arith, first.counts, more)
    by_closing (inr more) = omega (arith, counts, more)

pub failed_behind : {old mid new : Connected} → Survives old mid (λ _. ⊥) → Survives mid new (λ _. ⊥) → HasCleanDisk new → DiskFailed mid new → DiskFailed old new
failed_behind {old} {mid} {new} first second clean failed is_open unlimited =
    blamed_over new first second.counts (clean_under second clean) (λ still. failed still (first.limit ∙ unlimited)) is_open

-- ---- refusals, and `Store`

-- a fault of the store is told as a refusal
pub fault_told : {O : Type 0} {old new : Connected} → Survives old new (λ _. ⊥) → (r : Refusal) (f : StoreFault) (computed : Result O Refusal) → r ≡ refusal_told f → (f ≡ fault.Store → DiskFailed old new) → IsDueOrFails old new r computed
fault_told {old} {new} survives r f computed is blame = subst (λ (q : Refusal). IsDueOrFails old new q computed) (sym is) (by_fault f blame)
  where
    by_fault : (f : StoreFault) → (f ≡ fault.Store → DiskFailed old new) → IsDueOrFails old new (refusal_told f) computed
    by_fault fault.Memory blame = λ store. cc
    by_fault fault.Store blame = λ store. blame refl

due_behind : {O : Type 0} {old mid new : Connected} (r : Refusal) (computed : Result O Refusal) → Survives old mid (λ _. ⊥) → Survives mid new (λ _. ⊥) → HasCleanDisk new → IsDueOrFails mid new r computed → IsDueOrFails old new r computed
due_behind {old} {mid} {new} r computed first second clean h = by_fault (is_fault r) h
  where
    by_fault : (b : Bool) → MatchBool b (r ≡ Store → DiskFailed mid new) (computed ≡ Err r) → MatchBool b (r ≡ Store → DiskFailed old new) (computed ≡ Err r)
    by_fault true h = λ store. failed_behind first second clean (h store)
    by_fault false h = h

-- what is decided behind a read
pub gives_behind : {R O : Type 0} {old mid new : Connected} (gives : Result R Refusal → Result O Refusal → Type 0) (result : Result R Refusal) (computed : Result O Refusal)
    → Survives old mid (λ _. ⊥) → Survives mid new (λ _. ⊥) → HasCleanDisk new → GivesOrFails gives mid new result computed → GivesOrFails gives old new result computed
gives_behind gives (Ok x) computed first second clean h = h
gives_behind gives (Err r) computed first second clean h = due_behind r computed first second clean h

-- ---- a command that writes once

-- a fault of the store is told as a refusal
fault_failed : (f : StoreFault) (X : Type 0) → MatchBool (is_fault (refusal_told f)) ⊤ X
fault_failed fault.Memory X = tt
fault_failed fault.Store X = tt

-- ---- calls of the store

pub store_reads : {old new : Connected} → IfClean (IsAsCommitted old) new → Survives old new (λ _. ⊥) → Reads old new
store_reads {old} {new} kept crash = record {
  kept = λ rows was. stands_kept up_schema (ListsRows rows) old new was before kept;
  same = λ rows was now is_open.
      let left = kept now in
      let was_open = left.was_open is_open in
      (was_open, (left.undone is_open).0 ∙ sym ((was (before now)).committed was_open));
  survives = crash;
}
  where
    before : HasCleanDisk new → HasCleanDisk old
    before now = let it : HasCleanDisk old = omega (arith, crash.clean) in it

pub failed_told : (r : Refusal) (f : StoreFault) (X : Type 0) → r ≡ refusal_told f → MatchBool (is_fault r) ⊤ X
failed_told r f X is = subst (λ q. MatchBool (is_fault q) ⊤ X) (sym is) (fault_failed f X)

pub if_ok_then : {A E : Type 0} (r : Result A E) (P Q : A → Type 0) → IfOk r P → ((x : A) → P x → Q x) → IfOk r Q
if_ok_then (Ok x) P Q h f = f x h
if_ok_then (Err e) P Q h f = tt
