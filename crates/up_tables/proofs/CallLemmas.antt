-- What a call of one statement leaves in a transaction, whatever it answers.
use Rattle.std.proofs.Common.{◌≡◌, ◌∙◌, ◌⊎◌, ℕ, List, IfOk, IfErr, OnOk, Result, IsTrue, arith}
use Rattle.std.specs.Result.{IsOk, IsOkAnd}
use Rattle.sqlite.specs.declared.error.Error.{Error}
use Rattle.sqlite.specs.Order.{Row}
use Rattle.sqlite.specs.State.{State, HasCleanDisk, Survives, ExecutesInside, Shown, FailsToQuery, IsTooLate}
use Rattle.up_tables.specs.Stands.{IfClean, IsInside, IsOpen, Reads, Steps}
use Rattle.up_tables.specs.declared.values.StoreFault.{StoreFault}
use Rattle.up_tables.proofs.CommandLemmas.{IsRowAsked}
use Rattle.up_tables.proofs.StateLemmas.{on_done, on_read, reads_in, inside_after, open_after, shown_inside, shown_is_open}
use Rattle.up_tables.proofs.StepLemmas.{queries, executes, steps_then}

-- ---- a query that writes nothing

pub record IsRead {T : Type 0} (old new : State) (r : Result T StoreFault) : Type 0 where
  pub reads : HasCleanDisk new → OnOk r (Reads old new)
  pub inside : OnOk r (IfClean IsInside new)
  pub opened : OnOk r (IfClean IsOpen new)
  pub steps : Steps old new

pub is_read : {X T : Type 0} (items : X → List Row) (sql : List ℕ) (params : Row) (old new : State) (answer : Result X Error) (r : Result T StoreFault) (Q : T → X → Type 0) → IsRowAsked sql
    → IfOk r (λ found. IsOkAnd answer (Q found)) → IfClean IsInside old → Survives old new (λ _. ⊥) → (HasCleanDisk new → IfOk answer (λ v. Shown sql params old new (items v)))
    → (HasCleanDisk new → IfErr answer (λ e. FailsToQuery sql params old new e ⊎ IsTooLate sql params old new e)) → IsRead old new r
is_read items sql params old new answer r Q asks h inside survives ok err = record {
  reads = λ clean. reads_in items sql params old new answer r Q asks h (ok clean);
  inside = on_read _ Q answer r h (shown_inside items sql params old new answer survives inside ok);
  opened = on_read _ Q answer r h (shown_is_open items sql params old new answer ok);
  steps = queries items sql params old new answer inside survives ok err;
}

-- ---- a statement that writes, told by `done`

pub record IsWritten {T : Type 0} (P : Type 0) (old new : State) (r : Result T StoreFault) : Type 0 where
  pub told : HasCleanDisk new → OnOk r P
  pub inside : OnOk r (IfClean IsInside new)
  pub opened : OnOk r (IfClean IsOpen new)
  pub steps : Steps old new

pub is_written : {T : Type 0} (sql : List ℕ) (params : Row) (old new : State) (written : Result ℕ Error) (r : Result T StoreFault) (P : Type 0) → OnOk r (IsOk written) → IfClean IsInside old → Survives old new (λ _. ⊥)
    → (HasCleanDisk new → IsTrue old.in_transaction → ExecutesInside 0 sql params old new written) → (HasCleanDisk new → OnOk written P) → IsWritten P old new r
is_written sql params old new written r P h inside survives ran does = record {
  told = λ clean. on_done P written r h (does clean);
  inside = on_done _ written r h (inside_after sql params old new written survives inside ran);
  opened = on_done _ written r h (open_after sql params old new written survives inside ran);
  steps = executes sql params old new written inside survives ran;
}

-- ---- one call after another

-- after some calls the transaction goes on, and a crash leaves what it could leave before
pub record GoOn (old now : State) : Type 0 where
  pub inside : IfClean IsInside now
  pub opened : IfClean IsOpen now
  pub steps : Steps old now

pub go_on : (old mid new : State) → GoOn old mid → IfClean IsInside new → IfClean IsOpen new → Steps mid new → GoOn old new
go_on old mid new on inside opened steps = record { inside = inside; opened = opened; steps = steps_then old mid new on.steps steps }

-- the disk was clean before a step, too
pub clean_before : (old new : State) → Steps old new → HasCleanDisk new → HasCleanDisk old
clean_before old new steps clean = omega (arith, steps.survives.clean)

-- what a loop of such calls keeps: the connection has its name, and once the disk is clean, P holds of the states before the loop and now
pub record KeepsOn {N : Type 0} (P : State → State → Type 0) (was is : N) (old now : State) : Type 0 where
  pub same_reference : is ≡ was
  pub on : GoOn old now
  pub written : HasCleanDisk now → P old now

pub keeps_on : {N : Type 0} (P Q : State → State → Type 0) (was mid_is is : N) (old mid new : State) → KeepsOn P was mid_is old mid → is ≡ mid_is → IfClean IsInside new → IfClean IsOpen new → Steps mid new
    → (HasCleanDisk new → P old mid → Q old new) → KeepsOn Q was is old new
keeps_on P Q was mid_is is old mid new so_far same inside opened steps next = record {
  same_reference = same ∙ so_far.same_reference;
  on = go_on old mid new so_far.on inside opened steps;
  written = λ clean. next clean (so_far.written (clean_before mid new steps clean));
}
