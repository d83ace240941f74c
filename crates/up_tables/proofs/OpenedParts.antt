-- What a call that makes, takes or raises the tables gives, put together of its parts.
use Rattle.std.proofs.Common.{◌≡◌, ◌≢◌, ◌⊎◌, Bool, false, Result, Ok, Err, OnOk, OnErr, IfOk, IfErr, IsTrue}
use Rattle.sqlite.specs.State.{State, HasCleanDisk}
use Rattle.up_tables.specs.declared.open.OpenFault.{OpenFault}
use Rattle.up_tables.specs.declared.open.OpenFault.TheVariants.{NotOurs, Store}
use Rattle.up_tables.specs.declared.open.SchemaVersion.{SchemaVersion}
use Rattle.up_tables.specs.Lines.{AreNew}
use Rattle.up_tables.specs.Listed.{TableRows, ListsTables}
use Rattle.up_tables.specs.Making.{FailsToMake, FailsToRaise, IsTaken, ShowsRaised, StopsAtOne, raising}
use Rattle.up_tables.specs.Opened.{IsMade, IsRaised, IsUnmade, IsUnraised, IsUntaken, Takes}
use Rattle.up_tables.specs.Ours.{HasFailed, IsHindered, ListsUs, NamesOthers, NamesUs}
use Rattle.up_tables.specs.Stands.{AreWith, HasNoTables, IfClean, IsAsCommitted, LeavesOnly, Stands}
use Rattle.up_tables.specs.Tables.{up_schema}
use Rattle.up_tables.specs.Versions.{StandsAs}

module _ {A : Type 0} (old new : State) where
  pub all_made : (r : Result A OpenFault) → OnOk r (IfClean (Stands up_schema AreNew) new) → OnOk r (IfClean (LeavesOnly (AreWith up_schema AreNew)) new) → (HasCleanDisk new → OnOk r (HasNoTables old))
      → (HasCleanDisk new → OnOk r (IsTrue old.is_open)) → OnOk r (IsMade old new)
  all_made (Ok x) made durable empty opened = record { made = made; durable = durable; empty = empty; «open» = opened }
  all_made (Err e) made durable empty opened = tt

  pub all_unmade : (r : Result A OpenFault) → IfErr r (λ e. e ≢ NotOurs) → (HasCleanDisk new → IfErr r (λ e. e ≡ Store → FailsToMake old new)) → OnErr r (IfClean (IsAsCommitted old) new) → IfErr r (IsUnmade old new)
  all_unmade (Ok x) known cause kept = tt
  all_unmade (Err e) known cause kept = record { known = known; cause = cause; kept = kept }

  pub all_raised : (version : SchemaVersion) (r : Result A OpenFault) → (HasCleanDisk new → OnOk r ((rows : TableRows) → StandsAs version rows old → Stands up_schema (ListsTables rows) new))
      → (HasCleanDisk new → OnOk r (ShowsRaised version old.step_limit old.now new)) → (HasCleanDisk new → OnOk r (IsTrue old.is_open)) → OnOk r (IsRaised version old new)
  all_raised version (Ok x) raised ran opened = record { raised = raised; ran = ran; «open» = opened }
  all_raised version (Err e) raised ran opened = tt

  pub all_unraised : (version : SchemaVersion) (r : Result A OpenFault) → IfErr r (λ e. e ≢ NotOurs)
      → (HasCleanDisk new → IfErr r (λ e. e ≡ Store → HasFailed old new ⊎ StopsAtOne old.step_limit (raising version) old.now)) → OnErr r (IfClean (IsAsCommitted old) new) → IfErr r (IsUnraised version old new)
  all_unraised version (Ok x) known cause kept = tt
  all_unraised version (Err e) known cause kept = record { known = known; cause = cause; kept = kept }

module _ (old new : State) where
  pub all_taken : (r : Result Bool OpenFault) → IfOk r (λ b. IsTrue b → HasCleanDisk new → NamesUs old) → IfOk r (λ b. b ≡ false → HasCleanDisk new → NamesOthers old)
      → IfOk r (λ b. HasCleanDisk new → (version : SchemaVersion) → ListsUs version old → IsTrue b)
      → IfOk r (λ b. IsTrue b → HasCleanDisk new → (version : SchemaVersion) (rows : TableRows) → StandsAs version rows old → Stands up_schema (ListsTables rows) new)
      → IfOk r (λ b. IsTrue b → HasCleanDisk new → IsTaken old new) → IfOk r (λ b. b ≡ false → IfClean (IsAsCommitted old) new) → (HasCleanDisk new → OnOk r (IsTrue old.is_open)) → IfOk r (Takes old new)
  all_taken (Ok b) ours others listed taken ran kept opened = record { ours = ours; others = others; listed = listed; taken = taken; ran = ran; kept = kept; «open» = opened }
  all_taken (Err e) ours others listed taken ran kept opened = tt

  pub all_untaken : (r : Result Bool OpenFault) → IfErr r (λ e. e ≢ NotOurs) → (HasCleanDisk new → IfErr r (λ e. e ≡ Store → IsHindered old new ⊎ FailsToRaise old)) → OnErr r (IfClean (IsAsCommitted old) new) → IfErr r (IsUntaken old new)
  all_untaken (Ok b) known cause kept = tt
  all_untaken (Err e) known cause kept = record { known = known; cause = cause; kept = kept }
