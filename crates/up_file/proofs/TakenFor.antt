-- A database that is taken for a scheme, or refused, behind a read that changed nothing.
use Rattle.std.specs.Prelude.{◌⊎◌}
use Rattle.std.proofs.Common.{◌≡◌, ℕ, List, true, false, inl, inr, Ok, Err, Result, IfOk, IfErr, length, refl, sym, ap, ◌∙◌, arith}
use Rattle.sqlite.specs.State.{State, HasCleanDisk, Survives}
use Rattle.sqlite.specs.Effect.{Database}
use Rattle.sqlite.specs.Schema.{Schema}
use Rattle.sqlite.specs.Tree.{Trees}
use Rattle.up_tables.specs.Tables.{no_schema}
use Rattle.up_tables.specs.declared.open.OpenFault.{OpenFault}
use Rattle.up_tables.specs.declared.open.OpenFault.TheVariants.{NotOurs, Store}
use Rattle.up_tables.specs.declared.open.SchemaVersion.{SchemaVersion}
use Rattle.up_tables.specs.declared.open.SchemaVersion.TheVariants.{One, Two, Three, Four}
use Rattle.up_tables.specs.Versions.{schema_of}
use Rattle.up_tables.specs.Making.{FailsToMake}
use Rattle.up_tables.specs.Stands.{IfClean, IsAsCommitted, HasNoTables}
use Rattle.up_rows.specs.StateRows.{StateRows}
use Rattle.up_store.specs.Connections.{KeepsAs, MadeIn}
use Rattle.up_store.specs.Opening.{Creates, FailsToCreate}
use Rattle.up_file.specs.Adopting.{AdoptedIn, FailsToTake, RefusesDatabase, TakesDatabase}
use Rattle.up_file.specs.Schemes.{IsRead, IsRefused, IsTakenFor, TellKeys}
use Rattle.up_file.proofs.AsBefore.{as_before}

-- what a crash leaves of tables that are made, it leaves of a database that is taken
made_taken : (old new : State) → Survives old new (MadeIn old) → Survives old new (AdoptedIn old)
made_taken old new h = record {
  clean = h.clean;
  shield = h.shield;
  counts = h.counts;
  limit = h.limit;
  closes = h.closes;
  crash = λ clean db may. elim (h.crash clean db may) [ inl was ↦ inl was | inr made ↦ inr (inr made) ];
}

-- a schema of some version has tables
has_tables : (version : SchemaVersion) → length (schema_of version).tables ≡ length no_schema.tables → ⊥
has_tables One same = cc
has_tables Two same = cc
has_tables Three same = cc
has_tables Four same = cc

-- tables that list rows aren't none
never_none : (old mid : State) (version : SchemaVersion) (rows : StateRows) → IsAsCommitted old mid → HasNoTables mid → KeepsAs version rows old → ⊥
never_none old mid version rows kept none listed =
    let was = kept.was_open none.is_open in
    let same : schema_of version ≡ no_schema = sym (listed.here was).schema_is ∙ ap (λ (d : Database). d.schema) (listed.committed was) ∙ sym (ap (λ (d : Database). d.schema) (kept.undone none.is_open).1) ∙ none.schema_is in
    has_tables version (ap (λ (s : Schema). length s.tables) same)

-- ---- behind a read, what was told of adopting or making

module _ {A C : Type 0} (of_conn : C → State) (shown : A → State) (method : List ℕ) (old : State) (mid : C) (read : IsRead old (of_conn mid)) where
  -- where all keys are of the method
  pub taken_ok : (r : Result A (C × OpenFault)) → (HasCleanDisk (of_conn mid) → TellKeys method true old) → IfOk r (λ x. TakesDatabase (of_conn mid) (shown x))
      → IfOk r (λ x. IsTakenFor of_conn method old (shown x))
  taken_ok (Ok x) keys took = record {
    between = mid;
    read = read;
    taken = λ clean. inl (took.taken clean);
    crash = took.crash;
    keys = λ clean. keys (omega (arith, clean, took.crash.clean));
  }
  taken_ok (Err e) keys took = tt

  -- where the Root couldn't be read, and tables were made
  pub made_ok : (r : Result A (C × OpenFault)) → IfOk r (λ x. Creates (of_conn mid) (shown x)) → IfOk r (λ x. IsTakenFor of_conn method old (shown x))
  made_ok (Ok x) made = record {
    between = mid;
    read = read;
    taken = λ clean. inr (record { empty = made.empty clean; made = made.made clean; durable = made.durable clean });
    crash = made_taken (of_conn mid) (shown x) made.crash;
    keys = λ clean version rows listed.
        let between : HasCleanDisk (of_conn mid) = omega (arith, clean, made.crash.clean) in
        let before : HasCleanDisk old = omega (arith, between, read.survives.clean) in
        absurd (never_none old (of_conn mid) version rows (read.kept between) (made.empty clean) (listed before));
  }
  made_ok (Err e) made = tt

  refused : (new : State) (fault : OpenFault) → (fault ≡ Store → HasCleanDisk new → FailsToTake (of_conn mid) new ⊎ FailsToMake (of_conn mid) new) → IfClean (IsAsCommitted (of_conn mid)) new
      → new.in_transaction ≡ false → Survives (of_conn mid) new (AdoptedIn (of_conn mid)) → IsRefused of_conn old new fault
  refused new fault cause kept mode crash = record {
    between = mid;
    cause = cause;
    read = read;
    crash = crash;
    kept = λ clean. as_before old (of_conn mid) new (read.kept (omega (arith, clean, crash.clean))) (kept clean);
    mode = mode;
  }

  pub taken_err : (r : Result A (C × OpenFault)) → IfErr r (λ e. RefusesDatabase (of_conn mid) (of_conn e.0) e.1) → IfErr r (λ e. IsRefused of_conn old (of_conn e.0) e.1)
  taken_err (Ok x) told = tt
  taken_err (Err e) told = refused (of_conn e.0) e.1 (λ is clean. inl (told.cause is clean)) told.kept told.mode told.crash

  pub made_err : (r : Result A (C × OpenFault)) → IfErr r (λ e. FailsToCreate (of_conn mid) (of_conn e.0) e.1) → IfErr r (λ e. IsRefused of_conn old (of_conn e.0) e.1)
  made_err (Ok x) told = tt
  made_err (Err e) told = refused (of_conn e.0) e.1 (λ is clean. inr (told.cause is clean)) told.kept told.mode (made_taken (of_conn mid) (of_conn e.0) told.crash)

-- ---- what comes back without a further step

same : (s : State) (Q : Trees → Type 0) → Survives s s Q
same s Q = record {
  clean = omega (arith);
  shield = λ shielded. shielded;
  counts = omega (arith);
  limit = refl;
  closes = λ clean is_open. inl is_open;
  crash = λ clean db may. inl may;
}

pub refused_at : {C : Type 0} (of_conn : C → State) (old : State) (mid : C) (fault : OpenFault) → (fault ≡ Store → ⊥) → IsRead old (of_conn mid) → IsRefused of_conn old (of_conn mid) fault
refused_at of_conn old mid fault other read = record {
  between = mid;
  cause = λ is clean. absurd (other is);
  read = read;
  crash = same (of_conn mid) (AdoptedIn (of_conn mid));
  kept = read.kept;
  mode = read.mode;
}

-- ---- what is never told as another product's is never told as another scheme's

module _ {A C : Type 0} (of_conn : C → State) (old : State) (P : C × OpenFault → Type 0) where
  pub taken_ours : (r : Result A (C × OpenFault)) → IfErr r (λ e. RefusesDatabase old (of_conn e.0) e.1) → IfErr r (λ e. e.1 ≡ NotOurs → P e)
  taken_ours (Ok x) told = tt
  taken_ours (Err e) told = λ is. absurd (told.known is)

  pub made_ours : (r : Result A (C × OpenFault)) → IfErr r (λ e. FailsToCreate old (of_conn e.0) e.1) → IfErr r (λ e. e.1 ≡ NotOurs → P e)
  made_ours (Ok x) told = tt
  made_ours (Err e) told = λ is. absurd (told.known is)
