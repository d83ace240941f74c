-- A database that was taken shows what its tables showed before.
use Rattle.std.proofs.Common.{◌≡◌, inl, inr, ℕ, List, true, false, Option, Result, length, refl, sym, ap, ◌∙◌, subst, arith}
use Rattle.std.specs.Prelude.{◌⊎◌, IsTrue, is_ok}
use Rattle.sqlite_disk.specs.Disk.{MoreFaults}
use Rattle.sqlite.specs.Effect.{Database}
use Rattle.sqlite.specs.Held.{Held}
use Rattle.sqlite.specs.Held as holding
use Rattle.sqlite.specs.Listing.{understood, listing_schema}
use Rattle.sqlite.specs.Schema.{Schema}
use Rattle.sqlite.specs.State.{State as Connected, HasCleanDisk}
use Rattle.sqlite_tied.specs.Compute.{everything}
use Rattle.sqlite_trees.specs.declared.store.Store.{Ghosts}
use Rattle.up_sign.specs.Schemes.{Rules}
use Rattle.up_machine.specs.State.{empty_state}
use Rattle.up_rows.specs.StateRows.{StateRows, no_rows, rows_of_state}
use Rattle.up_tables.specs.Making.{IsTaken}
use Rattle.up_tables.specs.Ours.{NamesVersion, find_meta_text}
use Rattle.up_tables.specs.Stands.{HasNoTables, IsAsCommitted, IsWith}
use Rattle.up_tables.specs.Tables.{no_schema}
use Rattle.up_tables.specs.Versions.{schema_of}
use Rattle.up_tables.specs.declared.open.SchemaVersion.{SchemaVersion}
use Rattle.up_tables.specs.declared.open.SchemaVersion.TheVariants.{One, Two, Three, Four}
use Rattle.up_store.specs.Connections.{KeepsAs, KeepsRows, KeepsState}
use Rattle.up_store.specs.Listing.{ListsRowsAs}
use Rattle.up_file.specs.Adopting.{IsAdopted}
use Rattle.up_file.specs.Schemes.{IsMade, IsTakenFor}
use Rattle.up_records.specs.Standing.{bare}
use Rattle.up_desk.specs.Desks.{DeskView}
use Rattle.up_lines.specs.declared.fault.ScriptFault.{ScriptFault}
use Rattle.up_http.specs.declared.fault.ServeFault.{ServeFault}
use Rattle.up_http.specs.declared.served.Served.{Served}
use Rattle.up_service.specs.Scripts.{RunsScript}
use Rattle.up_service.specs.Streams.{RunsStream}
use Rattle.up_shipped.specs.Shipped.{ScriptsAreRuns, StreamsAreRuns}
use Rattle.up_shipped.specs.Starts.{WasShown, TakenTablesShow, StartsScript, StartsStream}

-- ---- behind a read

-- what was committed is listed as before
keeps_as : (version : SchemaVersion) (rows : StateRows) (old mid : Connected) → IsAsCommitted old mid → KeepsAs version rows old → KeepsAs version rows mid
keeps_as version rows old mid kept was = record {
  mode = kept.mode;
  here = λ is_open.
      let before = kept.was_open is_open in
      subst (λ (d : Database). IsWith (schema_of version) (ListsRowsAs version rows) d) (was.committed before ∙ sym (kept.undone is_open).0) (was.here before);
  committed = λ is_open. let same = kept.undone is_open in same.0 ∙ sym same.1;
}

-- a schema of some version has tables
has_tables : (version : SchemaVersion) → length (schema_of version).tables ≡ length no_schema.tables → ⊥
has_tables One same = cc
has_tables Two same = cc
has_tables Three same = cc
has_tables Four same = cc

-- tables that list rows aren't none
never_none : (mid : Connected) (version : SchemaVersion) (rows : StateRows) → HasNoTables mid → KeepsAs version rows mid → ⊥
never_none mid version rows none listed =
    let same : schema_of version ≡ no_schema = sym (listed.here none.is_open).schema_is ∙ ap (λ (d : Database). d.schema) (listed.committed none.is_open) ∙ none.schema_is in
    has_tables version (ap (λ (s : Schema). length s.tables) same)

-- ---- without tables `meta` names nothing

no_meta : is_ok (understood no_schema find_meta_text) ≡ false
unfolding understood everything listing_schema
no_meta = refl

never_named : (version : SchemaVersion) (mid : Connected) → mid.now.schema ≡ no_schema → NamesVersion version mid → ⊥
unfolding NamesVersion
never_named version mid none names =
    let same : is_ok (understood no_schema find_meta_text) ≡ true = ap (λ (s : Schema). is_ok (understood s find_meta_text)) (sym none) ∙ ap is_ok names.1.is in
    let no = no_meta in
    cc

never_taken : (old mid new : Connected) → IsAsCommitted old mid → HasNoTables old → IsTaken mid new → IsTrue mid.is_open → ⊥
never_taken old mid new kept none (inl latest) is_open = never_named Four mid (ap (λ (d : Database). d.schema) (kept.undone is_open).0 ∙ none.schema_is) latest.0
never_taken old mid new kept none (inr older) is_open = never_named older.0 mid (ap (λ (d : Database). d.schema) (kept.undone is_open).0 ∙ none.schema_is) older.2

-- ---- the law

-- what was adopted or made of a database without tables lists no rows
made_rows : (old mid new : Connected) → IsAsCommitted old mid → HasNoTables old → IsTrue mid.is_open → IsAdopted mid new ⊎ IsMade mid new → KeepsRows no_rows new
made_rows old mid new kept none is_open (inl (inl adopted)) = absurd (never_taken old mid new kept none adopted.0 is_open)
made_rows old mid new kept none is_open (inl (inr made)) = made.2
made_rows old mid new kept none is_open (inr made) = made.made

-- and of one whose tables list rows, these rows
kept_rows : (version : SchemaVersion) (rows : StateRows) (old mid new : Connected) → IsAsCommitted old mid → KeepsAs version rows old → IsAdopted mid new ⊎ IsMade mid new → KeepsRows rows new
kept_rows version rows old mid new kept was (inl (inl adopted)) = adopted.1 version rows (λ clean. keeps_as version rows old mid kept was)
kept_rows version rows old mid new kept was (inl (inr made)) = absurd (never_none mid version rows made.1 (keeps_as version rows old mid kept was))
kept_rows version rows old mid new kept was (inr made) = absurd (never_none mid version rows made.empty (keeps_as version rows old mid kept was))

pub taken_shows : {K D : Type 0} (rules : K → Rules) (g : Ghosts D) → rows_of_state empty_state ≡ no_rows → TakenTablesShow rules g
taken_shows {K} {D} rules g none scheme conn taken is s sound was clean = record {
  tables = by_before was;
  memory = tt;
}
  where
    between : HasCleanDisk (holding.state g is.between)
    between = omega (arith, clean, is.crash.clean)

    before : HasCleanDisk (holding.state g conn)
    before = omega (arith, between, is.read.survives.clean)

    -- no fault shut the connection
    stays_open : HasNoTables (holding.state g conn) → ¬ MoreFaults (holding.state g conn).faults (holding.state g taken).faults → IsTrue (holding.state g is.between).is_open
    stays_open none kept = elim (is.read.survives.closes between none.is_open) [ inl is_open ↦ is_open | inr more ↦ absurd (kept (omega (arith, more, is.crash.counts))) ]

    by_before : WasShown s (holding.state g conn) (holding.state g taken) → KeepsState s (holding.state g taken)
    by_before (inl it) = kept_rows it.0 (rows_of_state s) (holding.state g conn) (holding.state g is.between) (holding.state g taken) (is.read.kept between) (it.1 before) (is.taken clean)
    by_before (inr it) = subst (λ (rows : StateRows). KeepsRows rows (holding.state g taken)) (sym (ap rows_of_state it.0 ∙ none))
        (made_rows (holding.state g conn) (holding.state g is.between) (holding.state g taken) (is.read.kept between) (it.1 before) (stays_open (it.1 before) it.2) (is.taken clean))

-- ---- what is carried out over it

pub starts_script : {K D : Type 0} (rules : K → Rules) (g : Ghosts D) → ScriptsAreRuns rules g → TakenTablesShow rules g → (scheme : K) (conn taken : Held D) (had has held holds : Option (List ℕ)) (result : Result ℕ ScriptFault) (first now : DeskView K D)
    → first ≡ record { scheme = scheme; store = bare taken } → (method : List ℕ) → method ≡ (rules scheme).method → IsTakenFor (holding.state g) method (holding.state g conn) (holding.state g taken)
    → RunsScript rules g had has (record { state = first; held = held }) (record { state = now; held = holds }) result → StartsScript rules g scheme conn had has held holds result now
starts_script {K} {D} rules g law show scheme conn taken had has held holds result first now fresh method named is runs = record {
  taken = taken;
  is_taken = subst (λ (m : List ℕ). IsTakenFor (holding.state g) m (holding.state g conn) (holding.state g taken)) named is;
  ships = λ clean s sound was.
      law had has (record { state = record { scheme = scheme; store = bare taken }; held = held }) (record { state = now; held = holds }) result
      (subst (λ (d : DeskView K D). RunsScript rules g had has (record { state = d; held = held }) (record { state = now; held = holds }) result) fresh runs) clean s sound
      (show scheme conn taken (subst (λ (m : List ℕ). IsTakenFor (holding.state g) m (holding.state g conn) (holding.state g taken)) named is) s sound was);
}

pub starts_stream : {K D : Type 0} (rules : K → Rules) (g : Ghosts D) → StreamsAreRuns rules g → TakenTablesShow rules g → (at : ℕ) (scheme : K) (conn taken : Held D) (had has held holds : Option (List ℕ)) (result : Result Served ServeFault) (first now : DeskView K D)
    → first ≡ record { scheme = scheme; store = bare taken } → (method : List ℕ) → method ≡ (rules scheme).method → IsTakenFor (holding.state g) method (holding.state g conn) (holding.state g taken)
    → RunsStream rules g at had has (record { state = first; held = held }) (record { state = now; held = holds }) result → StartsStream rules g at scheme conn had has held holds result now
starts_stream {K} {D} rules g law show at scheme conn taken had has held holds result first now fresh method named is runs = record {
  taken = taken;
  is_taken = subst (λ (m : List ℕ). IsTakenFor (holding.state g) m (holding.state g conn) (holding.state g taken)) named is;
  ships = λ clean s sound was.
      law at had has (record { state = record { scheme = scheme; store = bare taken }; held = held }) (record { state = now; held = holds }) result
      (subst (λ (d : DeskView K D). RunsStream rules g at had has (record { state = d; held = held }) (record { state = now; held = holds }) result) fresh runs) clean s sound
      (show scheme conn taken (subst (λ (m : List ℕ). IsTakenFor (holding.state g) m (holding.state g conn) (holding.state g taken)) named is) s sound was);
}
