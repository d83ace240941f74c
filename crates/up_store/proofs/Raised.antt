-- A database that is taken: from the rows of its tables to those of a state.
use Rattle.std.proofs.Common.{◌≡◌, inl, inr, Bool, true, false, Result, Ok, Err, IfOk, IfErr, IsTrue, subst}
use Rattle.up_tables.specs.declared.open.SchemaVersion.{SchemaVersion}
use Rattle.up_tables.specs.Making.{RaisesTo}
use Rattle.up_tables.specs.Versions.{StandsAs}
use Rattle.up_tables.proofs.RaisedLemmas.{stands_us}
use Rattle.up_store.proofs.Common.{Connected, Survives, StateRows, ListsTables, Raised, ListsUs, Stands, up_schema, KeepsAs, KeepsRows, RaisedRows, table_rows}

-- the tables alone
pub tables_of : (version : SchemaVersion) (rows : StateRows) (s : Connected) → KeepsAs version rows s → StandsAs version (table_rows rows) s
tables_of version rows s keeps = record {
  mode = keeps.mode;
  here = λ is_open. let here = keeps.here is_open in record { schema_is = here.schema_is; sound = here.sound; rows = here.rows.tables };
  committed = keeps.committed;
}

-- what is said of the rows beside the tables goes from one connection to another
pub rows_again : (version : SchemaVersion) (rows : StateRows) (old new : Connected) → IsTrue old.is_open → KeepsAs version rows old → Stands up_schema (ListsTables (table_rows rows)) new → KeepsRows rows new
rows_again version rows old new is_open was now =
    let were = (was.here is_open).rows in record {
      mode = now.mode;
      here = λ open_now. let here = now.here open_now in record { schema_is = here.schema_is; sound = here.sound; rows = record { last = were.last; typed = were.typed; tables = here.rows } };
      committed = now.committed;
    }

pub raised_rows : (old new : Connected) → Survives old new (λ trees. Raised old trees × RaisesTo old trees) → Survives old new (λ trees. RaisedRows old trees × RaisesTo old trees)
raised_rows old new survives = record {
  clean = survives.clean;
  shield = survives.shield;
  counts = survives.counts;
  limit = survives.limit;
  closes = survives.closes;
  crash = λ clean db may. elim (survives.crash clean db may) [
    | inl before ↦ inl before
    | inr made ↦ inr (
      λ version rows was.
          let told = made.0.1 version (table_rows rows) (tables_of version rows old was) in
          let were = (was.here made.0.0).rows in
          let held = told.1 in
          (told.0, record { schema_is = held.schema_is; sound = held.sound; rows = record { last = were.last; typed = were.typed; tables = held.rows } }),
      made.1,
    )
  ];
}

pub ours : (version : SchemaVersion) (rows : StateRows) (s : Connected) → KeepsAs version rows s → ListsUs version s
ours version rows s keeps = stands_us version (table_rows rows) s (tables_of version rows s keeps)

-- ---- what was said of the answer, whichever it was

pub took_true : {E : Type 0} (P : Bool → Type 0) (took : Result Bool E) → took ≡ Ok true → IfOk took P → P true
took_true P took is h = subst (λ r. IfOk r P) is h

pub took_false : {E : Type 0} (P : Bool → Type 0) (took : Result Bool E) → took ≡ Ok false → IfOk took P → P false
took_false P took is h = subst (λ r. IfOk r P) is h

pub took_fault : {E : Type 0} (P : E → Type 0) (took : Result Bool E) (e : E) → took ≡ Err e → IfErr took P → P e
took_fault P took e is h = subst (λ r. IfErr r P) is h
