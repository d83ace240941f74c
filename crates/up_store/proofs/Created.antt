-- From the trees that a connection shows or leaves to the rows that they list.
use Rattle.std.proofs.Common.{inl, inr}
use Rattle.up_store.proofs.Common.{Connected, Survives, Trees, no_rows, Stands, AreWith, HasNoTables, up_schema, MadeIn, ListsRows}

-- what holds of the trees follows from what held
pub stands_as : (P Q : Trees → Type 0) → ((trees : Trees) → P trees → Q trees) → (s : Connected) → Stands up_schema P s → Stands up_schema Q s
stands_as P Q is s stands = record {
  mode = stands.mode;
  here = λ is_open. let here = stands.here is_open in record { schema_is = here.schema_is; sound = here.sound; rows = is _ here.rows };
  committed = stands.committed;
}

pub holds_as : (P Q : Trees → Type 0) → ((trees : Trees) → P trees → Q trees) → (trees : Trees) → AreWith up_schema P trees → AreWith up_schema Q trees
holds_as P Q is trees holds = record { schema_is = holds.schema_is; sound = holds.sound; rows = is trees holds.rows }

-- what was made in a database without tables lists no rows
pub made_as : (P : Trees → Type 0) → ((trees : Trees) → P trees → ListsRows no_rows trees) → (old new : Connected) → Survives old new (λ trees. HasNoTables old × AreWith up_schema P trees) → Survives old new (MadeIn old)
made_as P is old new survives = record {
  clean = survives.clean;
  shield = survives.shield;
  counts = survives.counts;
  limit = survives.limit;
  closes = survives.closes;
  crash = λ clean db may. elim (survives.crash clean db may) [ inl before ↦ inl before | inr made ↦ inr (made.0, holds_as P (ListsRows no_rows) is db made.1) ];
}
