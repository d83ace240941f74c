-- Definitions that proofs alone use: no contract says them.
use Rattle.sqlite.specs.Cast.{cast}
use Rattle.sqlite.specs.Edit.{with_rowid}
use Rattle.sqlite.specs.Effect.{Database, IsDatabase}
use Rattle.sqlite.specs.Kind.TheVariants as kind
use Rattle.sqlite.specs.Order.{Row}
use Rattle.sqlite.specs.Rowids.TheVariants.{Chosen}
use Rattle.sqlite.specs.Schema.{Schema}
use Rattle.sqlite.specs.Table.{Table}
use Rattle.sqlite.specs.Tree.{put_row, without_rowid}
use Rattle.sqlite.specs.declared.types.Value.TheVariants.{Int}
use Rattle.std.specs.List.{AllByRecursion}
use Rattle.std.specs.Prelude.{List, [], drop, map, pos, suc, take, ℕ, ℤ, ◌++◌, ◌∷◌, ◌≡◌, ◌≢◌}
use Rattle.up_tables.specs.Lines.{EcuLine, ecu_row}
use Rattle.up_tables.specs.Listed.{TableRows}
use Rattle.up_tables.specs.Rows.{changed_at}

-- the table has the row, under the next rowid where it has none; the other tables are as they were
pub record Inserts (schema : Schema) (table : Table) (row : Row) (old new : Database) : Type 0 where
  pub schema_is : new.schema ≡ schema
  pub sound : IsDatabase new
  pub rows : new.trees table.tree ≡ put_row (with_rowid Chosen (old.trees table.tree) row) (old.trees table.tree)
  pub others : AllByRecursion (λ t. t.tree ≢ table.tree → new.trees t.tree ≡ old.trees t.tree) schema.tables

-- its columns are of their kinds, or null
pub record IsKept (e : EcuLine) : Type 0 where
  pub file : cast kind.Text e.file ≡ e.file
  pub size : cast kind.Integer e.size ≡ e.size
  pub hash : cast kind.Blob e.hash ≡ e.hash
  pub report : cast kind.Text e.report ≡ e.report

-- ECUs of the vehicle, in order of their places, which count from this one on
abbrev pub AreInPlace : List ℕ → ℕ → List EcuLine → Type 0
AreInPlace vehicle place [] = Unit {0}
AreInPlace vehicle place (e ∷ es) = (e.vehicle ≡ vehicle) × (e.place ≡ pos place) × AreInPlace vehicle (suc place) es

-- the rows after a vehicle's first ECUs are set
abbrev pub set_first : List ℕ → List EcuLine → List EcuLine → ℕ → (List ℕ → List Row) → List ℕ → List Row
set_first vehicle es olds i = changed_at vehicle (λ _. map ecu_row (take i es ++ drop i olds))

-- nothing is founded, and no table but `meta` has a row
abbrev pub no_table_rows : TableRows
no_table_rows = record {
  root = 0;
  image_version = 0;
  stamp = 0;
  role_keys = [];
  files = λ repository name. [];
  images = λ name. [];
  campaigns = λ name. [];
  vehicles = λ name. [];
  ecus = λ vehicle. [];
  kept = λ vehicle. [];
  retired = λ vehicle. [];
  sha512s = λ file. [];
  image_root = 0;
  targets_version = 0;
  shut_out = λ vehicle. [];
}

-- the table has this row under the rowid; its other rows and the other tables are as they were
pub record Rewrites (schema : Schema) (table : Table) (id : ℤ) (row : Row) (old new : Database) : Type 0 where
  pub schema_is : new.schema ≡ schema
  pub sound : IsDatabase new
  pub rows : new.trees table.tree ≡ put_row (Int id ∷ row) (without_rowid id (old.trees table.tree))
  pub others : AllByRecursion (λ t. t.tree ≢ table.tree → new.trees t.tree ≡ old.trees t.tree) schema.tables
