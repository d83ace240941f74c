-- Whose tables they are, as the rows of `meta` have it.
use Rattle.std.specs.Prelude.{◌≡◌, pos, [], ◌∷◌, codes, filter, IsTrue}
use Rattle.sqlite.specs.declared.types.Value.TheVariants.{Int, Text}
use Rattle.sqlite.specs.Order.{Row, column}
use Rattle.sqlite.specs.State.{State}
use Rattle.sqlite.specs.Tree.{Trees}
use Rattle.up_tables.specs.declared.open.SchemaVersion.{SchemaVersion}
use Rattle.up_tables.specs.Tables.{meta_table}
use Rattle.up_tables.specs.Rows.{has_number}
use Rattle.up_tables.specs.Versions.{number_of, schema_of}
use Rattle.up_tables.specs.Ours.{NamesVersion, NamesOthers}

-- a connection that is open, over the tables of some version of this product, whatever rows they have
pub record HasOurTables (s : State) : Type 0 where
  pub is_open : IsTrue s.is_open
  pub version : SchemaVersion
  pub schema_is : s.now.schema ≡ schema_of version

-- the rows of `meta` with the id 1 are one row, with the name of this product and the number of this version of its schema
pub record RowNames (version : SchemaVersion) (trees : Trees) : Type 0 where
  pub row : Row
  pub only : filter (has_number 0 (pos 1)) (trees meta_table.tree) ≡ row ∷ []
  pub app : column row 2 ≡ Text (codes "uptane_desk")
  pub schema : column row 3 ≡ Int (pos (number_of version))

-- that row names no version of this product's schema
abbrev pub RowNamesNone : Trees → Type 0
RowNamesNone trees = (version : SchemaVersion) → ¬ RowNames version trees

-- what `meta` is said to name is what the row names, and the other way round
abbrev pub VersionsAreInTheRow : State → Type 0
VersionsAreInTheRow s = HasOurTables s → (version : SchemaVersion) → NamesVersion version s → RowNames version s.now.trees

abbrev pub TheRowNamesVersions : State → Type 0
TheRowNamesVersions s = HasOurTables s → (version : SchemaVersion) → RowNames version s.now.trees → NamesVersion version s

-- `meta` is said to name another product where the row names no version, and nowhere else
abbrev pub OthersHaveNoSuchRow : State → Type 0
OthersHaveNoSuchRow s = HasOurTables s → NamesOthers s → RowNamesNone s.now.trees

abbrev pub NoSuchRowIsOfOthers : State → Type 0
NoSuchRowIsOfOthers s = HasOurTables s → RowNamesNone s.now.trees → NamesOthers s
