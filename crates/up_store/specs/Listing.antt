-- When the tables show a state: they list its rows, one clause a table.
use Rattle.std.specs.Prelude.{◌≡◌, ℕ, ◌<◌, List, [], Option, Some, None, map, length, if◌then◌else◌, bytes_eq}
use Rattle.std.specs.FinMap as table
use Rattle.sqlite.specs.Order.{Row}
use Rattle.sqlite.specs.Tree.{Trees}
use Rattle.up_canon.specs.Names.{Name}
use Rattle.up_roles.specs.declared.repository.Repository.TheVariants.{Director, Image}
use Rattle.up_machine.specs.State.{State}
use Rattle.up_machine.specs.declared.rows.Founding.{Founding}
use Rattle.up_rows.specs.StateRows.{StateRows, rows_of_state}
use Rattle.up_rows.specs.Lookups.{text_held}
use Rattle.up_tables.specs.declared.open.SchemaVersion.{SchemaVersion}
use Rattle.up_tables.specs.declared.open.SchemaVersion.TheVariants.{Four}
use Rattle.up_tables.specs.Listed.{TableRows}
use Rattle.up_tables.specs.Versions.{ListsAs}
use Rattle.up_store.specs.Lines.{founding_number, repository_word, founding_lines, file_lines, image_lines, campaign_lines}
use Rattle.up_store.specs.Lines.{vehicle_lines, ecus_lines, kept_line, retired_lines, second_hash, sha512_lines}
use Rattle.up_store.specs.Typed.{AreTyped}

-- the founding is of the last root version of each repository; before it there is none
abbrev pub IsOfLastRoot : Option Founding → List (List ℕ) → List (List ℕ) → Type 0
IsOfLastRoot None director image = (director ≡ []) × (image ≡ [])
IsOfLastRoot (Some f) director image = (0 < f.root) × (f.root ≡ length director) × (0 < f.image_root) × (f.image_root ≡ length image)

-- the text of a repository's file, if that is served
abbrev pub files_lines : StateRows → List ℕ → Name → List Row
files_lines rows word name =
    if bytes_eq (repository_word Director) word then file_lines Director name (text_held rows Director name)
    else if bytes_eq (repository_word Image) word then file_lines Image name (text_held rows Image name)
    else []

-- of the founding, the numbers and the keys of the last root version, in order; of each repository and filename the text that is
-- served, or none; of each image, campaign and vehicle by its name one row, or none; of each image's second hash one row, or none; of
-- each vehicle its ECUs in inventory order, its accepted manifests in the order of acceptance, and its replaced ECUs in the order of
-- their replacement. No vehicle is shut out.
abbrev pub table_rows : StateRows → TableRows
table_rows rows = record {
  root = founding_number (λ f. f.root) rows.founding;
  image_version = founding_number (λ f. f.image_version) rows.founding;
  stamp = founding_number (λ f. f.stamp) rows.founding;
  image_root = founding_number (λ f. f.image_root) rows.founding;
  targets_version = founding_number (λ f. f.targets_version) rows.founding;
  role_keys = founding_lines rows.founding;
  files = files_lines rows;
  images = λ name. image_lines (table.get rows.images name);
  campaigns = λ name. campaign_lines (table.get rows.campaigns name);
  vehicles = λ name. vehicle_lines (table.get rows.vehicles name);
  ecus = λ name. ecus_lines name (table.get rows.vehicles name);
  kept = λ name. map kept_line (rows.kept name);
  retired = λ name. retired_lines name (rows.retired name);
  sha512s = λ name. sha512_lines name (second_hash (table.get rows.images name));
  shut_out = λ name. [];
}

-- the tables of a version of the schema list the rows of a state
pub record ListsRowsAs (version : SchemaVersion) (rows : StateRows) (trees : Trees) : Type 0 where
  pub last : IsOfLastRoot rows.founding rows.director rows.image
  pub typed : AreTyped rows
  pub tables : ListsAs version (table_rows rows) trees

-- so do those of this product's
abbrev pub ListsRows : StateRows → Trees → Type 0
ListsRows rows trees = ListsRowsAs Four rows trees

-- the tables show the state: they list its rows
abbrev pub ShowsState : State → Trees → Type 0
ShowsState s = ListsRows (rows_of_state s)
