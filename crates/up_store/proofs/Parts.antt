-- Definitions that proofs alone use: no contract says them.
use Rattle.std.specs.FinMap as table
use Rattle.std.specs.Prelude.{Option, Some, option_map, ℕ, ◌++◌}
use Rattle.up_canon.specs.Names.{Name}
use Rattle.up_machine.specs.declared.rows.Founding.{Founding}
use Rattle.up_machine.specs.declared.rows.Kept.{Kept}
use Rattle.up_plan.specs.Images.{ImageData}
use Rattle.up_roles.specs.declared.repository.Repository.TheVariants.{Director, Image}
use Rattle.up_rows.specs.StateRows.{StateRows}
use Rattle.up_store.specs.Lines.{image_lines, kept_line, repository_lines}
use Rattle.up_store.specs.Puts.{with_key_lines, with_numbers}
use Rattle.up_store.specs.Shown.{numbers_told}
use Rattle.up_tables.specs.Listed.{TableRows}
use Rattle.up_tables.specs.Rows.{changed_at, with_row}

-- one more row behind those of its vehicle
abbrev pub with_kept : Kept → TableRows → TableRows
with_kept row rows = record rows { kept = with_row row.vehicle (kept_line row) rows.kept }

-- the greatest counter of an accepted manifest; none of an unknown vehicle
abbrev pub last_found : Name → StateRows → Option ℕ
last_found vehicle rows = option_map (λ v. v.vehicle.last) (table.get rows.vehicles vehicle)

abbrev pub with_founding : Founding → TableRows → TableRows
with_founding f = with_numbers (numbers_told (Some f))

-- those of the founding's root versions
abbrev pub with_keys : Founding → TableRows → TableRows
with_keys f = with_key_lines (repository_lines f.root Director f.keys.director ++ repository_lines f.image_root Image f.keys.image)

-- one more image
abbrev pub with_image_line : ImageData → TableRows → TableRows
with_image_line image rows = record rows { images = changed_at image.file (λ were. were ++ image_lines (Some image)) rows.images }
