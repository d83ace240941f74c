-- The founding's row is there exactly where the repositories are founded.
use Rattle.std.proofs.Common.{◌≡◌, Bool, Option, Some, None, refl, ◌∙◌}
use Rattle.std.specs.Prelude.{is_some, option_map, ⊤, Result, Ok, Err}
use Rattle.up_canon.specs.Steps.{unless}
use Rattle.up_canon.specs.declared.refusal.Refusal.{Refusal}
use Rattle.up_canon.specs.declared.refusal.Refusal.TheVariants.{NotFounded}
use Rattle.up_metadata.specs.declared.role_files.RoleTexts.{RoleTexts}
use Rattle.up_machine.specs.declared.rows.Founding.{Founding}
use Rattle.up_machine.specs.State.{State, root_number, image_root_number, key_set}
use Rattle.up_machine.specs.Rows.{founding_row}
use Rattle.up_machine.specs.Deciding.{check_founded}

-- what the row says of the check
abbrev pub check_by_row : Option Founding → Result ⊤ Refusal
check_by_row None = Err NotFounded
check_by_row (Some row) = Ok tt

by_files : (f : RoleTexts → Founding) (o : Option RoleTexts) → unless (is_some o) NotFounded ≡ check_by_row (option_map f o)
by_files f None = refl
by_files f (Some files) = refl

-- the row of a founded state
abbrev pub row_of : State → Founding
row_of s = record { root = root_number s; image_root = image_root_number s; keys = key_set s; image_version = s.image_version; targets_version = s.targets_version; stamp = s.stamp }

pub founded_by_row : (s : State) → check_founded s ≡ check_by_row (founding_row s)
founded_by_row s = by_files (λ files. row_of s) s.files

-- what a mark says of the check
abbrev pub check_by : Bool → Result ⊤ Refusal
check_by is_founded = unless is_founded NotFounded

by_mark : (o : Option Founding) → check_by_row o ≡ check_by (is_some o)
by_mark None = refl
by_mark (Some row) = refl

pub founded_by_mark : (s : State) → check_founded s ≡ check_by (is_some (founding_row s))
founded_by_mark s = founded_by_row s ∙ by_mark (founding_row s)
