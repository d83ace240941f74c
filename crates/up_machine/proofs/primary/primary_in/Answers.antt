use Rattle.std.proofs.Common.{◌≡◌, Some, None, sym, ap, ap₂, ◌∙◌}
use Rattle.std.specs.Prelude.{option_copied}
use Rattle.up_machine.specs.ManifestRows.{row_of}
use Rattle.up_machine.proofs.Primaries.{found_in_rows, none_in_rows, primary_with}
use Rattle.up_machine.proofs.primary.primary_in.Goals as goal

pub returns-in_default : goal.returns-in_default
returns-in_default c = λ s name is.
    let rows = c.args.rows.now in
    let none : row_of rows.ecus rows.vehicle.primary ≡ None = ap (λ es. row_of es rows.vehicle.primary) (sym c.as_slice.ensures) ∙ sym c.row_of.ensures ∙ ap option_copied c.in_default.is in
    none_in_rows s name rows is none

pub returns : goal.returns
returns c = λ s name is.
    let rows = c.args.rows.now in
    let found : row_of rows.ecus rows.vehicle.primary ≡ Some c.in-Some.row.now = ap (λ es. row_of es rows.vehicle.primary) (sym c.as_slice.ensures) ∙ sym c.row_of.ensures ∙ ap option_copied c.in-Some.is in
    ap₂ (λ ecu public. Some (primary_with ecu public)) c.in_ok-copy.ensures c.in_ok-copy-2.ensures ∙ found_in_rows s name rows c.in-Some.row.now is found
