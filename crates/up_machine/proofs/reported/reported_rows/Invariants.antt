use Rattle.std.proofs.Common.{◌≡◌, take, map}
use Rattle.up_machine.specs.ManifestRows.{reported_row}
use Rattle.up_machine.proofs.reported.reported_rows.Given as goal

abbrev pub invariant-loop-row : goal.invariant-loop-row
invariant-loop-row l = l.reported.items ≡ map (reported_row l.reports) (take l.row-index l.rows)
