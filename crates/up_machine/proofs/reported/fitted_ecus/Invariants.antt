use Rattle.std.proofs.Common.{◌≡◌, take}
use Rattle.up_machine.specs.ManifestRows.{fitted_in}
use Rattle.up_machine.proofs.reported.fitted_ecus.Given as goal

abbrev pub invariant-loop-row : goal.invariant-loop-row
invariant-loop-row l = l.fitted.items ≡ fitted_in l.reports (take l.row-index l.rows)
