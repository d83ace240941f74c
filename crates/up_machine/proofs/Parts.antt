-- Definitions that proofs alone use: no contract says them.
use Rattle.std.specs.Prelude.{Result, nat_le, ⊤}
use Rattle.up_canon.specs.Steps.{◌>>=◌, refuse_if}
use Rattle.up_canon.specs.declared.refusal.Refusal.{Refusal}
use Rattle.up_canon.specs.declared.refusal.Refusal.TheVariants.{Stale}
use Rattle.up_machine.specs.ManifestRows.{check_reports_of}
use Rattle.up_machine.specs.declared.rows.VehicleRows.{VehicleRows}
use Rattle.up_manifest.specs.declared.manifest.Manifest.{Manifest}
use Rattle.up_sign.specs.Schemes.{Rules}

unfoldable pub check_new_of : Rules → VehicleRows → Manifest → Result ⊤ Refusal
check_new_of k rows manifest = do
  stale ← refuse_if (nat_le manifest.counter rows.vehicle.last) (Stale rows.vehicle.last)
  check_reports_of k rows.ecus manifest.reports
