use Rattle.up_tables.specs.Ecus.{line}
use Rattle.up_tables.proofs.EcuLines.{line_kept}
use Rattle.up_tables.proofs.EcuSets.{sets_in}
use Rattle.up_tables.proofs.EcuUpdate.{update_ecu_writes}
use Rattle.up_tables.proofs.StoredLemmas.{written}
use Rattle.up_tables.proofs.ecu.update_ecu.Goals as goal

pub returns : goal.returns
returns g c =
    let a = c.args in
    let e = line a.vehicle.now a.place a.row.now in
    written g.S.Store _ _ _ _ _ _ c.write.result (update_ecu_writes e) (λ h. h) (λ w survives inside runs. sets_in w _ _ e (line_kept a.vehicle.now a.place a.row.now) survives inside runs) (rw c.values_of.ensures at c.write.ensures)
