use Rattle.std.proofs.Common.{map, take}
use Rattle.up_tables.proofs.EcuSets.{SetSoFar}
use Rattle.up_store.proofs.Common.{AllByRecursion, ecu_row, update_ecu_text, KeepsWriting, ecu_lines, IsTypedEcu}
use Rattle.up_store.proofs.ecus.set_ecus.Given as goal

abbrev pub invariant-loop-place : goal.invariant-loop-place
invariant-loop-place g l =
    let rows = ecu_lines l.vehicle 0 l.ecus in
    KeepsWriting g.D.Store (map (λ e. (update_ecu_text, ecu_row e)) rows) (SetSoFar l.vehicle rows) l.place l.fn.tx.conn l.tx.conn × AllByRecursion IsTypedEcu (take l.place l.ecus)
