use Rattle.std.proofs.Common.{◌≡◌, map, take}
use Rattle.std.specs.Prelude.{⊤}
use Rattle.up_machine.specs.declared.vehicle.NewEcu.{NewEcu}
use Rattle.up_machine.specs.State.{is_taken}
use Rattle.up_tables.specs.Statements.{WhereInside}
use Rattle.up_records.proofs.Sessions.{Chain}
use Rattle.up_desk.proofs.inventory.taken_marks.Given as goal

-- the ECUs so far are marked
abbrev pub invariant-loop-ecu : goal.invariant-loop-ecu
invariant-loop-ecu g l = WhereInside g.D.Store l.fn.tx.conn
    (Chain g.D.Store (λ _. ⊤) l.fn.tx.conn (λ _ s. l.marks.items ≡ map (λ (e : NewEcu). is_taken s e.ecu) (take l.ecu-index l.ecus)) l.tx.conn)
