use Rattle.std.proofs.Common.{Err, List, Some, ap, refl, sym, ◌∙◌, map}
use Rattle.std.specs.Prelude.{option_map}
use Rattle.up_machine.specs.declared.rows.EcuRow.{EcuRow}
use Rattle.up_machine.specs.declared.rows.VehicleRows.{VehicleRows}
use Rattle.up_records.proofs.Reading.{if_ok_then}
use Rattle.up_records.proofs.Sessions.{all_on, lost_on, made_on, none_on, then_on}
use Rattle.up_records.proofs.Told.{ecus_read}
use Rattle.up_records.proofs.Viewing.{dropped_finds}
use Rattle.up_records.proofs.views.ecus_of.Goals as goal

pub returns-in-Ok-Some : goal.returns-in-Ok-Some
returns-in-Ok-Some g c =
    dropped_finds g.D.Store _ _ c.drop-tx.new.self.0 _ c.store.view_is c.transaction-tx.ensures.begun c.drop-tx.ensures.undone c.drop-tx.ensures.survives c.some_names.result (λ inside.
    made_on g.D.Store (then_on g.D.Store (none_on g.D.Store inside) c.in-Ok-Some.ensures) _ c.some_names.result c.some_names.ensures.memory
    (if_ok_then c.some_names.result _ _ c.some_names.ensures.made (λ found made. λ k of s is.
    made ∙ ap (λ (rows : List EcuRow). Some (map (λ (row : EcuRow). row.ecu) rows)) c.as_slice.ensures ∙ ap (option_map (λ (v : VehicleRows). map (λ (row : EcuRow). row.ecu) v.ecus)) (sym c.in-Ok-Some.field-0-is ∙ is.1)
    ∙ ecus_read s c.args.vehicle.now c.rows_are_found.ensures.vehicles c.views_are_told.ensures.ecus)))

pub returns-in-Ok-None : goal.returns-in-Ok-None
returns-in-Ok-None g c =
    dropped_finds g.D.Store _ _ c.drop-tx-in-Ok-None.new.self.0 _ c.store.view_is c.transaction-tx.ensures.begun c.drop-tx-in-Ok-None.ensures.undone c.drop-tx-in-Ok-None.ensures.survives _ (λ inside.
    all_on g.D.Store (then_on g.D.Store (none_on g.D.Store inside) c.in-Ok-None.ensures) _ _ (λ k of s is.
    ap (option_map (λ (v : VehicleRows). map (λ (row : EcuRow). row.ecu) v.ecus)) (sym c.in-Ok-None.field-0-is ∙ is.1)
    ∙ ecus_read s c.args.vehicle.now c.rows_are_found.ensures.vehicles c.views_are_told.ensures.ecus))

pub returns : goal.returns
returns g c = dropped_finds g.D.Store _ _ c.drop-tx-2.new.self.0 _ c.store.view_is c.transaction-tx.ensures.begun c.drop-tx-2.ensures.undone c.drop-tx-2.ensures.survives _ (λ inside. lost_on g.D.Store (none_on g.D.Store inside) _ (Err c.in-Err.fault) refl c.in-Err.ensures)
