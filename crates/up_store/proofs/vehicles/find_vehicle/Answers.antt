use Rattle.up_store.proofs.Common.{⊤, state, ok_then}
use Rattle.up_store.proofs.KindsOfKept.{by_sound_statement}
use Rattle.up_store.proofs.VehicleReads.{holds_vehicle, vehicle_told}
use Rattle.up_store.proofs.Written.{open_before}
use Rattle.up_store.proofs.vehicles.find_vehicle.Goals as goal

pub returns : goal.returns
returns g c inside =
    let before = state g.D.Store c.args.tx.now.conn.now in
    let after = state g.D.Store c.vehicle.new.tx.conn.now in
    let it = rw c.text.ensures.value at (c.vehicle.ensures inside) in
    record {
      found = λ clean. vehicle_told c.vehicle.result c.args.vehicle.now before after (it.found clean) (it.reads clean);
      shown = λ clean. ok_then _ _ c.vehicle.result (λ read told rows_of has lists. (told rows_of has lists).said) (it.found clean);
      reads = it.reads;
      «open» = λ clean. open_before c.vehicle.result it.step.steps clean it.step.is_open;
      blame = by_sound_statement (λ _. ⊤) _ before after c.vehicle.result (λ rows here fits. holds_vehicle c.args.vehicle.now before rows here.rows) it.blame;
      step = record { same_reference = it.step.same_reference; steps = it.step.steps };
    }
