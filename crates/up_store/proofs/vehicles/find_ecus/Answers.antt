use Rattle.std.proofs.Common.{map, subst, sym, ◌∙◌, rules}
use Rattle.up_store.proofs.Common.{⊤, state, ecu_places, columns_at, EachSays, Tells, each_said, ecu_shown, SaysEcu, IsToldEcu}
use Rattle.up_store.proofs.EcuReads.{ecus_in, holds_ecus}
use Rattle.up_store.proofs.WithinLemmas.{finds_fault}
use Rattle.up_store.proofs.vehicles.find_ecus.Goals as goal

pub returns-in-Ok : goal.returns-in-Ok
returns-in-Ok g c inside =
    let told = rw c.text.ensures.value at (c.in-Ok.ensures inside).found in
    record {
      found = λ clean rows within. c.new.ensures ∙ ecus_in rows c.args.vehicle.now (state g.D.Store c.args.tx.now.conn.now) (state g.D.Store c.ecus.new.tx.conn.now) c.in-Ok.ecus.items ((c.in-Ok.ensures inside).reads clean) (told clean) within;
      shown = λ clean rows_of has lists. let it = told clean rows_of has lists in (it.0, it.1, it.2, subst (EachSays SaysEcu (map (columns_at ecu_places) it.0)) (sym c.new.ensures) (each_said (Tells SaysEcu IsToldEcu ecu_shown) SaysEcu (λ row ecu tells. tells.said) (map (columns_at ecu_places) it.0) c.in-Ok.ecus.items it.3));
      reads = λ clean. (c.in-Ok.ensures inside).reads clean;
      «open» = search rules;
      blame = λ clean. tt;
      step = search rules;
    }

pub returns-in-Err : goal.returns-in-Err
returns-in-Err g c inside =
    finds_fault g.D.Store _ _ (λ _. ⊤) _ _ c.ecus.result c.in-Err.fault _ (λ clean. tt) (λ rows lists fits. holds_ecus c.args.vehicle.now (state g.D.Store c.args.tx.now.conn.now) rows lists) (rw c.text.ensures.value at (c.in-Err.ensures inside).blame) (c.ecus.ensures inside).step
