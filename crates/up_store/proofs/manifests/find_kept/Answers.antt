use Rattle.up_store.proofs.Common.{⊤, state, ok_then}
use Rattle.up_store.proofs.KindsOfKept.{by_sound_statement, holds_kept, kept_found}
use Rattle.up_store.proofs.Written.{open_before}
use Rattle.up_store.proofs.manifests.find_kept.Goals as goal

pub returns : goal.returns
returns g c inside =
    let before = state g.D.Store c.args.tx.now.conn.now in
    let after = state g.D.Store c.kept.new.tx.conn.now in
    let it = rw (c.text.ensures.value, c.get.ensures.value) at (c.kept.ensures inside) in
    record {
      found = λ clean. kept_found c.kept.result c.args.vehicle.now c.args.counter before after (it.found clean) (it.reads clean);
      shown = λ clean. ok_then _ _ c.kept.result (λ read told rows_of has lists. (told rows_of has lists).said) (it.found clean);
      reads = it.reads;
      «open» = λ clean. open_before c.kept.result it.step.steps clean it.step.is_open;
      blame = by_sound_statement (λ _. ⊤) _ before after c.kept.result (λ rows here fits. holds_kept c.args.vehicle.now c.args.counter before rows here) it.blame;
      step = record { same_reference = it.step.same_reference; steps = it.step.steps };
    }
