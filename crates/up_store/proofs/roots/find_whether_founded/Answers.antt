use Rattle.std.proofs.Common.{ap, rules}
use Rattle.up_store.proofs.Common.{◌==◌, not, state, MetaRow}
use Rattle.up_store.proofs.FoundingReads.{founded_by}
use Rattle.up_store.proofs.roots.find_whether_founded.Goals as goal

pub returns-in-Ok : goal.returns-in-Ok
returns-in-Ok g c inside = record {
  found = λ clean rows within. founded_by rows c.in-Ok.row (state g.D.Store c.args.tx.now.conn.now) ((c.in-Ok.ensures inside).reads clean).was_open within ((c.in-Ok.ensures inside).found clean rows within);
  shown = λ clean has. let told = (c.in-Ok.ensures inside).shown clean has in (told.0, told.1, ap (λ (m : MetaRow). not (m.root == 0)) told.2);
  reads = λ clean. (c.in-Ok.ensures inside).reads clean;
  «open» = search rules;
  blame = λ clean. tt;
  step = search rules;
}
