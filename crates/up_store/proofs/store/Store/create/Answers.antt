use Rattle.std.proofs.Common.{rules}
use Rattle.up_store.proofs.Common.{state, no_rows, AreNew, ListsRows}
use Rattle.up_store.proofs.NewTables.{new_lists}
use Rattle.up_store.proofs.Created.{stands_as, holds_as, made_as}
use Rattle.up_store.proofs.store.Store.create.Goals as goal

pub returns-in-Ok-clause-made : goal.returns-in-Ok-clause-made
returns-in-Ok-clause-made g c =
    let it = c.in-Ok.ensures.made in
    record {
      made = λ clean. stands_as AreNew (ListsRows no_rows) new_lists (state g.D.Store c.create_tables.new.conn) (it.made clean);
      durable = λ clean trees may. holds_as AreNew (ListsRows no_rows) new_lists trees (it.durable clean trees may);
      empty = it.empty;
      «open» = it.«open»;
      crash = made_as AreNew new_lists (state g.D.Store c.args.conn) (state g.D.Store c.create_tables.new.conn) c.create_tables.ensures.ends.survives;
    }

pub returns-in-Err-clause-fault : goal.returns-in-Err-clause-fault
returns-in-Err-clause-fault g c =
    let it = c.in-Err.ensures.fault in
    record {
      known = it.known;
      cause = λ store clean. it.cause clean store;
      full = search rules;
      kept = it.kept;
      mode = c.create_tables.ensures.ends.mode;
      crash = made_as AreNew new_lists (state g.D.Store c.args.conn) (state g.D.Store c.create_tables.new.conn) c.create_tables.ensures.ends.survives;
    }
