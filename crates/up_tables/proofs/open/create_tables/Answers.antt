use Rattle.std.proofs.Common.{◌≡◌, rules, Err}
use Rattle.sqlite.specs.Held.{state}
use Rattle.up_tables.specs.Lines.{AreNew}
use Rattle.up_tables.specs.Making.{making}
use Rattle.up_tables.specs.Tables.{up_schema}
use Rattle.up_tables.specs.Tried.{RefusesOne}
use Rattle.up_tables.proofs.OpenedLemmas.{on_opened, commit_leaves}
use Rattle.up_tables.proofs.OpenedParts.{all_made, all_unmade}
use Rattle.up_tables.proofs.UnmadeLemmas.{failed, refused, unmade, uncommitted}
use Rattle.up_tables.proofs.open.create_tables.Goals as goal

pub returns-clause-made : goal.returns-clause-made
returns-clause-made g c =
    all_made (state g.S.Store c.args.conn.now) (state g.S.Store c.conn-2-1.given.0) c.opened-2.result (search rules)
    (on_opened _ c.commit.result c.opened-2.result c.opened-2.ensures.ok
    (commit_leaves up_schema AreNew (state g.S.Store c.make_all.new.tx.conn.now) (state g.S.Store c.conn-2-1.given.0) c.commit.result (λ is_open trees left. g.met.S.Store.settled _ trees is_open left) (search rules) (search rules) (search rules)))
    (search rules) (search rules)

pub returns-clause-ends : goal.returns-clause-ends
returns-clause-ends g c = record { mode = search rules; survives = search rules }

pub returns-clause-fault : goal.returns-clause-fault
returns-clause-fault g c =
    all_unmade (state g.S.Store c.args.conn.now) (state g.S.Store c.conn-2-1.given.0) c.opened-2.result (search rules)
    (λ clean.
    failed (state g.S.Store c.args.conn.now) (state g.S.Store c.conn-2-1.given.0) _ c.opened-2.result
    (uncommitted g.S.Store c.args.conn.now c.transaction-tx.result.conn.now c.make_all.new.tx.conn.now c.conn-2-1.given.0 c.transaction-tx.ensures.begun (λ _. ⊥) (λ db. db ≡ (state g.S.Store c.make_all.new.tx.conn.now).now.trees)
    c.make_all.ensures.step.steps.survives (search rules) (search rules) c.commit.result c.opened-2.result (search rules) c.opened-2.ensures.went c.opened-2.ensures.fault clean))
    (search rules)

pub returns-in-Err-clause-ends : goal.returns-in-Err-clause-ends
returns-in-Err-clause-ends g c = record { mode = search rules; survives = search rules }

pub returns-in-Err-clause-fault : goal.returns-in-Err-clause-fault
returns-in-Err-clause-fault g c = record {
  known = search rules;
  cause = λ clean.
      unmade (state g.S.Store c.args.conn.now) (state g.S.Store c.conn-1.given.0) c.has_no_table.ensures.settled c.requires (Err c.in-Err.fault)
      (refused g.S.Store c.args.conn.now c.transaction-tx.result.conn.now c.make_all.new.tx.conn.now c.conn-1.given.0 c.transaction-tx.ensures.begun RefusesOne making c.drop-tx.new.self.0 (search rules) c.drop-tx.ensures.survives
      c.make_all.result (Err c.in-Err.fault) c.make_all.ensures.tried c.in-Err.ensures.went c.in-Err.ensures.fault clean);
  kept = search rules;
}
