use Rattle.std.proofs.Common.{Err, refl, subst, sym}
use Rattle.up_store.specs.Within.{EndsWrite}
use Rattle.up_store.proofs.Common.{state}
use Rattle.up_store.proofs.Committed.{committed_on, durable_on, undone_on, cause_on}
use Rattle.up_store.proofs.store.end.Goals as goal

pub returns-in-Ok-clause-ends : goal.returns-in-Ok-clause-ends
returns-in-Ok-clause-ends g c =
    let old = state g.D.Store c.args.tx.conn.now in
    let new = state g.D.Store c.commit.new.self.0 in
    let r = c.committed.result in
    let it = c.commit.ensures in
    let told = c.committed.ensures in
    let commits = committed_on old new c.commit.result r told.ok it.ok in
    subst (λ put. EndsWrite put old new r) (sym c.in-Ok.is) (record {
      told = tt;
      committed = commits;
      durable = durable_on old new r (λ is_open trees left. g.met.D.Store.settled c.commit.new.self.0.store trees is_open left) commits;
      undone = λ inside. undone_on old new c.commit.result r inside it.survives told.went it.err;
      cause = λ inside. cause_on old new c.commit.result r inside it.survives told.went told.fault it.err;
      survives = it.survives;
    })

pub returns-in-Err-clause-ends : goal.returns-in-Err-clause-ends
returns-in-Err-clause-ends g c =
    let old = state g.D.Store c.args.tx.conn.now in
    let new = state g.D.Store c.drop-tx.new.self.0 in
    let it = c.drop-tx.ensures in
    subst (λ put. EndsWrite put old new (Err c.in-Err.fault)) (sym c.in-Err.is) (record { told = refl; committed = tt; durable = tt; undone = λ _. it.undone; cause = tt; survives = it.survives })
