use Rattle.std.proofs.Common.{◌≡◌, true, subst}
use Rattle.std.specs.Prelude.{Result}
use Rattle.sqlite.specs.Held.{Held, state}
use Rattle.up_canon.specs.declared.refusal.Refusal.{Refusal}
use Rattle.up_store.proofs.Ended.{within}
use Rattle.up_desk.specs.Carrying.{EndsCarried}
use Rattle.up_desk.specs.declared.carried.Carried.{Carried}
use Rattle.up_desk.proofs.grouped.commit_all.Goals as goal

pub carry_each-put-requires-clause-inside : goal.carry_each-put-requires-clause-inside
carry_each-put-requires-clause-inside g c =
    within g.D.Store c.args.store.now (subst (λ (h : Held _). c.transaction-tx.result.conn.now ≡ record h { in_transaction = true }) c.store.view_is c.transaction-tx.ensures.begun)

pub returns : goal.returns
returns g c = record {
  tx = c.transaction-tx.result.conn;
  mid = c.carry_each-put.new.tx.conn;
  put = c.carry_each-put.result;
  begun = subst (λ (h : Held _). c.transaction-tx.result.conn.now ≡ record h { in_transaction = true }) c.store.view_is c.transaction-tx.ensures.begun;
  all = c.carry_each-put.ensures;
  told = c.finish.result;
  ends = subst (λ (r : Result Carried Refusal). EndsCarried r (state g.D.Store c.carry_each-put.new.tx.conn.now) (state g.D.Store c.finish.new.tx.0) c.finish.result) c.as_one.ensures c.finish.ensures.ends;
  done_is = c.is_done.ensures;
}
