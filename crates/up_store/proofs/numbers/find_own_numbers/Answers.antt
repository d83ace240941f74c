use Rattle.std.proofs.Common.{◌≡◌, Some, None, rules}
use Rattle.up_store.proofs.Common.{⊤, own_told, state}
use Rattle.up_store.proofs.KindsOfFounding.{holds_own, own_found}
use Rattle.up_store.proofs.WithinLemmas.{finds_fault}
use Rattle.up_store.proofs.numbers.find_own_numbers.Goals as goal

pub returns-in-Ok-Some : goal.returns-in-Ok-Some
returns-in-Ok-Some g c inside =
    let before = state g.D.Store c.args.tx.now.conn.now in
    let after = state g.D.Store c.image_repository.new.tx.conn.now in
    let row = c.in-Ok-Some.row in
    let it = c.in-Ok-Some.ensures inside in
    let told = rw c.in-Ok-Some.field-0-is at it.found in
    record {
      found = λ clean rows within.
          let same : Some row ≡ Some (own_told rows.founding) = own_found (Some row) before after (told clean) (it.reads clean).was_open rows within in
          let e : row ≡ own_told rows.founding = cc in e;
      shown = λ clean has. (told clean has).said;
      reads = λ clean. it.reads clean;
      «open» = λ clean. (it.reads clean).was_open;
      blame = λ clean. tt;
      step = record { same_reference = (c.image_repository.ensures inside).step.same_reference; steps = (c.image_repository.ensures inside).step.steps };
    }

pub returns-in-Ok-None : goal.returns-in-Ok-None
returns-in-Ok-None g c inside =
    let before = state g.D.Store c.args.tx.now.conn.now in
    record {
      found = λ clean. tt;
      shown = λ clean. tt;
      reads = λ clean. tt;
      «open» = λ clean. tt;
      blame = λ clean told is_open unlimited rows within fits.
          let gone : None ≡ Some (own_told rows.founding) = own_found None before (state g.D.Store c.image_repository.new.tx.conn.now) ((rw c.in-Ok-None.field-0-is at (c.in-Ok-None.ensures inside).found) clean) is_open rows within in absurd cc;
      step = search rules;
    }

pub returns-in-Err : goal.returns-in-Err
returns-in-Err g c inside =
    finds_fault g.D.Store _ _ (λ _. ⊤) _ _ c.image_repository.result c.in-Err.fault _ (λ clean. tt) (λ rows lists fits. holds_own (state g.D.Store c.args.tx.now.conn.now) rows lists) (c.in-Err.ensures inside).blame (c.image_repository.ensures inside).step
