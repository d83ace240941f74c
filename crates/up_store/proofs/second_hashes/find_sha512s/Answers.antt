use Rattle.std.proofs.Common.{Ok, refl, rules}
use Rattle.up_store.proofs.Common.{⊤, state, ok_then}
use Rattle.up_store.proofs.Blamed.{memory_blames}
use Rattle.up_store.proofs.KindsOfImages.{are_hashes, hashes_by_name, holds_hashes}
use Rattle.up_store.proofs.WithinLemmas.{finds_fault}
use Rattle.up_store.proofs.Written.{surely}
use Rattle.up_store.proofs.second_hashes.find_sha512s.Goals as goal

pub returns-in-Ok : goal.returns-in-Ok
returns-in-Ok g c inside = record {
  found = λ clean. ok_then _ _ c.by_file.result
      (λ read is rows within. is rows.images (are_hashes {E = ⊤} (λ v. v.items) (Ok c.in-Ok.found) _ _ ((c.in-Ok.ensures inside).found clean) ((c.in-Ok.ensures inside).reads clean) rows within)) c.by_file.ensures.same;
  shown = λ clean. ok_then _ _ c.by_file.result
      (λ read turn rows_of has lists. (c.in-Ok.found.items, hashes_by_name _ rows_of c.in-Ok.found.items lists ((c.in-Ok.ensures inside).found clean _ has (record { shaped = lists.shaped; every = refl })), turn)) c.by_file.ensures.told;
  reads = λ clean. surely c.by_file.result ((c.in-Ok.ensures inside).reads clean);
  «open» = search rules;
  blame = memory_blames (λ _. ⊤) (state g.D.Store c.args.tx.now.conn.now) (state g.D.Store c.image_sha512s.new.tx.conn.now) c.by_file.result (λ clean rows within fits. c.by_file.ensures.fault);
  step = search rules;
}

pub returns-in-Err : goal.returns-in-Err
returns-in-Err g c inside =
    finds_fault g.D.Store _ _ (λ _. ⊤) _ _ c.image_sha512s.result c.in-Err.fault _ (λ clean. tt) (λ rows lists fits. holds_hashes (state g.D.Store c.args.tx.now.conn.now) rows lists) (c.in-Err.ensures inside).blame (c.image_sha512s.ensures inside).step
