use Rattle.std.proofs.Common.{Ok, ◌∙◌, rules}
use Rattle.up_store.proofs.Common.{⊤, state}
use Rattle.up_store.proofs.KindsOfImages.{holds_hash, hash_found}
use Rattle.up_store.proofs.WithinLemmas.{finds_fault}
use Rattle.up_store.proofs.second_hashes.find_sha512.Goals as goal

pub returns-in-Ok : goal.returns-in-Ok
returns-in-Ok g c inside =
    let told = rw c.text.ensures.value at (c.in-Ok.ensures inside).found in
    record {
      found = λ clean rows within. c.hash_of.ensures ∙ hash_found {E = ⊤} (Ok c.in-Ok.found) c.args.file.now _ _ (told clean) ((c.in-Ok.ensures inside).reads clean) rows within;
      shown = λ clean rows_of has lists. (c.in-Ok.found, (told clean rows_of has lists).said, c.hash_of.ensures);
      reads = λ clean. (c.in-Ok.ensures inside).reads clean;
      «open» = search rules;
      blame = λ clean. tt;
      step = search rules;
    }

pub returns-in-Err : goal.returns-in-Err
returns-in-Err g c inside =
    finds_fault g.D.Store _ _ (λ _. ⊤) _ _ c.image_sha512.result c.in-Err.fault _ (λ clean. tt) (λ rows lists fits. holds_hash c.args.file.now (state g.D.Store c.args.tx.now.conn.now) rows lists) (rw c.text.ensures.value at (c.in-Err.ensures inside).blame) (c.image_sha512.ensures inside).step
