use Rattle.std.proofs.Common.{Err, rules}
use Rattle.up_store.proofs.Common.{⊤, state, ok_then, AreImages}
use Rattle.up_store.proofs.Blamed.{fits_blames, memory_blames}
use Rattle.up_store.proofs.Written.{surely}
use Rattle.up_store.proofs.images.find_with_sha512s.Goals as goal

pub returns-in-Ok : goal.returns-in-Ok
returns-in-Ok g c inside =
    let hashes = c.in-Ok.ensures inside in
    record {
      found = λ clean. ok_then _ _ c.read_images.result (λ read is rows within are. is rows.images are (hashes.found clean rows within)) c.read_images.ensures.same;
      shown = λ clean. ok_then _ _ c.read_images.result (λ read is rows_of has lists. (_, hashes.shown clean rows_of has lists, is)) c.read_images.ensures.told;
      reads = λ clean. surely c.read_images.result (hashes.reads clean);
      «open» = search rules;
      blame = memory_blames (λ rows. AreImages c.args.shown.items rows.images) (state g.D.Store c.args.tx.now.conn.now) (state g.D.Store c.find_sha512s.new.tx.conn.now) c.read_images.result (λ clean rows within fits. c.read_images.ensures.fault rows.images fits);
      step = search rules;
    }

pub returns-in-Err : goal.returns-in-Err
returns-in-Err g c inside = record {
  found = λ clean. tt;
  shown = λ clean. tt;
  reads = λ clean. tt;
  «open» = λ clean. tt;
  blame = fits_blames (λ rows. AreImages c.args.shown.items rows.images) (λ _. ⊤) (state g.D.Store c.args.tx.now.conn.now) (state g.D.Store c.find_sha512s.new.tx.conn.now) (Err c.in-Err.fault) (λ rows lists fits. tt) (c.in-Err.ensures inside).blame;
  step = search rules;
}
