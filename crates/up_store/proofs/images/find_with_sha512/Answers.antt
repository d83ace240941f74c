use Rattle.std.proofs.Common.{◌≡◌, ◌∙◌, Some, Err, ap, rules, sym, subst}
use Rattle.std.specs.FinMap as table
use Rattle.up_store.proofs.Common.{⊤, state, ImageData, ok_then, IsImage, second_hash, IsRead, IsReadImage, ReadsSha512}
use Rattle.up_store.proofs.Blamed.{fits_blames, memory_blames}
use Rattle.up_store.proofs.ReadRows.{some_then}
use Rattle.up_store.proofs.Written.{surely}
use Rattle.up_store.proofs.images.find_with_sha512.Goals as goal

pub returns-in-Ok : goal.returns-in-Ok
returns-in-Ok g c inside =
    let s = state g.D.Store c.args.tx.now.conn.now in
    let hash = c.in-Ok.ensures inside in
    record {
      found = λ clean. ok_then _ _ c.some_image.result
          (λ read is rows within image there same. is c.args.file.now image ((within.here (hash.open clean)).rows.typed.images c.args.file.now image there) same (hash.found clean rows within ∙ ap second_hash there)) c.some_image.ensures.same;
      shown = λ clean. ok_then _ _ c.some_image.result
          (λ read is rows_of has lists.
          some_then (IsReadImage c.args.shown c.in-Ok.hash) (λ image. IsRead c.args.shown image × ReadsSha512 c.args.file.now rows_of image.sha512) read
          (λ image told. (subst (λ h. IsReadImage c.args.shown h image) (sym told.sha512) told, subst (ReadsSha512 c.args.file.now rows_of) (sym told.sha512) (hash.shown clean rows_of has lists))) is) c.some_image.ensures.told;
      reads = λ clean. surely c.some_image.result (hash.reads clean);
      «open» = search rules;
      blame = memory_blames (λ rows. (image : ImageData) × (table.get rows.images c.args.file.now ≡ Some image) × IsImage c.args.shown image) s (state g.D.Store c.find_sha512.new.tx.conn.now) c.some_image.result
          (λ clean rows within fits. c.some_image.ensures.fault c.args.file.now fits.0 ((within.here (hash.open clean)).rows.typed.images c.args.file.now fits.0 fits.1) fits.2);
      step = search rules;
    }

pub returns-in-Err : goal.returns-in-Err
returns-in-Err g c inside = record {
  found = λ clean. tt;
  shown = λ clean. tt;
  reads = λ clean. tt;
  «open» = λ clean. tt;
  blame = fits_blames (λ rows. (image : ImageData) × (table.get rows.images c.args.file.now ≡ Some image) × IsImage c.args.shown image) (λ _. ⊤) (state g.D.Store c.args.tx.now.conn.now) (state g.D.Store c.find_sha512.new.tx.conn.now) (Err c.in-Err.fault)
      (λ rows lists fits. tt) (c.in-Err.ensures inside).blame;
  step = search rules;
}
