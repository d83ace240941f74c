use Rattle.up_tables.proofs.Sha512Lemmas.{sha512_put}
use Rattle.up_tables.proofs.StoredLemmas.{inserted}
use Rattle.up_tables.proofs.image_sha512.insert_image_sha512.Goals as goal

pub returns : goal.returns
returns g c = inserted g.S.Store _ _ 1 _ _ 9 2 _ _ c.write.result (sha512_put c.args.file.now c.args.sha512.now) (rw (c.words.ensures, c.bytes.ensures) at c.write.ensures)
