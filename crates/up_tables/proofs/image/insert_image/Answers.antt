use Rattle.up_tables.proofs.ImageLemmas.{image_put}
use Rattle.up_tables.proofs.StoredLemmas.{inserted}
use Rattle.up_tables.proofs.image.insert_image.Goals as goal

pub returns : goal.returns
returns g c =
    inserted g.S.Store _ _ 1 _ _ 3 7 _ _ c.write.result (image_put c.args.image.now)
    (rw (c.words.ensures, c.number.ensures, c.bytes.ensures, c.words-2.ensures, c.number-2.ensures, c.words-3.ensures, c.words-4.ensures) at c.write.ensures)
