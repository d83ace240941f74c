use Rattle.up_tables.proofs.KeptLemmas.{kept_put}
use Rattle.up_tables.proofs.StoredLemmas.{inserted}
use Rattle.up_tables.proofs.kept.insert_kept.Goals as goal

pub returns : goal.returns
returns g c =
    inserted g.S.Store _ _ 1 _ _ 7 8 _ _ c.write.result (kept_put c.args.kept.now)
    (rw (c.words.ensures, c.number.ensures, c.number-2.ensures, c.number-3.ensures, c.number-4.ensures, c.words-2.ensures, c.words-3.ensures, c.words-4.ensures) at c.write.ensures)
