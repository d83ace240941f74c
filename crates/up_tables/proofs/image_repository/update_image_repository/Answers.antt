use Rattle.up_tables.proofs.NumberLemmas.{numbers_write, sets_numbers}
use Rattle.up_tables.proofs.StoredLemmas.{written}
use Rattle.up_tables.proofs.image_repository.update_image_repository.Goals as goal

pub returns : goal.returns
returns g c =
    written g.S.Store _ _ _ _ _ _ c.write.result (numbers_write c.args.row.now) (λ h. h) (λ w survives inside runs. sets_numbers w _ _ c.args.row.now survives inside runs)
    (rw (c.number.ensures, c.number-2.ensures) at c.write.ensures)
