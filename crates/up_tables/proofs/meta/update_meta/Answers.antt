use Rattle.up_tables.proofs.MetaReads.{sets_meta, meta_writes}
use Rattle.up_tables.proofs.StoredLemmas.{written}
use Rattle.up_tables.proofs.meta.update_meta.Goals as goal

pub returns : goal.returns
returns g c =
    written g.S.Store _ _ _ _ _ _ c.write.result (meta_writes c.args.meta.now) (λ h. h) (λ w survives inside runs. sets_meta w _ _ c.args.meta.now survives inside runs)
    (rw (c.number.ensures, c.number-2.ensures, c.number-3.ensures) at c.write.ensures)
