use Rattle.up_tables.proofs.RoleKeyLemmas.{role_key_inserts, role_key_writes}
use Rattle.up_tables.proofs.StoredLemmas.{written}
use Rattle.up_tables.proofs.role_key.insert_role_key.Goals as goal

pub returns : goal.returns
returns g c =
    written g.S.Store _ _ _ _ _ _ c.write.result (role_key_writes c.args.key.now) (λ h. h) (λ w survives inside runs. role_key_inserts w _ _ c.args.key.now survives inside runs)
    (rw (c.number.ensures, c.words.ensures, c.words-2.ensures, c.number-2.ensures, c.bytes.ensures, c.number-3.ensures) at c.write.ensures)
