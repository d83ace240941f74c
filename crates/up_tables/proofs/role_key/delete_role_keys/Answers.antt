use Rattle.up_tables.proofs.RoleKeyLemmas.{role_keys_delete, role_keys_emptied}
use Rattle.up_tables.proofs.StoredLemmas.{written}
use Rattle.up_tables.proofs.role_key.delete_role_keys.Goals as goal

pub returns : goal.returns
returns g c = written g.S.Store _ _ _ _ _ _ c.write.result role_keys_delete (λ h. h) (λ w survives inside runs. role_keys_emptied w _ _ survives inside runs) c.write.ensures
