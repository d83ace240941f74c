use Rattle.std.proofs.Common.{[], map}
use Rattle.up_tables.specs.Forms.{role_key_row}
use Rattle.up_tables.specs.Texts.{delete_role_keys_text, insert_role_key_text}
use Rattle.up_tables.proofs.FirstLemmas.{first_fails, first_then}
use Rattle.up_tables.proofs.RoleKeyLemmas.{role_keys_set}
use Rattle.up_tables.proofs.role_key.replace_role_keys.Goals as goal

pub returns : goal.returns
returns g c =
    first_then (delete_role_keys_text, []) (map (λ k. (insert_role_key_text, role_key_row k)) c.args.keys.now) g.S.Store _ _ _ _ _ _ _ c.insert_role_keys.result c.in_ok-delete_role_keys.ensures c.insert_role_keys.ensures
    (λ before first second. role_keys_set (map role_key_row c.args.keys.now) _ _ _ c.insert_role_keys.result before first second)

pub returns-in_err-delete_role_keys : goal.returns-in_err-delete_role_keys
returns-in_err-delete_role_keys g c =
    first_fails (delete_role_keys_text, []) (map (λ k. (insert_role_key_text, role_key_row k)) c.args.keys.now) g.S.Store _ _ _ _ c.from_residual.result _ c.from_residual.ensures.1 (λ e clean. tt) c.in_err-delete_role_keys.ensures
