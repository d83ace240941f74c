use Rattle.std.proofs.Common.{ℕ, List, [], ◌∷◌, ap}
use Rattle.up_tables.specs.Texts.{delete_role_keys_text}
use Rattle.up_store.proofs.Common.{state, Row, role_key_row, insert_role_key_text}
use Rattle.up_store.proofs.PutBlames.{each_is}
use Rattle.up_store.proofs.RootPuts.{puts_keys}
use Rattle.up_store.proofs.WithinLemmas.{puts_many}
use Rattle.up_store.proofs.Written.{open_before}
use Rattle.up_store.proofs.roots.put_keys.Goals as goal

pub returns : goal.returns
returns g c opened inside =
    puts_many g.D.Store _ _ _ _ c.replace_role_keys.result _ _ _ (ap (λ (l : List (List ℕ × Row)). (delete_role_keys_text, []) ∷ l) (each_is insert_role_key_text role_key_row c.args.keys.now))
    (λ puts step clean. puts_keys c.replace_role_keys.result c.args.keys.now (state g.D.Store c.args.tx.now.conn.now) (state g.D.Store c.replace_role_keys.new.tx.conn.now) (puts clean) (open_before c.replace_role_keys.result step.steps clean step.is_open))
    (c.replace_role_keys.ensures opened inside)
