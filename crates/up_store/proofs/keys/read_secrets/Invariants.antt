use Rattle.std.proofs.Common.{◌≡◌, ◌++◌, map, filter, drop}
use Rattle.up_store.proofs.Common.{is_key_of}
use Rattle.up_store.proofs.keys.read_secrets.Given as goal

abbrev pub invariant-loop-row : goal.invariant-loop-row
invariant-loop-row l = map (λ row. row.secret) (filter (is_key_of l.root l.repository l.role) l.rows) ≡ l.keys.items ++ map (λ row. row.secret) (filter (is_key_of l.root l.repository l.role) (drop l.row-index l.rows))
