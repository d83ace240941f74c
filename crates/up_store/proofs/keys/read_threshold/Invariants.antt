use Rattle.std.proofs.Common.{◌≡◌, drop}
use Rattle.up_store.proofs.Common.{find, is_key_of}
use Rattle.up_store.proofs.keys.read_threshold.Given as goal

abbrev pub invariant-loop-row : goal.invariant-loop-row
invariant-loop-row l = find (is_key_of l.root l.repository l.role) l.rows ≡ find (is_key_of l.root l.repository l.role) (drop l.row-index l.rows)
