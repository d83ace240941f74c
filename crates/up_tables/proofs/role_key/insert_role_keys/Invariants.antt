use Rattle.std.proofs.Common.{map}
use Rattle.up_tables.specs.Forms.{role_key_row}
use Rattle.up_tables.specs.Texts.{insert_role_key_text}
use Rattle.up_tables.proofs.EachLemmas.{KeepsWriting}
use Rattle.up_tables.proofs.RoleKeyLemmas.{PutSoFar}
use Rattle.up_tables.proofs.role_key.insert_role_keys.Given as goal

abbrev pub invariant-loop-key : goal.invariant-loop-key
invariant-loop-key g l = KeepsWriting g.S.Store (map (λ k. (insert_role_key_text, role_key_row k)) l.keys) (PutSoFar l.keys) l.key-index l.fn.tx.conn l.tx.conn
