use Rattle.std.proofs.Common.{◌≡◌, ◌∙◌, List, [], ℕ, slice_index_or, length, map, sym, arith}
use Rattle.std.proofs.lemmas.List.{length-map}
use Rattle.sqlite.specs.Held.{state}
use Rattle.sqlite.specs.Order.{Row}
use Rattle.up_tables.specs.Forms.{role_key_row}
use Rattle.up_tables.specs.Texts.{insert_role_key_text}
use Rattle.up_tables.specs.declared.role_key.RoleKeyRow.{RoleKeyRow}
use Rattle.up_tables.proofs.EachLemmas.{each_ends, each_fails, each_next, each_starts, statement_at}
use Rattle.up_tables.proofs.EcuLines.{is_at}
use Rattle.up_tables.proofs.RoleKeyLemmas.{PutSoFar, all_put, next_put, none_put}
use Rattle.up_tables.proofs.role_key.insert_role_keys.Goals as goal

-- what stands at no place
abbrev none : RoleKeyRow
none = record { root = 0; repository = record { ref_ptr = (0, 0); now = [] }; role = record { ref_ptr = (0, 0); now = [] }; place = 0; secret = record { ref_ptr = (0, 0); now = [] }; threshold = 0 }

abbrev it : RoleKeyRow → List ℕ × Row
it x = (insert_role_key_text, role_key_row x)

pub loop-key-init : goal.loop-key-init
loop-key-init g c = each_starts g.S.Store (map it c.args.keys.now) (PutSoFar c.args.keys.now) c.args.tx.now.conn (none_put c.args.keys.now (state g.S.Store c.args.tx.now.conn.now))

pub loop-key-preserved : goal.loop-key-preserved
loop-key-preserved g c =
    let xs = c.args.keys.now in
    let at = c.loop-key.key-index in
    let x = slice_index_or xs at none in
    let there = is_at xs at none (omega (arith, c.loop-key-test.true)) in
    each_next g.S.Store (map it xs) (PutSoFar xs) at (it x) _ c.args.tx.now.conn _ _ _ (statement_at it xs at x there) c.in_ok-insert_role_key.ensures (λ clean so_far wrote. next_put xs at x _ _ _ there so_far (wrote clean)) c.loop-key.invariant

pub returns : goal.returns
returns g c =
    let xs = c.args.keys.now in
    let at = c.loop-key.key-index in
    let end : at ≡ length xs = omega (arith, c.loop-key-test.false, c.loop-key.auto.key-index-end) in
    each_ends g.S.Store (map it xs) (PutSoFar xs) at _ _ _ _ (end ∙ sym (length-map xs it)) (λ written clean. all_put xs at _ _ end (written clean)) c.loop-key.invariant

pub returns-in_err-insert_role_key : goal.returns-in_err-insert_role_key
returns-in_err-insert_role_key g c =
    let xs = c.args.keys.now in
    let at = c.loop-key.key-index in
    let x = slice_index_or xs at none in
    each_fails g.S.Store (map it xs) (PutSoFar xs) at (it x) _ _ _ _ _ c.from_residual.result _ c.from_residual.ensures.1 (statement_at it xs at x (is_at xs at none (omega (arith, c.loop-key-test.true)))) (λ e clean. tt)
    c.in_err-insert_role_key.ensures c.loop-key.invariant
