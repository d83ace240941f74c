use Rattle.std.proofs.Common.{◌≡◌, ◌∙◌, List, [], ℕ, slice_index_or, length, map, sym, arith}
use Rattle.std.proofs.lemmas.List.{length-map}
use Rattle.sqlite.specs.Held.{state}
use Rattle.sqlite.specs.Order.{Row}
use Rattle.up_tables.specs.Forms.{file_row}
use Rattle.up_tables.specs.Texts.{upsert_file_text}
use Rattle.up_tables.specs.declared.repo_file.FileRow.{FileRow}
use Rattle.up_tables.proofs.EachLemmas.{each_ends, each_fails, each_next, each_starts, statement_at}
use Rattle.up_tables.proofs.EcuLines.{is_at}
use Rattle.up_tables.proofs.FileLemmas.{SetSoFar, all_set, next_set, none_set}
use Rattle.up_tables.proofs.repo_file.upsert_files.Goals as goal

-- what stands at no place
abbrev none : FileRow
none = record { repository = record { ref_ptr = (0, 0); now = [] }; name = record { ref_ptr = (0, 0); now = [] }; body = record { ref_ptr = (0, 0); now = [] } }

abbrev it : FileRow → List ℕ × Row
it x = (upsert_file_text, file_row x)

pub loop-file-init : goal.loop-file-init
loop-file-init g c = each_starts g.S.Store (map it c.args.files.now) (SetSoFar c.args.files.now) c.args.tx.now.conn (none_set c.args.files.now (state g.S.Store c.args.tx.now.conn.now))

pub loop-file-preserved : goal.loop-file-preserved
loop-file-preserved g c =
    let xs = c.args.files.now in
    let at = c.loop-file.file-index in
    let x = slice_index_or xs at none in
    let there = is_at xs at none (omega (arith, c.loop-file-test.true)) in
    each_next g.S.Store (map it xs) (SetSoFar xs) at (it x) _ c.args.tx.now.conn _ _ _ (statement_at it xs at x there) c.in_ok-upsert_file.ensures (λ clean so_far wrote. next_set xs at x _ _ _ there so_far (wrote clean)) c.loop-file.invariant

pub returns : goal.returns
returns g c =
    let xs = c.args.files.now in
    let at = c.loop-file.file-index in
    let end : at ≡ length xs = omega (arith, c.loop-file-test.false, c.loop-file.auto.file-index-end) in
    each_ends g.S.Store (map it xs) (SetSoFar xs) at _ _ _ _ (end ∙ sym (length-map xs it)) (λ written clean. all_set xs at _ _ end (written clean)) c.loop-file.invariant

pub returns-in_err-upsert_file : goal.returns-in_err-upsert_file
returns-in_err-upsert_file g c =
    let xs = c.args.files.now in
    let at = c.loop-file.file-index in
    let x = slice_index_or xs at none in
    each_fails g.S.Store (map it xs) (SetSoFar xs) at (it x) _ _ _ _ _ c.from_residual.result _ c.from_residual.ensures.1 (statement_at it xs at x (is_at xs at none (omega (arith, c.loop-file-test.true)))) (λ e clean. tt)
    c.in_err-upsert_file.ensures c.loop-file.invariant
