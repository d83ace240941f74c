use Rattle.std.proofs.Common.{map, ap, refl, ◌∙◌}
use Rattle.up_store.proofs.Common.{state, shown_row, upsert_file_text, file_read, each_with}
use Rattle.up_store.proofs.PutBlames.{each_is}
use Rattle.up_store.proofs.RootBlames.{files_are}
use Rattle.up_store.proofs.RootPuts.{puts_files}
use Rattle.up_store.proofs.WithinLemmas.{puts_many}
use Rattle.up_store.proofs.Written.{open_before}
use Rattle.up_store.proofs.roots.put_files.Goals as goal

pub returns : goal.returns
returns g c opened inside =
    let files = c.args.files.now in
    puts_many g.D.Store _ _ _ _ c.upsert_files.result _ _ _ (each_is upsert_file_text shown_row files ∙ ap (each_with upsert_file_text) (files_are files (map file_read files) refl))
    (λ sets step clean. puts_files c.upsert_files.result (map file_read files) files (state g.D.Store c.args.tx.now.conn.now) (state g.D.Store c.upsert_files.new.tx.conn.now) refl (sets clean) (open_before c.upsert_files.result step.steps clean step.is_open))
    (c.upsert_files.ensures opened inside)
