use Rattle.std.proofs.Common.{map}
use Rattle.up_tables.specs.Forms.{file_row}
use Rattle.up_tables.specs.Texts.{upsert_file_text}
use Rattle.up_tables.proofs.EachLemmas.{KeepsWriting}
use Rattle.up_tables.proofs.FileLemmas.{SetSoFar}
use Rattle.up_tables.proofs.repo_file.upsert_files.Given as goal

abbrev pub invariant-loop-file : goal.invariant-loop-file
invariant-loop-file g l = KeepsWriting g.S.Store (map (λ f. (upsert_file_text, file_row f)) l.files) (SetSoFar l.files) l.file-index l.fn.tx.conn l.tx.conn
