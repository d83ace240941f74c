use Rattle.std.proofs.Common.{map}
use Rattle.up_tables.specs.Forms.{file_places}
use Rattle.up_tables.specs.Rows.{columns_at}
use Rattle.up_tables.specs.Stands.{ListsPairs}
use Rattle.up_tables.proofs.FileLemmas.{file_found}
use Rattle.up_tables.proofs.StoredLemmas.{queried_value}
use Rattle.up_tables.proofs.repo_file.file.Goals as goal

pub returns : goal.returns
returns g c =
    queried_value g.S.Store ListsPairs _ _ _ (λ rows_of. map (columns_at file_places) (rows_of c.args.repository.now c.args.name.now)) _ _ _ g.R.RowReading.says g.R.RowReading.fits g.R.RowReading.line _ _ c.find_value.result
    (file_found c.args.repository.now c.args.name.now) (rw (c.words.ensures, c.words-2.ensures) at c.find_value.ensures)
