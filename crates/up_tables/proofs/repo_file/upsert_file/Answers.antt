use Rattle.up_tables.proofs.FileSteps.{sets_file, file_writes}
use Rattle.up_tables.proofs.StoredLemmas.{written}
use Rattle.up_tables.proofs.repo_file.upsert_file.Goals as goal

pub returns : goal.returns
returns g c =
    let f = c.args.file.now in
    written g.S.Store _ _ _ _ _ _ c.write.result (file_writes f.repository.now f.name.now f.body.now) (λ h. h)
    (λ w survives inside runs. sets_file w _ _ f.repository.now f.name.now f.body.now survives inside runs) (rw (c.words.ensures, c.words-2.ensures, c.words-3.ensures) at c.write.ensures)
