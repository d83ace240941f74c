use Rattle.up_file.proofs.Closed.{files_told, failed_told}
use Rattle.up_file.proofs.closing.close_file.Goals as goal

pub returns-clause-copied : goal.returns-clause-copied
returns-clause-copied g c = files_told c.close_files.result c.closed.result _ c.closed.ensures.told c.close_files.ensures.copied

pub returns-clause-failed : goal.returns-clause-failed
returns-clause-failed g c = failed_told c.args.conn c.close_files.result c.closed.result c.closed.ensures.told c.close_files.ensures.err
