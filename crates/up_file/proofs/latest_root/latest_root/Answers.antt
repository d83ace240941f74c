use Rattle.std.proofs.Common.{rules}
use Rattle.up_tables.proofs.OursLemmas.{clean_before_drop}
use Rattle.up_file.proofs.OldFiles.{root_told}
use Rattle.up_file.proofs.latest_root.latest_root.Goals as goal

pub returns-clause-told : goal.returns-clause-told
returns-clause-told g c late =
    let mid = clean_before_drop g.D.Store c.file.new.tx.conn.now c.drop-tx.new.self.0 c.conn-1.given.0 (search rules) c.drop-tx.ensures.survives late in
    root_told g.D.Store c.args.conn.now c.transaction-tx.result.conn c.file.new.tx.conn c.transaction-tx.ensures.begun c.file.result c.file.ensures mid
