use Rattle.sqlite.specs.Held.{state}
use Rattle.up_file.proofs.KeysTold.{keys_told}
use Rattle.up_file.proofs.schemes.has_keys_of.Goals as goal

pub returns-clause-told : goal.returns-clause-told
returns-clause-told g c clean =
    keys_told _ (state g.D.Store c.args.conn.now) c.args.method.now c.in_ok-found.found c.are_of.result c.told.result c.are_of.ensures c.told.ensures.yes c.told.ensures.memory (c.in_ok-found.ensures.told clean)
