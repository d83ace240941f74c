use Rattle.sqlite.specs.Held.{state}
use Rattle.up_tables.proofs.WhoseLemmas.{version_in_row, row_names, others_no_row, no_row_others}
use Rattle.up_tables.proofs.laws.meta_tells_whose.Goals as goal

pub returns : goal.returns
returns g c = record {
  named = version_in_row (state g.S.Store c.args.conn.now);
  names = row_names (state g.S.Store c.args.conn.now);
  others = others_no_row (state g.S.Store c.args.conn.now);
  none = no_row_others (state g.S.Store c.args.conn.now);
}
