use Rattle.std.proofs.Common.{arith}
use Rattle.up_tables.proofs.SaysLemmas.{says_few}
use Rattle.up_tables.proofs.reading.value_of.Goals as goal

pub returns-in_default-clause-damaged : goal.returns-in_default-clause-damaged
returns-in_default-clause-damaged g c store found fit said = omega (arith, says_few g.R.RowReading.says c.args.rows.now found said, c.in_default.len_at_least)
