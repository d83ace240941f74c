use Rattle.std.proofs.Common.{take}
use Rattle.up_tables.specs.Stored.{EachSays, Tells}
use Rattle.up_tables.proofs.reading.values_of.Given as goal

abbrev pub invariant-loop-row : goal.invariant-loop-row
invariant-loop-row g l = EachSays (Tells g.R.RowReading.says g.R.RowReading.fits g.R.RowReading.line) (take l.row-index l.rows) l.read.items
