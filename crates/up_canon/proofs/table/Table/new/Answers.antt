use Rattle.std.proofs.Common.{ap₂, ◌∙◌}
use Rattle.up_canon.proofs.TableLemmas.{table_of, empty-table_of}
use Rattle.up_canon.proofs.table.Table.new.Goals as goal

pub returns : goal.returns
returns g c = ap₂ table_of c.new.ensures.items c.new-2.ensures.items ∙ empty-table_of
