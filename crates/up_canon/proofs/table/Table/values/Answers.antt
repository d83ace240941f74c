use Rattle.std.proofs.Common.{sym, ap, ◌∙◌}
use Rattle.std.specs.FinMap as map
use Rattle.up_canon.proofs.TableLemmas.{values-table_of}
use Rattle.up_canon.proofs.table.Table.values.Goals as goal

pub returns : goal.returns
returns g c = c.as_slice.ensures.value ∙ sym (values-table_of _ _ c.self.invariant) ∙ ap map.values c.self.view_is
