use Rattle.std.proofs.Common.{◌≡◌, map, take, true}
use Rattle.std.specs.List.{list_all}
use Rattle.serde_json.specs.View.{view}
use Rattle.up_columns.proofs.lists.list_value.Given as goal

abbrev pub invariant-loop-item : goal.invariant-loop-item
invariant-loop-item g l = (map view l.values.items ≡ map g.T.ToValue.data_of (take l.item-index l.items)) × (list_all g.T.ToValue.is_typed (take l.item-index l.items) ≡ true)
