use Rattle.std.proofs.Common.{◌≡◌, ◌++◌, length, map}
use Rattle.serde_json.specs.View.{view}
use Rattle.up_canon.proofs.PlainValues.{AllItems}
use Rattle.up_columns.proofs.PlainItems.{items_before}
use Rattle.up_columns.specs.Plain.{HasNoPlainItem}
use denote.Shadow.{shadow}
use denote.Text.{Utf8}
use Rattle.up_columns.proofs.values.plain_list.Given as goal

-- the items so far stand in front of the rest
abbrev pub invariant-items : goal.invariant-items
invariant-items l = record {
  utf8 : shadow (Utf8 l.rest);
  so_far : l.items ≡ items_before (map view l.values.items) ++ l.rest;
  plain : AllItems 1 (map view l.values.items);
  first : HasNoPlainItem l.items → l.rest ≡ l.items;
}

abbrev pub decreases-items : goal.decreases-items
decreases-items l = length l.rest
