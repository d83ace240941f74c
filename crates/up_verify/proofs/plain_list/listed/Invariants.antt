use Rattle.std.proofs.Common.{◌≡◌, ◌∷◌, ◌++◌, true}
use Rattle.std.specs.List.{list_all}
use denote.Shadow.{shadow}
use denote.Text.{Utf8}
use Rattle.up_canon.proofs.Joined.{separator_after}
use Rattle.up_verify.proofs.PlainTexts.{listed}
use Rattle.up_verify.proofs.plain_list.listed.Given as goal

-- a bracket and the items so far stand in front of the rest
abbrev pub invariant-loop-turn : goal.invariant-loop-turn
invariant-loop-turn g l = record {
  utf8 : shadow (Utf8 l.separator);
  text : l.fn.cursor.rest.now ≡ 91 ∷ (listed g.T.Item.value_of l.items.items ++ l.cursor.rest.now);
  separator : l.separator ≡ separator_after l.items.items;
  fits : list_all g.T.Item.is_fit l.items.items ≡ true;
}
