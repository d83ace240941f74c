use Rattle.std.proofs.Common.{◌≡◌, ◌∷◌, ◌++◌, ◌+◌, ◌-◌}
use Rattle.std.specs.Prelude.{IsTrue, flat_map, string_len}
use Rattle.up_canon.specs.Canon.{escape_of, is_printable_text}
use Rattle.up_manifest.proofs.cursor.Cursor.escaped.Given as goal

-- a quote and the text so far stand in front of the rest, and the text is printable
abbrev pub invariant-pieces : goal.invariant-pieces
invariant-pieces l = (l.fn.self.rest.now ≡ 34 ∷ (flat_map escape_of l.text.bytes.items ++ l.self.rest.now)) × IsTrue (is_printable_text l.text.bytes.items)

abbrev pub decreases-pieces : goal.decreases-pieces
decreases-pieces l = l.fn.most + 1 - string_len l.text
