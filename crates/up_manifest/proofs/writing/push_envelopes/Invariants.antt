use Rattle.std.proofs.Common.{◌≡◌, ◌∷◌, ◌++◌, take, map}
use Rattle.std.specs.List.{join_with_byte}
use Rattle.up_sign.specs.Formats.{envelope_text}
use Rattle.up_canon.proofs.Joined.{separator_after}
use Rattle.up_manifest.proofs.writing.push_envelopes.Given as goal

-- a bracket and the envelopes so far stand behind what stood there
abbrev pub invariant-loop-envelope : goal.invariant-loop-envelope
invariant-loop-envelope l = record {
  written : l.out.bytes.items ≡ l.fn.out.bytes.items ++ 91 ∷ join_with_byte 44 (map envelope_text (take l.envelope-index l.envelopes));
  separator : l.separator ≡ separator_after (take l.envelope-index l.envelopes);
}
