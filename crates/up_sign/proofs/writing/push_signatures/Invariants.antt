use Rattle.std.proofs.Common.{◌≡◌, ◌∷◌, ◌++◌, take, map, true}
use Rattle.std.specs.List.{join_with_byte, list_all}
use Rattle.up_canon.specs.Canon.{text}
use Rattle.up_sign.specs.Formats.{signature_value}
use Rattle.up_sign.specs.Schemes.{is_byte}
use Rattle.up_canon.proofs.Joined.{separator_after}
use Rattle.up_sign.proofs.writing.push_signatures.Given as goal

-- a bracket and the signatures so far stand behind what stood there
abbrev pub invariant-loop-signature : goal.invariant-loop-signature
invariant-loop-signature l = record {
  written : l.out.bytes.items ≡ l.fn.out.bytes.items ++ 91 ∷ join_with_byte 44 (map (λ s. text (signature_value s)) (take l.signature-index l.signatures));
  bytes : list_all (λ s. list_all is_byte s.sig) (take l.signature-index l.signatures) ≡ true;
  separator : l.separator ≡ separator_after (take l.signature-index l.signatures);
}
