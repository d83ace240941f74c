use Rattle.std.proofs.Common.{◌≡◌}
use Rattle.hex.specs.Hex.{encode_lower}
use Rattle.up_program.proofs.Digits.{IsUtf8-encode_lower}
use Rattle.up_program.proofs.digests.push_hex.Goals as goal

pub unreachable-requires : goal.unreachable-requires
unreachable-requires c =
    let digits : c.encode_to_slice.new.output ≡ encode_lower c.args.bytes.now = rw c.unwrap.ensures at c.encode_to_slice.ensures.written in
    (rw c.in_default.is at c.from_utf8.ensures.cases).0 (rw digits (IsUtf8-encode_lower c.args.bytes.now))
