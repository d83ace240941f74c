use Rattle.std.proofs.Common.{◌≡◌}
use Rattle.hex.specs.Hex.{encode_lower}
use Rattle.up_canon.proofs.Written.{hex-utf8, passes_utf8}
use Rattle.up_canon.proofs.writing.push_few_digits.Goals as goal

pub unwrap-requires-2 : goal.unwrap-requires-2
unwrap-requires-2 c =
    let digits : c.encode_to_slice.new.output ≡ encode_lower c.args.bytes.now = rw c.unwrap.ensures at c.encode_to_slice.ensures.written in
    passes_utf8 _ _ _ c.from_utf8.result c.from_utf8.ensures.cases (rw digits (hex-utf8 c.args.bytes.now))
